-- The three lent arrays of a state, cut into regions, and the saved state that they are.
-- Assumes nothing.
use Rattle.std.specs.Prelude.{◌≡◌, Bool, List, [], ◌∷◌, ◌++◌, ℕ, ◌+◌, ◌*◌, min, length, replicate}
use Rattle.protocol_deadlines.specs.Deadline.{smaller, ahead_by}
use Rattle.protocol_state.specs.Records.{Link, link_from}
use Rattle.protocol_state.specs.Saved.{Saved, state_room, positions, at}
use Rattle.regions.specs.Regions.{regions, region}

-- so many regions of the control are by task: phase, newest, previous, seen
abbrev pub by_task : ℕ
by_task = 4

-- then so many are by link: pointer, mark, writer, reader, kind
abbrev pub by_link : ℕ
by_link = 5

abbrev pub control_widths : List ℕ
control_widths = replicate by_task state_room.tasks ++ (replicate by_link state_room.links ++ [])

-- the values: by task default; by link start value; the cells
abbrev pub value_widths : List ℕ
value_widths = state_room.tasks ∷ state_room.links ∷ state_room.tasks * positions ∷ []

-- the times: by task relative deadline and arrival tick; the last tick; the policy
abbrev pub time_widths : List ℕ
time_widths = state_room.tasks ∷ state_room.tasks ∷ 1 ∷ 1 ∷ []

-- how many bytes and numbers these are
abbrev pub control_size : ℕ
control_size = by_task * state_room.tasks + by_link * state_room.links

abbrev pub value_size : ℕ
value_size = state_room.tasks + state_room.links + state_room.tasks * positions

abbrev pub time_size : ℕ
time_size = state_room.tasks + state_room.tasks + 2

-- the number of each region: of the control
abbrev pub phase_region : ℕ
phase_region = 0

abbrev pub newest_region : ℕ
newest_region = 1

abbrev pub previous_region : ℕ
previous_region = 2

abbrev pub seen_region : ℕ
seen_region = 3

abbrev pub pointer_region : ℕ
pointer_region = 4

abbrev pub mark_region : ℕ
mark_region = 5

abbrev pub writer_region : ℕ
writer_region = 6

abbrev pub reader_region : ℕ
reader_region = 7

abbrev pub kind_region : ℕ
kind_region = 8

-- of the values
abbrev pub default_region : ℕ
default_region = 0

abbrev pub start_value_region : ℕ
start_value_region = 1

abbrev pub cell_region : ℕ
cell_region = 2

-- and of the times
abbrev pub deadline_region : ℕ
deadline_region = 0

abbrev pub since_region : ℕ
since_region = 1

abbrev pub last_region : ℕ
last_region = 2

abbrev pub policy_region : ℕ
policy_region = 3

-- the control, the values and the times, cut
abbrev pub cut : List ℕ → List (List ℕ)
cut c = regions control_widths c

abbrev pub cut_values : List ℕ → List (List ℕ)
cut_values v = regions value_widths v

abbrev pub cut_times : List ℕ → List (List ℕ)
cut_times x = regions time_widths x

-- the fields of the control
abbrev pub phase_in : List ℕ → List ℕ
phase_in c = region (cut c) phase_region

abbrev pub newest_in : List ℕ → List ℕ
newest_in c = region (cut c) newest_region

abbrev pub previous_in : List ℕ → List ℕ
previous_in c = region (cut c) previous_region

abbrev pub pointer_in : List ℕ → List ℕ
pointer_in c = region (cut c) pointer_region

abbrev pub mark_in : List ℕ → List ℕ
mark_in c = region (cut c) mark_region

abbrev pub writer_in : List ℕ → List ℕ
writer_in c = region (cut c) writer_region

abbrev pub reader_in : List ℕ → List ℕ
reader_in c = region (cut c) reader_region

abbrev pub kind_in : List ℕ → List ℕ
kind_in c = region (cut c) kind_region

-- of the values
abbrev pub defaults_in : List ℕ → List ℕ
defaults_in v = region (cut_values v) default_region

abbrev pub start_value_in : List ℕ → List ℕ
start_value_in v = region (cut_values v) start_value_region

abbrev pub cells_in : List ℕ → List ℕ
cells_in v = region (cut_values v) cell_region

-- and of the times
abbrev pub deadline_in : List ℕ → List ℕ
deadline_in x = region (cut_times x) deadline_region

abbrev pub since_in : List ℕ → List ℕ
since_in x = region (cut_times x) since_region

abbrev pub last_in : List ℕ → ℕ
last_in x = at (region (cut_times x) last_region) 0

abbrev pub policy_in : List ℕ → ℕ
policy_in x = at (region (cut_times x) policy_region) 0

-- the links of both
abbrev pub link_held : List ℕ → List ℕ → ℕ → Link
link_held c v = link_from (writer_in c) (reader_in c) (kind_in c) (start_value_in v)

-- the saved state of T tasks and L links with these regions of control, of values and of times
abbrev pub fields_of : ℕ → ℕ → List (List ℕ) → List (List ℕ) → List (List ℕ) → Saved
fields_of T L c v x = record {
  tasks = T;
  links = L;
  defaults = region v default_region;
  phase = region c phase_region;
  newest = region c newest_region;
  previous = region c previous_region;
  seen = region c seen_region;
  cells = region v cell_region;
  writer = region c writer_region;
  reader = region c reader_region;
  kind = region c kind_region;
  start_value = region v start_value_region;
  pointer = region c pointer_region;
  mark = region c mark_region;
  deadline = region x deadline_region;
  since = region x since_region;
  last = at (region x last_region) 0;
  policy = at (region x policy_region) 0;
}

-- the regions of the control, of the values and of the times, from the fields of a state
abbrev pub control_of : Saved → List (List ℕ)
control_of q = q.phase ∷ q.newest ∷ q.previous ∷ q.seen ∷ q.pointer ∷ q.mark ∷ q.writer ∷ q.reader ∷ q.kind ∷ []

abbrev pub values_of : Saved → List (List ℕ)
values_of q = q.defaults ∷ q.start_value ∷ q.cells ∷ []

abbrev pub times_of : Saved → List (List ℕ)
times_of q = q.deadline ∷ q.since ∷ (q.last ∷ []) ∷ (q.policy ∷ []) ∷ []

-- the saved state that the control c, the values v and the times x are
abbrev pub state_of : ℕ → ℕ → List ℕ → List ℕ → List ℕ → Saved
state_of T L c v x = fields_of T L (cut c) (cut_values v) (cut_times x)

-- the same, where counts above the room are taken as the room
abbrev pub view_of : ℕ → ℕ → List ℕ → List ℕ → List ℕ → Saved
view_of T L c v x = state_of (min T state_room.tasks) (min L state_room.links) c v x

-- arrays of a state have these lengths: an array's length is its type
pub record HasLengths (c v x : List ℕ) : Type 0 where
  pub control : length c ≡ control_size
  pub values : length v ≡ value_size
  pub times : length x ≡ time_size

-- with the control after, whatever the values and the times are, the state is `f` of the state with the control before
abbrev pub Becomes : (Saved → Saved) → ℕ → ℕ → List ℕ → List ℕ → Type 0
Becomes f T L c c' = (v x : List ℕ) → state_of T L c' v x ≡ f (state_of T L c v x)

-- who is ahead of whom, by the deadlines among these times
abbrev pub ahead_among : List ℕ → ℕ → ℕ → Bool
ahead_among x = ahead_by (at (deadline_in x))

-- whose job goes before whose: it is due earlier, ties by the order of tasks
abbrev pub sooner_among : List ℕ → ℕ → ℕ → Bool
sooner_among x u t = smaller (at (since_in x) u + at (deadline_in x) u) (at (since_in x) t + at (deadline_in x) t) (ahead_among x u t)
