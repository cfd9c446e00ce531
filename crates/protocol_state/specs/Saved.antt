-- A saved state as lists of numbers, and what it says as a table and as the boxes of the published protocol.
-- Assumes nothing.
use Rattle.std.specs.Prelude.{◌≡◌, Bool, cond, not, ◌&&◌, List, ℕ, ◌+◌, ◌-◌, ◌*◌, eqb, leb, get_or, length}
use Rattle.protocol.specs.Table.{Table}
use Rattle.protocol.specs.Published.{Boxes}
use Rattle.protocol_deadlines.specs.Deadline.{ahead_by}
use Rattle.protocol_state.specs.Records.{Link, link_from}

-- how many tasks and links there is room for
pub record Size : Type 0 where
  pub tasks : ℕ
  pub links : ℕ

-- the room of a state: "T goes to 32, L to 96"
abbrev pub state_room : Size
state_room = record { tasks = 32; links = 96 }

-- N is at most 8, so a task has at most 10 positions
abbrev pub positions : ℕ
positions = 10

-- what stands at place i, and 0 past the end
abbrev pub at : List ℕ → ℕ → ℕ
at xs i = get_or xs i 0

-- where position p of task t stands among the cells
abbrev pub cell_of : ℕ → ℕ → ℕ
cell_of t p = t * positions + (p - 1)

-- a phase is 0 idle, 1 waiting or 2 running; `seen` is 0, 1 or 2 for no, one or more arrivals; a pointer of 0 is absent; a mark is 0 for none or 1;
-- a kind is 0 direct or 1 delayed; a policy is 0 for fixed priorities or 1 for earliest deadline first. `since` is the arrival tick of an active job, 0 of an
-- idle task; `last` is the tick of the last accepted event, 0 when fresh
pub record Saved : Type 0 where
  pub tasks : ℕ
  pub links : ℕ
  pub defaults : List ℕ
  pub phase : List ℕ
  pub newest : List ℕ
  pub previous : List ℕ
  pub seen : List ℕ
  pub cells : List ℕ
  pub writer : List ℕ
  pub reader : List ℕ
  pub kind : List ℕ
  pub start_value : List ℕ
  pub pointer : List ℕ
  pub mark : List ℕ
  pub deadline : List ℕ
  pub since : List ℕ
  pub last : ℕ
  pub policy : ℕ

-- the lists have room for just so many
pub record Shape (size : Size) (q : Saved) : Type 0 where
  pub defaults : length q.defaults ≡ size.tasks
  pub phase : length q.phase ≡ size.tasks
  pub newest : length q.newest ≡ size.tasks
  pub previous : length q.previous ≡ size.tasks
  pub seen : length q.seen ≡ size.tasks
  pub cells : length q.cells ≡ size.tasks * positions
  pub writer : length q.writer ≡ size.links
  pub reader : length q.reader ≡ size.links
  pub kind : length q.kind ≡ size.links
  pub start_value : length q.start_value ≡ size.links
  pub pointer : length q.pointer ≡ size.links
  pub mark : length q.mark ≡ size.links
  pub deadline : length q.deadline ≡ size.tasks
  pub since : length q.since ≡ size.tasks

-- the kind of a delayed link
abbrev pub delayed_kind : ℕ → Bool
delayed_kind k = eqb k 1

-- the mark of a link that is marked
abbrev pub is_mark : ℕ → Bool
is_mark m = eqb m 1

-- who is ahead of whom, by the relative deadlines of its tasks
abbrev pub ahead_in : Saved → ℕ → ℕ → Bool
ahead_in q = ahead_by (at q.deadline)

-- its link l
abbrev pub link_in : Saved → ℕ → Link
link_in q = link_from q.writer q.reader q.kind q.start_value

-- its table, under the order `ahead`
abbrev pub table : (ℕ → ℕ → Bool) → Saved → Table ℕ
table ahead q = record {
  tasks = q.tasks;
  links = q.links;
  default = at q.defaults;
  deadline = at q.deadline;
  start_value = at q.start_value;
  writer = at q.writer;
  reader = at q.reader;
  delayed = λ l. delayed_kind (at q.kind l);
  ahead = ahead;
}

-- a task in this phase is active: not idle
abbrev pub active_phase : ℕ → Bool
active_phase p = not (eqb p 0)

-- task t is active in it
abbrev pub busy : Saved → ℕ → Bool
busy q t = active_phase (at q.phase t)

-- p is one of 1 to m
abbrev pub one_to : ℕ → ℕ → Bool
one_to m p = leb 1 p && leb p m

-- its boxes; past the lists all is as in fresh boxes, and what is no position holds the default
abbrev pub boxes : Saved → Boxes ℕ
boxes q = record {
  newest = λ t. get_or q.newest t 1;
  previous = λ t. get_or q.previous t 1;
  seen = at q.seen;
  pointer = at q.pointer;
  mark = λ l. is_mark (at q.mark l);
  cell = λ t p. cond (one_to positions p) (at q.cells (cell_of t p)) (at q.defaults t);
}
