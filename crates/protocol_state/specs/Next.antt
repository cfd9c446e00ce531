-- The state after an accepted event, and the number read.
-- Assumes nothing.
use Rattle.std.specs.Prelude.{Bool, cond, ◌&&◌, List, ℕ, eqb, set}
use Rattle.lists.specs.Lists.{upto}
use Rattle.protocol.specs.Event.{Event, arrival, start, read, finish, has}
use Rattle.protocol.specs.Table.{marked}
use Rattle.protocol.specs.Published.{seen_once}
use Rattle.protocol.specs.Free.{lowest_free}
use Rattle.protocol_state.specs.Saved.{Saved, at, cell_of, delayed_kind, is_mark}
use Rattle.protocol_state.specs.Decision.{decided}

-- the state with these parts, and the others as they are: what the fields below are put anew by, and nothing else
abbrev with_parts : Saved → List ℕ → List ℕ → List ℕ → List ℕ → List ℕ → List ℕ → List ℕ → List ℕ → ℕ → Saved
with_parts q ph n p a C x m s z = record {
  tasks = q.tasks;
  links = q.links;
  defaults = q.defaults;
  phase = ph;
  newest = n;
  previous = p;
  seen = a;
  cells = C;
  writer = q.writer;
  reader = q.reader;
  kind = q.kind;
  start_value = q.start_value;
  pointer = x;
  mark = m;
  deadline = q.deadline;
  since = s;
  last = z;
  policy = q.policy;
}

-- the state with one field anew
abbrev pub with_phase : List ℕ → Saved → Saved
with_phase x q = with_parts q x q.newest q.previous q.seen q.cells q.pointer q.mark q.since q.last

abbrev pub with_newest : List ℕ → Saved → Saved
with_newest x q = with_parts q q.phase x q.previous q.seen q.cells q.pointer q.mark q.since q.last

abbrev pub with_previous : List ℕ → Saved → Saved
with_previous x q = with_parts q q.phase q.newest x q.seen q.cells q.pointer q.mark q.since q.last

abbrev pub with_seen : List ℕ → Saved → Saved
with_seen x q = with_parts q q.phase q.newest q.previous x q.cells q.pointer q.mark q.since q.last

abbrev pub with_cells : List ℕ → Saved → Saved
with_cells x q = with_parts q q.phase q.newest q.previous q.seen x q.pointer q.mark q.since q.last

abbrev pub with_pointer : List ℕ → Saved → Saved
with_pointer x q = with_parts q q.phase q.newest q.previous q.seen q.cells x q.mark q.since q.last

abbrev pub with_mark : List ℕ → Saved → Saved
with_mark x q = with_parts q q.phase q.newest q.previous q.seen q.cells q.pointer x q.since q.last

abbrev pub with_ticks : List ℕ → ℕ → Saved → Saved
with_ticks s z q = with_parts q q.phase q.newest q.previous q.seen q.cells q.pointer q.mark s z

-- arrival of the set s, the writers' part: task t's previous y becomes its newest
abbrev pub previous_at : ℕ → (ℕ → ℕ) → ℕ → ℕ → ℕ
previous_at s newest t y = cond (has s t) (newest t) y

-- and one more of its arrivals, a, is seen
abbrev pub seen_at : ℕ → ℕ → ℕ → ℕ
seen_at s t a = cond (has s t) (seen_once a) a

-- the readers' part: link l's pointer x becomes the writer's newest if direct, previous if delayed
abbrev pub pointer_at : ℕ → (ℕ → ℕ) → (ℕ → ℕ) → (ℕ → ℕ) → (ℕ → ℕ) → (ℕ → ℕ) → ℕ → ℕ → ℕ
pointer_at s W R K newest previous l x = cond (has s (R l)) (cond (delayed_kind (K l)) (previous (W l)) (newest (W l))) x

-- and its mark m is set or cleared, by the arrivals of its writer
abbrev pub mark_at : ℕ → (ℕ → ℕ) → (ℕ → ℕ) → (ℕ → ℕ) → (ℕ → ℕ) → ℕ → ℕ → ℕ
mark_at s W R K seen l m = cond (has s (R l)) (cond (marked (delayed_kind (K l)) (seen (W l))) 1 0) m

-- then all in the set are waiting
abbrev pub phase_at : ℕ → ℕ → ℕ → ℕ
phase_at s t x = cond (has s t) (decided 0 x) x

-- the previous positions after the arrival of the set s
unfoldable pub previous_after : ℕ → Saved → List ℕ
previous_after s q = upto (previous_at s (at q.newest)) q.tasks q.previous

-- what is seen of arrivals
unfoldable pub seen_after : ℕ → Saved → List ℕ
seen_after s q = upto (seen_at s) q.tasks q.seen

-- the marks, set only after the writers' part
unfoldable pub mark_after : ℕ → Saved → List ℕ
mark_after s q = upto (mark_at s (at q.writer) (at q.reader) (at q.kind) (at (seen_after s q))) q.links q.mark

-- and the phases
unfoldable pub phase_after : ℕ → Saved → List ℕ
phase_after s q = upto (phase_at s) q.tasks q.phase

-- the phases after an event of kind k by task t
abbrev pub phases_after : ℕ → ℕ → List ℕ → List ℕ
phases_after k t ph = set ph t (decided k (at ph t))

-- start: the task is running, and nothing else changes
abbrev pub started : ℕ → Saved → Saved
started t q = with_phase (phases_after 1 t q.phase) q

-- the number that link l reads: its start value where it is marked, else the one at its pointer in its writer's positions
abbrev pub number_read : ℕ → (ℕ → ℕ) → (ℕ → ℕ) → (ℕ → ℕ) → (ℕ → ℕ) → (ℕ → ℕ) → ℕ
number_read l W P M B C = cond (is_mark (M l)) (B l) (C (cell_of (W l) (P l)))

module _ (ahead : ℕ → ℕ → Bool) where
  -- the writers' part: task t's newest x becomes the lowest free position; n counts the links
  abbrev pub newest_at : ℕ → (ℕ → ℕ) → (ℕ → ℕ) → (ℕ → ℕ) → ℕ → ℕ → ℕ → ℕ
  newest_at s W R P n t x = cond (has s t) (lowest_free ahead W R P n t x) x

  -- as t finishes: the pointer x of a link from w to r becomes absent, if t reads by it from a writer ahead of it; and its mark x, likewise, goes
  abbrev pub freed : ℕ → ℕ → ℕ → ℕ → ℕ
  freed t w r x = cond (eqb r t && ahead w t) 0 x

  -- that of link l
  abbrev pub freed_at : ℕ → (ℕ → ℕ) → (ℕ → ℕ) → ℕ → ℕ → ℕ
  freed_at t W R l x = freed t (W l) (R l) x

  -- the newest positions after the arrival of the set s
  unfoldable pub newest_after : ℕ → Saved → List ℕ
  newest_after s q = upto (newest_at s (at q.writer) (at q.reader) (at q.pointer) q.links) q.tasks q.newest

  -- the pointers, set only after the writers' part
  unfoldable pub pointer_after : ℕ → Saved → List ℕ
  pointer_after s q =
      upto (pointer_at s (at q.writer) (at q.reader) (at q.kind) (at (newest_after s q)) (at (previous_after s q))) q.links q.pointer

  -- arrival of the set s: no mailbox changes
  abbrev pub arrived : ℕ → Saved → Saved
  arrived s q =
      with_mark (mark_after s q)
      (with_pointer (pointer_after s q)
      (with_phase (phase_after s q) (with_seen (seen_after s q) (with_newest (newest_after s q) (with_previous (previous_after s q) q)))))

  -- of all links' pointers, or marks
  abbrev pub freed_in : ℕ → Saved → List ℕ → List ℕ
  freed_in t q xs = upto (freed_at t (at q.writer) (at q.reader)) q.links xs

  -- finish, of all but the mailboxes: pointers from writers ahead become absent, and their marks go; the task is idle
  abbrev pub released : ℕ → Saved → Saved
  released t q = with_phase (phases_after 3 t q.phase) (with_mark (freed_in t q q.mark) (with_pointer (freed_in t q q.pointer) q))

  -- finish: and the value goes to the newest position
  abbrev pub finished : ℕ → ℕ → Saved → Saved
  finished t v q = released t (with_cells (set q.cells (cell_of t (at q.newest t)) v) q)

  -- what an accepted event makes of the state; a read leaves it
  abbrev pub next : Saved → Event ℕ → Saved
  next q (arrival s) = arrived s q
  next q (start t) = started t q
  next q (read l) = q
  next q (finish t v) = finished t v q

-- an arrival of the set s at tick x: who arrives keeps it as the tick of his arrival
abbrev pub since_at : ℕ → ℕ → ℕ → ℕ → ℕ
since_at s x t y = cond (has s t) x y

-- the arrival ticks after an accepted event at tick x: an arrival keeps its own, and a finish sets it back
unfoldable pub since_after : ℕ → Event ℕ → Saved → List ℕ
since_after x (arrival s) q = upto (since_at s x) q.tasks q.since
since_after x (start t) q = q.since
since_after x (read l) q = q.since
since_after x (finish t v) q = set q.since t 0

-- the ticks after it: each accepted event sets the last one. Under fixed priorities there are none to keep
abbrev pub clocked : ℕ → Event ℕ → Saved → Saved
clocked x e q = with_ticks (cond (eqb q.policy 0) q.since (since_after x e q)) (cond (eqb q.policy 0) q.last x) q

-- what an accepted event at tick x makes of the state
abbrev pub next_at : (ℕ → ℕ → Bool) → Saved → ℕ → Event ℕ → Saved
next_at ahead q x e = clocked x e (next ahead q e)

-- the value of an accepted event: the number of a read, else 0
abbrev pub value_by : Event ℕ → (ℕ → ℕ) → (ℕ → ℕ) → (ℕ → ℕ) → (ℕ → ℕ) → (ℕ → ℕ) → ℕ
value_by (arrival s) W P M B C = 0
value_by (start t) W P M B C = 0
value_by (read l) W P M B C = number_read l W P M B C
value_by (finish t v) W P M B C = 0

-- that of an event given to a saved state
abbrev pub value_of : Saved → Event ℕ → ℕ
value_of q e = value_by e (at q.writer) (at q.pointer) (at q.mark) (at q.start_value) (at q.cells)
