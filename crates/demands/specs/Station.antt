-- A station's table, made from its tasks and its links, which are records.
-- Assumes nothing.
use Rattle.std.specs.Prelude.{◌≡◌, List, [], ℕ, ◌≤◌, ◌<◌, eqb, length}
use Rattle.protocol.specs.Table.{Table}
use Rattle.protocol_deadlines.specs.Deadline.{in_order}
-- a table that is handed over in arrays, as its first tasks and links
pub use Rattle.protocol_state.specs.Records.{first_tasks, first_links}
use Rattle.protocol_state.specs.Records.{Task, task_of, deadline_of, Link, link_of, ahead_of}
use Rattle.protocol_state.specs.Saved.{state_room}
use Rattle.protocol_state.specs.Rules.{Obeys}

-- the table of these tasks and links, as the protocol and the run where tasks take no time see it; a link of kind 1 is delayed
abbrev pub station : List Task → List Link → Table ℕ
station ds ls = record {
  tasks = length ds;
  links = length ls;
  default = λ t. (task_of ds t).default;
  deadline = deadline_of ds;
  start_value = λ l. (link_of ls l).start_value;
  writer = λ l. (link_of ls l).writer;
  reader = λ l. (link_of ls l).reader;
  delayed = λ l. eqb (link_of ls l).kind 1;
  ahead = ahead_of ds;
}

-- "most urgent first": the order in which the run where tasks take no time takes the tasks (that it is: demand 3's `order`)
abbrev pub most_urgent_first : Table ℕ → List ℕ
most_urgent_first T = in_order T.ahead T.tasks

-- how a table is handed over: under fixed priorities, 0, without deadlines; under earliest deadline first, 1, with some
pub data HandedOver : ℕ → List ℕ → Type 0 where
  without : HandedOver 0 []
  with : (X : List ℕ) → HandedOver 1 X

-- "no relative deadline of 0", under earliest deadline first
abbrev pub AllDated : ℕ → List Task → Type 0
AllDated p ds = p ≡ 1 → (t : ℕ) → t < length ds → 1 ≤ deadline_of ds t

-- "its links obey the published rules", each of them rules 4 to 9 and 20; "T, 1 to" 32, "L, 0 to" 96, which is the room of a state; and rule 24, under the policy p
pub record Keeps (p : ℕ) (ds : List Task) (ls : List Link) : Type 0 where
  pub tasks : (1 ≤ length ds) × (length ds ≤ state_room.tasks)
  pub dates : AllDated p ds
  pub links : length ls ≤ state_room.links
  pub rules : (l : ℕ) → l < length ls → Obeys (ahead_of ds) (length ds) (link_of ls) l
