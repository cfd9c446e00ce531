-- Refusals 2 to 9, 12 to 16, 18 and 20 to 24, of links, tables and events: one case for each line of document 01's table, and document 02's, in its words; and which of
-- those that fit is given. (1, 2 of the first byte, 10, 11 and 17 are the bytes': Recordings. 19 is a state that is not sound.)
-- Assumes nothing.
use Rattle.std.specs.Prelude.{◌≡◌, ◌≢◌, ◌⊎◌, Bool, true, false, cond, List, ◌∷◌, ◌++◌, ℕ, ◌*◌, ◌≤◌, ◌<◌, eqb, length}
use Rattle.protocol.specs.Event.{Event, arrival, start, read, finish, has}
use Rattle.protocol.specs.Table.{Table}
use Rattle.protocol.specs.History as history
use Rattle.protocol.specs.History.{reads}
use Rattle.protocol_deadlines.specs.Deadline.{smaller, due_tick}
use Rattle.protocol_deadlines.specs.Timed.{Timed, limit, untimed, last, ticks}
use Rattle.protocol_state.specs.Records.{Task, deadline_of, link_of, ahead_of}
use Rattle.protocol_state.specs.Saved.{state_room}
use Rattle.protocol_state.specs.Rules.{links_behind}
use Rattle.recording_format.specs.Link.{Link}
use Rattle.demands.specs.Station.{AllDated, Keeps}

-- the turn in which a number is tried: "rising order", but "22 then 21 come after 12, 23 after 16"
unfoldable pub turn : ℕ → ℕ
turn n = cond (eqb n 22) 121 (cond (eqb n 21) 122 (cond (eqb n 23) 165 (n * 10)))

-- of the numbers that fit, the one that is tried first is given; 0 where none does
pub data Earns (Fits : ℕ → Type 0) : ℕ → Type 0 where
  none : ((n : ℕ) → Fits n → ⊥) → Earns Fits 0
  first : {r : ℕ} → Fits r → ((n : ℕ) → turn n < turn r → Fits n → ⊥) → Earns Fits r

-- ---- links: l after the links ls, in a table of the tasks ds
pub data LinkBreaks (ds : List Task) (ls : List Link) (l : Link) : ℕ → Type 0 where
  -- 4: "a link names no task of the table"
  no_task : (length ds ≤ l.writer) ⊎ (length ds ≤ l.reader) → LinkBreaks ds ls l 4
  -- 5: "its writer is its reader", and it is direct (request 2026-04)
  direct_to_itself : l.kind ≡ 0 → l.writer ≡ l.reader → LinkBreaks ds ls l 5
  -- 6: "its kind is neither 0 nor 1"
  unknown_kind : l.kind ≢ 0 → l.kind ≢ 1 → LinkBreaks ds ls l 6
  -- 7: "a direct link to a reader ahead"
  direct_ahead : l.kind ≡ 0 → ahead_of ds l.reader l.writer ≡ true → LinkBreaks ds ls l 7
  -- 8: "its writer has an earlier link to its reader"
  twice : (j : ℕ) → j < length ls → (link_of ls j).writer ≡ l.writer → (link_of ls j).reader ≡ l.reader → LinkBreaks ds ls l 8
  -- 9: "it is the writer's ninth link to a reader behind"
  ninth : ahead_of ds l.writer l.reader ≡ true → 8 ≤ links_behind (ahead_of ds) (link_of ls) l.writer (length ls) → LinkBreaks ds ls l 9
  -- 20: "a direct link must carry 0 there"
  starts_direct : l.kind ≡ 0 → l.start_value ≢ 0 → LinkBreaks ds ls l 20

-- ---- a table that is handed over whole, under the policy p: its counts and its dates first, then the first link at fault
pub data TableEarns (p : ℕ) (ds : List Task) (ls : List Link) : ℕ → Type 0 where
  -- 2: "T is 0" or above the room of a state, 32
  tasks : (length ds ≡ 0) ⊎ (state_room.tasks < length ds) → TableEarns p ds ls 2
  -- 24: "a relative deadline of 0", under earliest deadline first
  dates : 1 ≤ length ds → length ds ≤ state_room.tasks → p ≡ 1 → (t : ℕ) → t < length ds → deadline_of ds t ≡ 0 → TableEarns p ds ls 24
  -- 3: L is above it, 96
  links : 1 ≤ length ds → length ds ≤ state_room.tasks → AllDated p ds → state_room.links < length ls → TableEarns p ds ls 3
  -- 4 to 9 and 20: the links before it keep the rules
  link : {r : ℕ} → length ls ≤ state_room.links → (before : List Link) (l : Link) (after : List Link) → ls ≡ before ++ (l ∷ after) → Keeps p ds before →
      Earns (LinkBreaks ds before l) r → r ≢ 0 → TableEarns p ds ls r
  -- 0
  kept : Keeps p ds ls → TableEarns p ds ls 0

-- ---- events

-- how the tasks stand: active, waiting, running; when the job of each is due, and the last tick
pub record Standing : Type 0 where
  pub active : ℕ → Bool
  pub waiting : ℕ → Bool
  pub running : ℕ → Bool
  pub due : ℕ → ℕ
  pub last : ℕ

-- "By history: active when its accepted arrivals outnumber its accepted finishes"; waiting is "arrived, not started", running "started, not finished"; due at
-- "arrival tick plus relative deadline", by the table T
abbrev pub by_history : Table ℕ → List (Timed ℕ) → Standing
by_history T H = record {
  active = history.active (untimed H);
  waiting = history.waiting (untimed H);
  running = history.running (untimed H);
  due = due_tick T (ticks H) (untimed H);
  last = last H;
}

-- task t stands alike in both
pub record StandsAlike (a b : Standing) (t : ℕ) : Type 0 where
  pub active : a.active t ≡ b.active t
  pub waiting : a.waiting t ≡ b.waiting t
  pub running : a.running t ≡ b.running t
  pub due : a.active t ≡ true → a.due t ≡ b.due t

-- the job of task u goes before that of task t: due earlier, "ties by that order of tasks". Under fixed priorities all are due at 0
abbrev pub goes_before : Table ℕ → Standing → ℕ → ℕ → Bool
goes_before T stands u t = smaller (stands.due u) (stands.due t) (T.ahead u t)

pub data EventBreaks (T : Table ℕ) (stands : Standing) (x : ℕ) : Event ℕ → ℕ → Type 0 where
  -- 12: "an empty arrival set, or a task or link not in the table"
  nobody : EventBreaks T stands x (arrival 0) 12
  a_stranger : {m : ℕ} (t : ℕ) → T.tasks ≤ t → has m t ≡ true → EventBreaks T stands x (arrival m) 12
  starts_no_task : {t : ℕ} → T.tasks ≤ t → EventBreaks T stands x (start t) 12
  reads_no_link : {l : ℕ} → T.links ≤ l → EventBreaks T stands x (read l) 12
  finishes_no_task : {t v : ℕ} → T.tasks ≤ t → EventBreaks T stands x (finish t v) 12
  -- 22: "a tick too large"
  too_large : {e : Event ℕ} → limit < x → EventBreaks T stands x e 22
  -- 21: "a tick below the one before"
  falls : {e : Event ℕ} → x < stands.last → EventBreaks T stands x e 21
  -- 13: "arrival of an active task"
  arrives_again : {m : ℕ} (t : ℕ) → t < T.tasks → has m t ≡ true → stands.active t ≡ true → EventBreaks T stands x (arrival m) 13
  -- 14: "start of a task that isn't waiting"
  starts_not_waiting : {t : ℕ} → stands.waiting t ≡ false → EventBreaks T stands x (start t) 14
  -- 15: "read or finish by a task that isn't running"
  reads_not_running : {l : ℕ} → stands.running (T.reader l) ≡ false → EventBreaks T stands x (read l) 15
  finishes_not_running : {t v : ℕ} → stands.running t ≡ false → EventBreaks T stands x (finish t v) 15
  -- 16: "start, read or finish while a more urgent task is active": it "reads the job order"
  starts_out_of_turn : {t : ℕ} (u : ℕ) → u < T.tasks → goes_before T stands u t ≡ true → stands.active u ≡ true → EventBreaks T stands x (start t) 16
  reads_out_of_turn : {l : ℕ} (u : ℕ) → u < T.tasks → goes_before T stands u (T.reader l) ≡ true → stands.active u ≡ true → EventBreaks T stands x (read l) 16
  finishes_out_of_turn : {t v : ℕ} (u : ℕ) → u < T.tasks → goes_before T stands u t ≡ true → stands.active u ≡ true → EventBreaks T stands x (finish t v) 16
  -- 23: "a finish after its deadline"
  finishes_late : {t v : ℕ} → stands.due t < x → EventBreaks T stands x (finish t v) 23

-- in a recording, after the history H and with the lent list `out`
pub data RecordBreaks (T : Table ℕ) (out : List ℕ) (H : List (Timed ℕ)) (x : ℕ) : Event ℕ → ℕ → Type 0 where
  -- 12 to 16 and 21 to 23
  rule : {e : Event ℕ} {n : ℕ} → EventBreaks T (by_history T H) x e n → RecordBreaks T out H x e n
  -- 18: "a read that is otherwise allowed, with no room in the lent list of numbers"
  no_room : {l : ℕ} → length out ≤ reads (untimed H) → RecordBreaks T out H x (read l) 18
