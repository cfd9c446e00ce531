-- The calls on a state (`Makes`, `Gives`), and what comes of any sequence of them from a fresh one.
-- Assumes nothing.
use Rattle.std.specs.Prelude.{◌≡◌, ◌≢◌, List, [], ◌∷◌, ◌++◌, ℕ, drop}
use Rattle.protocol.specs.Event.{Event, arrival, start, read, finish}
use Rattle.protocol.specs.Table.{Table}
use Rattle.protocol_deadlines.specs.Timed.{Timed, timed}
pub use Rattle.protocol_state.specs.Give.{Call, plainly, ticked, call_policy, call_tick, call_event}
pub use Rattle.mailbox.specs.States.{Makes, Gives}
use Rattle.mailbox.specs.declared.State.{State}
use Rattle.mailbox.specs.declared.Step.{Step}
use Rattle.mailbox.specs.declared.Made.{Made}
use Rattle.demands.specs.Station.{station, HandedOver, first_tasks, first_links}

-- the part of the recording s that `recording::rest` hands back for the place p
abbrev pub Rests : List ℕ → ℕ → List ℕ → Type 0
Rests s p part = part ≡ drop p s

-- the number of an accepted read; no other event gives one
abbrev pub numbers_of : Event ℕ → Step → List ℕ
numbers_of (arrival m) r = []
numbers_of (start t) r = []
numbers_of (read l) r = r.answer.value ∷ []
numbers_of (finish t v) r = []

-- "every sequence of accepted events from a fresh state, refused ones left aside":
-- of the table T the events es were accepted, at their ticks, the reads among them gave the numbers ns, and the last call handed back q
pub data Calls : Table ℕ → List (Timed ℕ) → List ℕ → State → Type 0 where
  fresh : {p : ℕ} {X : List ℕ} → HandedOver p X → (n l : ℕ) (D W R K B : List ℕ) (m : Made) → Makes p n l D X W R K B m → m.refusal ≡ 0 →
      Calls (station (first_tasks n D X) (first_links l W R K B)) [] [] m.state
  accepted : {T : Table ℕ} {es : List (Timed ℕ)} {ns : List ℕ} {q : State} → Calls T es ns q →
      (c : Call) (r : Step) → Gives q c r → r.answer.refusal ≡ 0 → Calls T (es ++ (timed (call_tick c) (call_event c) ∷ [])) (ns ++ numbers_of (call_event c) r) r.state
  refused : {T : Table ℕ} {es : List (Timed ℕ)} {ns : List ℕ} {q : State} → Calls T es ns q →
      (c : Call) (r : Step) → Gives q c r → r.answer.refusal ≢ 0 → Calls T es ns r.state
