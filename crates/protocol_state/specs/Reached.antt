-- What holds of every outcome that the events given to a fresh state come to.
-- Assumes nothing.
use Rattle.std.specs.Prelude.{◌≡◌, Bool, true, List, ℕ, suc}
use Rattle.protocol.specs.Event.{Event}
use Rattle.protocol.specs.History.{arrivals, starts, finishes, active}
use Rattle.protocol.specs.Published.{Lowest, Run, numbers}
use Rattle.protocol_deadlines.specs.Timed.{Timed, untimed, last, since, AllPossibleAt}
use Rattle.protocol_state.specs.Saved.{Size, Saved, Shape, at, table, boxes}
use Rattle.protocol_state.specs.Sound.{Sound}
use Rattle.protocol_state.specs.Give.{Progress}

-- `InPhase p a s f`: a task in phase p, with a arrivals, s starts and f finishes. Idle: all as many; waiting: one arrival more; running: and its start
pub data InPhase : ℕ → ℕ → ℕ → ℕ → Type 0 where
  idle : {n : ℕ} → InPhase 0 n n n
  waiting : {n : ℕ} → InPhase 1 (suc n) n n
  running : {n : ℕ} → InPhase 2 (suc n) (suc n) n

-- every task stands as the history says
abbrev pub Agrees : List (Event ℕ) → Saved → Type 0
Agrees h q = (t : ℕ) → InPhase (at q.phase t) (arrivals h t) (starts h t) (finishes h t)

-- the ticks are the history's: the last one, and of each active job that of its arrival
pub record Ticks (H : List (Timed ℕ)) (q : Saved) : Type 0 where
  pub last : q.last ≡ last H
  pub since : (t : ℕ) → active (untimed H) t ≡ true → at q.since t ≡ since H t

-- what holds of an outcome that the state q₀ came to: a sound state of the same table and policy, whose phases and ticks are the history's; the accepted events
-- could happen; the boxes are those of a run of the published protocol over them, and the numbers are those that this run reads
pub record Reached (ahead : ℕ → ℕ → Bool) (size : Size) (q₀ : Saved) (o : Progress) : Type 0 where
  pub shape : Shape size o.state
  pub sound : Sound ahead size o.state
  pub same : table ahead o.state ≡ table ahead q₀
  pub policy : o.state.policy ≡ q₀.policy
  pub agrees : Agrees (untimed o.history) o.state
  pub ticks : Ticks o.history o.state
  pub possible : AllPossibleAt (table ahead q₀) o.history
  pub run : Run (table ahead q₀) (Lowest (table ahead q₀)) (boxes o.state) (untimed o.history)
  pub read : o.numbers ≡ numbers (table ahead q₀) run
