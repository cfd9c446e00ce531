-- The last step of a replay refuses nothing exactly when every arrival has its finish.
-- Assumes nothing.
use mathlib.Core.Path.{◌≡◌, refl, ap}
use mathlib.Core.Bool.{false, not, true≢false}
use Prim.Native.Nat.{ℕ}
use native.Mathlib.Omega.{arith}
use mathlib.Core.List.{List}
use lib.Dec.{eqb}
use Rattle.lists.proofs.Bools.{cond_zero}
use Rattle.lists.proofs.Lists.{some_not, some_of_none}
use Rattle.protocol.specs.Table.{Table}
use Rattle.protocol_deadlines.specs.Timed.{Timed}
use Rattle.protocol_state.specs.Saved.{Size, Saved, busy}
use Rattle.protocol_state.specs.Reached.{InPhase, idle, waiting, running}
use Rattle.recording_core.specs.Playing.{Playing, last_in}
use Rattle.recording_core.specs.Promise.{AllFinished}
use Rattle.recording_core.specs.Right.{Right}

-- a task that is not active has finished as often as it arrived
idle_finished : {p a s f : ℕ} → InPhase p a s f → not (eqb p 0) ≡ false → f ≡ a
idle_finished (idle {n}) e = refl
idle_finished (waiting {n}) e = absurd (true≢false e)
idle_finished (running {n}) e = absurd (true≢false e)

-- and the other way round
finished_idle : {p a s f : ℕ} → InPhase p a s f → f ≡ a → not (eqb p 0) ≡ false
finished_idle (idle {n}) e = refl
finished_idle (waiting {n}) e = absurd (omega arith)
finished_idle (running {n}) e = absurd (omega arith)

module _ {size : Size} {q₀ : Saved} {out : List ℕ} {H : List (Timed ℕ)} {q : Playing} (R : Right size q₀ out H q) where
  same_tasks : q.state.tasks ≡ q₀.tasks
  same_tasks = ap (λ (T : Table ℕ). T.tasks) R.reached.same

  pub last_finished : last_in q ≡ 0 → AllFinished q₀.tasks H
  last_finished z t l =
      idle_finished (R.reached.agrees t)
      (some_not (busy q.state) q.state.tasks t (cond_zero _ 25 0 (λ y. omega arith) z).0 (omega (arith, same_tasks)))

  pub finished_last : AllFinished q₀.tasks H → last_in q ≡ 0
  finished_last f = rw (some_of_none (busy q.state) q.state.tasks (λ t l. finished_idle (R.reached.agrees t) (f t (omega (arith, same_tasks)))))
