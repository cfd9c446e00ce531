-- The totals of a replay's counts.
-- Assumes nothing.
use mathlib.Core.Path.{◌≡◌, ap, sym, ◌∙◌}
use mathlib.Core.List.{List}
use Prim.Native.Nat.{ℕ, ◌+◌}
use Rattle.lists.specs.Lists.{count}
use Rattle.protocol_deadlines.specs.Timed.{Timed}
use Rattle.protocol.specs.History.{Counts}
use Rattle.protocol_state.specs.Saved.{Size, Saved, busy}
use Rattle.protocol_state.proofs.Totals.{reached_totals}
use Rattle.recording_core.specs.Playing.{Playing}
use Rattle.recording_core.specs.Right.{Right}

module _ {size : Size} {q₀ : Saved} {out : List ℕ} {H : List (Timed ℕ)} {q : Playing} (R : Right size q₀ out H q) where
  -- arrivals counted task by task are finishes and tasks still active
  pub answer_totals : q.counts.arrivals ≡ q.counts.finishes + count (busy q.state) q₀.tasks
  answer_totals =
      ap (λ (c : Counts). c.arrivals) R.counts ∙ reached_totals R.reached
      ∙ ap (λ (c : Counts). c.finishes + count (busy q.state) q₀.tasks) (sym R.counts)
