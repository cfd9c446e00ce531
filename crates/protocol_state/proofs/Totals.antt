-- In every state that a fresh one came to, arrivals counted task by task are finishes and the tasks that the state has as active.
-- Assumes nothing.
use mathlib.Core.Path.{◌≡◌, ap, ◌∙◌}
use mathlib.Core.Bool.{Bool}
use Prim.Native.Nat.{ℕ, ◌+◌}
use Rattle.lists.specs.Lists.{count}
use Rattle.protocol.specs.History.{active, counts}
use Rattle.protocol.proofs.Totals.{totals}
use Rattle.protocol_deadlines.specs.Timed.{untimed, earliest_at}
use Rattle.protocol_deadlines.proofs.Timed.{timed_possible}
use Rattle.protocol_state.specs.Saved.{Size, Saved, table, busy}
use Rattle.protocol_state.specs.Give.{Progress}
use Rattle.protocol_state.proofs.Places.{count_same}
use Rattle.protocol_state.proofs.Phases.{active_is}
use Rattle.protocol_state.specs.Reached.{Reached}

pub reached_totals : {ahead : ℕ → ℕ → Bool} {size : Size} {q₀ : Saved} {o : Progress} → Reached ahead size q₀ o
    → (counts (table ahead q₀) (untimed o.history)).arrivals ≡ (counts (table ahead q₀) (untimed o.history)).finishes + count (busy o.state) q₀.tasks
reached_totals {ahead} {size} {q₀} {o} r =
    totals (table ahead q₀) (earliest_at (table ahead q₀) o.history) (untimed o.history) (timed_possible (table ahead q₀) o.history r.possible)
    ∙ ap (λ (n : ℕ). (counts (table ahead q₀) (untimed o.history)).finishes + n)
    (count_same (active (untimed o.history)) (busy o.state) q₀.tasks (λ t l. active_is (r.agrees t)))
