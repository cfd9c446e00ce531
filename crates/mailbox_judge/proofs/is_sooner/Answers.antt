-- `mailbox_judge::is_sooner` meets its contract: due at the same tick, or the earlier one.
-- Assumes nothing.
use mathlib.Core.Path.{sym, ap, ◌∙◌}
use Prim.Native.Nat.{ℕ}
use Rattle.protocol_deadlines.specs.Deadline.{smaller}
use Rattle.protocol_deadlines.proofs.Orders.{smaller_tie}
use Rattle.mailbox_layout.specs.Layout.{ahead_among}
use Rattle.mailbox_judge.proofs.Judged.{smaller_apart}
use Rattle.mailbox_judge.proofs.is_sooner.Goals as goal

pub returns-then-x-due : goal.returns-then-x-due
returns-then-x-due c = c.is_ahead.ensures ∙ sym (smaller_tie _ _ _ (sym c.due_at-x.ensures ∙ c.if-x-due.true))

pub returns-else-x-due : goal.returns-else-x-due
returns-else-x-due c = let a = c.args in
    smaller_apart _ a.due _ c.if-x-due.false ∙ ap (λ (n : ℕ). smaller n a.due (ahead_among a.times.now a.u a.t)) c.due_at-x.ensures
