-- `mailbox_parts::do_event` meets its contract: by the policy.
-- Assumes nothing.
use mathlib.Core.Path.{sym, ◌∙◌}
use Rattle.mailbox_clock.proofs.Judged.{is_dated_lem, is_fixed}
use Rattle.mailbox_parts.proofs.do_event.Goals as goal

pub returns-then-is_dated : goal.returns-then-is_dated
returns-then-is_dated c = c.do_dated.ensures (is_dated_lem _ (sym c.is_dated.ensures ∙ c.if-is_dated.true))

pub returns-else-is_dated : goal.returns-else-is_dated
returns-else-is_dated c ahead right =
    c.do_fixed.ensures.fixed ahead right _ _ (is_fixed _ (sym c.is_dated.ensures ∙ c.if-is_dated.false))
