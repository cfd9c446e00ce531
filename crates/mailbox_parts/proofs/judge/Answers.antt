-- `mailbox_parts::judge` meets its contract: by the policy.
-- Assumes nothing.
use mathlib.Core.Path.{sym, ◌∙◌}
use Rattle.mailbox_clock.proofs.Judged.{is_dated_lem, is_fixed}
use Rattle.mailbox_parts.proofs.judge.Goals as goal

pub returns-then-is_dated : goal.returns-then-is_dated
returns-then-is_dated c v = c.judge_dated.ensures (is_dated_lem _ (sym c.is_dated.ensures ∙ c.if-is_dated.true)) v

pub returns-else-is_dated : goal.returns-else-is_dated
returns-else-is_dated c v = c.judge_fixed.ensures _ v _ (is_fixed _ (sym c.is_dated.ensures ∙ c.if-is_dated.false))
