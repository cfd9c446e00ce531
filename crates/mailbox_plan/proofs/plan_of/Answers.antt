-- `mailbox_plan::plan_of` meets its contract: after l turns the plan is that of the first l links.
-- Assumes nothing.
use mathlib.Core.Path.{ap, ◌∙◌}
use native.Mathlib.Omega.{arith}
use lib.ListN.{length, length-set}
use borrow.Author.Rules.{rules}
use Rattle.mailbox_plan.proofs.Plans.{plan_none, plan_first, plan_more}
use Rattle.mailbox_plan.proofs.plan_of.Goals as goal

pub loop-l-init : goal.loop-l-init
loop-l-init c = (search rules, plan_none)

pub loop-l-preserved : goal.loop-l-preserved
loop-l-preserved c = let w = c in
    let i = w.loop-l in (
      ap length c.put_flag.ensures ∙ simp length-set i.invariant.0,
      plan_more _ _ i.invariant.1 i.invariant.0 (omega arith) (rw (w.control_at-w.ensures, c.control_at-r.ensures) at c.is_ahead.ensures) c.put_flag.ensures,
    )

pub returns : goal.returns
returns c = rw (← c.few-l-end.ensures) (plan_first c.loop-l-test.false c.loop-l.invariant.1)
