-- `mailbox_rules::table::first_fault` meets its contract: after l turns `found` tells the refusal of the first link at fault among the first l, and the
-- counts are those of these links.
-- Assumes nothing.
use mathlib.Core.Path.{refl, ap, ◌∙◌}
use native.Mathlib.Nat.{le_antisymm}
use native.Mathlib.Omega.{arith}
use Rattle.lists.proofs.Lists.{leading_none, leading_more, leading_end}
use Rattle.protocol_state.specs.Rules.{fault}
use Rattle.protocol_state.specs.Saved.{state_room}
use Rattle.protocol_state.proofs.Places.{zeros}
use Rattle.mailbox_layout.specs.Layout.{link_held}
use Rattle.mailbox_plan.proofs.Plans.{plan_first}
use Rattle.mailbox_rules.proofs.Flags.{none_counted, counted_few, one_counted, counts_behind}
use Rattle.refusals.specs.Numbers.{told}
use Rattle.mailbox_rules.proofs.Judged.{told_and}
use Rattle.mailbox_rules.proofs.table.first_fault.Goals as goal

pub loop-l-init : goal.loop-l-init
loop-l-init c = (none_counted refl (zeros state_room.tasks), λ ahead ranks p. leading_none _)

pub count_link-requires : goal.count_link-requires
count_link-requires c h = let t = c in
    omega (arith, counted_few t.loop-l.invariant.0 c.control_at.result h, t.loop-l-test.true, t.requires.1)

pub loop-l-preserved : goal.loop-l-preserved
loop-l-preserved c = let f = c in
    let i = f.loop-l in
    let a = f.args in (
      one_counted i.invariant.0 c.control_at.ensures c.goes_behind.ensures c.count_link.ensures,
      λ ahead ranks p. leading_more (fault ahead a.tasks (link_held a.control.now a.values.now)) _
          (f.fault_at.ensures ahead ranks (plan_first (omega arith) p) (counts_behind i.invariant.0 (plan_first (omega arith) p))) (i.invariant.1 ahead ranks p) (ap told c.and-found.ensures ∙ told_and _ _),
    )

pub returns : goal.returns
returns c ahead ranks p = let i = c.loop-l in
    let end = le_antisymm i.auto.l-end c.loop-l-test.false in
    (leading_end _ _ _ (i.invariant.1 ahead ranks p) i.auto.l-end c.loop-l-test.false, counts_behind (rw end at i.invariant.0) p)
