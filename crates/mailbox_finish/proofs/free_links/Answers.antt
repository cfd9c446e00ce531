-- `mailbox_finish::free_links` meets its contract: after l turns the first l pointers and marks are as a finish leaves them.
-- Assumes nothing.
use mathlib.Core.Path.{ap}
use native.Mathlib.Omega.{arith}
use Rattle.protocol_state.specs.Saved.{Saved}
use Rattle.mailbox_plan.proofs.Plans.{plan_kept}
use Rattle.mailbox_finish.proofs.Done.{freed_none, freed_more, freed_end}
use Rattle.mailbox_finish.proofs.free_links.Goals as goal

pub loop-l-init : goal.loop-l-init
loop-l-init c ahead right T L v x = freed_none ahead _ _

pub loop-l-preserved : goal.loop-l-preserved
loop-l-preserved c ahead right T L v x =
    let e = c.loop-l.invariant ahead right T L v x in
    freed_more ahead _ _ _ e (c.free_link.ensures ahead _ (plan_kept (ap (λ (q : Saved). q.writer) e) (ap (λ (q : Saved). q.reader) e) right) (omega arith) T L v x)

pub returns : goal.returns
returns c ahead right T L v x = freed_end ahead _ _ _ _ (c.loop-l.invariant ahead right T L v x) c.loop-l.auto.l-end c.loop-l-test.false
