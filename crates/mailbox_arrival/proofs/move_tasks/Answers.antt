-- `mailbox_arrival::move_tasks` meets its contract: after t turns the first t tasks are as the writers' part leaves them.
-- Assumes nothing.
use mathlib.Core.Path.{ap}
use Rattle.protocol_state.specs.Saved.{Saved}
use Rattle.mailbox_plan.proofs.Plans.{plan_kept}
use Rattle.mailbox_arrival.proofs.Moves.{moved_none, moved_more, moved_end}
use Rattle.mailbox_arrival.proofs.move_tasks.Goals as goal

pub loop-t-init : goal.loop-t-init
loop-t-init c table ahead right T v x = moved_none ahead _ _

pub loop-t-preserved : goal.loop-t-preserved
loop-t-preserved c table ahead right T v x =
    let e = c.loop-t.invariant table ahead right T v x in
    moved_more ahead _ _ _ e (c.move_task.ensures table ahead (plan_kept (ap (λ (q : Saved). q.writer) e) (ap (λ (q : Saved). q.reader) e) right) T v x)

pub returns : goal.returns
returns c table ahead right T v x = moved_end ahead _ _ _ _ (c.loop-t.invariant table ahead right T v x) c.loop-t.auto.t-end c.loop-t-test.false
