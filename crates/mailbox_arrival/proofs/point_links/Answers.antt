-- `mailbox_arrival::point_links` meets its contract: after l turns the first l pointers and marks are as the arrival leaves them.
-- Assumes nothing.
use Rattle.mailbox_arrival.proofs.Moves.{pointed_none, pointed_more, pointed_end}
use Rattle.mailbox_arrival.proofs.point_links.Goals as goal

pub loop-l-init : goal.loop-l-init
loop-l-init c T L v x = pointed_none _ _

pub loop-l-preserved : goal.loop-l-preserved
loop-l-preserved c T L v x = pointed_more _ _ _ (c.loop-l.invariant T L v x) (c.point_link.ensures T L v x)

pub returns : goal.returns
returns c T L v x = pointed_end _ _ _ _ (c.loop-l.invariant T L v x) c.loop-l.auto.l-end c.loop-l-test.false
