-- `mailbox_arrival::arrive` meets its contract: the writers' part, then the readers' part.
-- Assumes nothing.
use Rattle.mailbox_arrival.proofs.Moves.{both}
use Rattle.mailbox_arrival.proofs.arrive.Goals as goal

pub returns : goal.returns
returns c table ahead right v x = let m = c in
    rw (← m.few-n.ensures, ← m.few.ensures)
    (both ahead _ _ (m.move_tasks.ensures table ahead (rw m.few-n.ensures right) _ v x) (c.point_links.ensures _ _ v x))
