-- `mailbox_finish::advance` meets its contract: the phase is put, and what is no task has none.
-- Assumes nothing.
use Rattle.mailbox_layout.proofs.Fields.{phase_put}
use Rattle.mailbox_finish.proofs.advance.Goals as goal

pub returns : goal.returns
returns c T L v x = phase_put T L _ _ v x (rw (c.entry-next.ensures, c.control_at.ensures) at c.put_control.ensures)
