-- `mailbox_layout::fresh::fresh_times` meets its contract: the policy is put among zeros.
-- Assumes nothing.
use Rattle.mailbox_layout.proofs.Tables.{no_deadlines}
use Rattle.mailbox_layout.proofs.fresh.fresh_times.Goals as goal

pub returns : goal.returns
returns c = no_deadlines _ c.put_entry.ensures
