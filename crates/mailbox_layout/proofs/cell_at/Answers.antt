-- `mailbox_layout::cell_at` meets its contract: the place of the cell among them.
-- Assumes nothing.
use Rattle.mailbox_layout.proofs.cell_at.Goals as goal

pub returns : goal.returns
returns c = rw c.cell_of.ensures at c.entry_at.ensures
