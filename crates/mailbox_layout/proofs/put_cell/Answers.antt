-- `mailbox_layout::put_cell` meets its contract: the place of the cell among them.
-- Assumes nothing.
use Rattle.mailbox_layout.proofs.put_cell.Goals as goal

pub returns : goal.returns
returns c = rw c.cell_of.ensures at c.put_entry.ensures
