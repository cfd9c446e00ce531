-- `mailbox_layout::cells_in` meets its contract: the cells are the last region, so the part that holds them is that region.
-- Assumes nothing.
use Rattle.mailbox_layout.proofs.Places.{cells_part}
use Rattle.mailbox_layout.proofs.cells_in.Goals as goal

pub returns : goal.returns
returns c = cells_part _
