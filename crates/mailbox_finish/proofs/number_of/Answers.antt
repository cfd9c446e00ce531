-- `mailbox_finish::number_of` meets its contract: the start value of a marked link, or the cell that the link's writer and pointer name.
-- Assumes nothing.
use borrow.Author.Tests.{ne_eqb}
use Rattle.mailbox_finish.proofs.number_of.Goals as goal

pub returns-then-control_at-eq1 : goal.returns-then-control_at-eq1
returns-then-control_at-eq1 c = rw (← c.control_at.ensures, c.if-control_at-eq1.true, c.entry_at.ensures)

pub returns : goal.returns
returns c = let i = c in
    rw (← i.control_at.ensures, ne_eqb _ 1 i.if-control_at-eq1.false) (rw (c.control_at-3.ensures, c.control_at-2.ensures) at c.cell_at.ensures)
