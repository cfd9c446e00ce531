-- `mailbox_free::bits::lowest_outside` meets its contract: what the table has at the pattern, or the tenth.
-- Assumes nothing.
use borrow.Author.Tests.{ne_eqb}
use Rattle.mailbox_free.proofs.TakenBits.{answered}
use Rattle.mailbox_free.proofs.bits.lowest_outside.Goals as goal

pub returns-then-p-eq0 : goal.returns-then-p-eq0
returns-then-p-eq0 c right = rw c.if-p-eq0.true at (answered c.args.taken right)

pub returns-else-p-eq0 : goal.returns-else-p-eq0
returns-else-p-eq0 c right = rw (ne_eqb _ 0 c.if-p-eq0.false) at (answered c.args.taken right)
