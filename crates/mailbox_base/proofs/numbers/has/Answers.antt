-- `mailbox_base::numbers::has` meets its contract: below 32 a shift and a remainder, and from 32 on no set has a bit.
-- Assumes nothing.
use mathlib.Core.Path.{refl, sym, ◌∙◌}
use native.Mathlib.Omega.{arith}
use borrow.Author.Tests.{le-ltb}
use Rattle.protocol.specs.Event.{has}
use Rattle.protocol.proofs.Schedule.{has_not}
use Rattle.mailbox_base.proofs.numbers.has.Goals as goal

pub returns-then-t-lt-BITS : goal.returns-then-t-lt-BITS
unfolding has
returns-then-t-lt-BITS c = refl

pub returns-else-t-lt-BITS : goal.returns-else-t-lt-BITS
returns-else-t-lt-BITS c = le-ltb c.args.t 32 c.if-t-lt-BITS.false ∙ sym (has_not c.args.set 32 _ (omega arith) c.if-t-lt-BITS.false)
