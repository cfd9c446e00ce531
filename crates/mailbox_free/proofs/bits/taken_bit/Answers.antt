-- `mailbox_free::bits::taken_bit` meets its contract: 1 or 0, shifted by at most 15 places, which loses nothing.
-- Assumes nothing.
use Prim.Native.Nat.{min}
use native.Mathlib.Omega.{arith}
use Rattle.mailbox_free.specs.Bits.{last_bit}
use Rattle.mailbox_free.proofs.TakenBits.{shifted}
use Rattle.mailbox_free.proofs.bits.taken_bit.Goals as goal

pub returns : goal.returns
returns c = let e = c.bit_of.ensures in
    rw e (shifted c.args.b (min c.args.p last_bit) (omega arith))
