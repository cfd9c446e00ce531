-- `mailbox_arrival::held_bits` meets its contract: after l turns the bits are those of the positions that one of the first l links holds.
-- Assumes nothing.
use mathlib.Core.Path.{ap, ◌∙◌}
use mathlib.Core.Bool.{Bool, ◌&&◌}
use Prim.Native.Nat.{ℕ}
use native.Mathlib.Omega.{arith}
use lib.Dec.{eqb}
use Rattle.std.proofs.Math.Bool.{or_comm}
use Rattle.lists.proofs.Lists.{some_none, some_more, some_end}
use Rattle.protocol.specs.Event.{has}
use Rattle.protocol.specs.Free.{holds}
use Rattle.mailbox_layout.specs.Layout.{writer_in, reader_in, pointer_in}
use Rattle.protocol_state.specs.Saved.{at}
use Rattle.mailbox_free.proofs.TakenBits.{has_none, has_or, has_taken}
use Rattle.mailbox_plan.proofs.Plans.{flag_from}
use Rattle.mailbox_arrival.proofs.held_bits.Goals as goal

pub loop-l-init : goal.loop-l-init
loop-l-init c ahead right p h = has_none p ∙ some_none _

pub loop-l-preserved : goal.loop-l-preserved
loop-l-preserved c ahead right p h = let a = c.args in
    let now = c.loop-l in
    let X = at (pointer_in a.control.now) in
    has_or now.bits c.taken_bit-bits.result p
    ∙ or_comm (has now.bits p) (has c.taken_bit-bits.result p)
    ∙ some_more (holds ahead (at (writer_in a.control.now)) (at (reader_in a.control.now)) X a.t p) now.l
    (ap (λ (n : ℕ). has n p) (rw c.control_at.ensures at c.taken_bit-bits.ensures) ∙ has_taken c.is_behind.result (X now.l) p h
    ∙ ap (λ (b : Bool). b && eqb (X now.l) p) (c.is_behind.ensures ∙ flag_from now.l a.t right (omega arith)))
    (now.invariant ahead right p h)

pub returns : goal.returns
returns c ahead right p h = some_end _ _ _ (c.loop-l.invariant ahead right p h) c.loop-l.auto.l-end c.loop-l-test.false
