-- `mailbox_arrival::lowest_free` meets its contract: no link holds the lowest position other than the newest, or a position is taken where
-- its bit is set.
-- Assumes nothing.
use mathlib.Core.Path.{◌≡◌, refl, sym, ap, ap₂, ◌∙◌}
use mathlib.Core.Bool.{Bool, true, cond, ◌||◌}
use Prim.Native.Nat.{ℕ}
use native.Mathlib.Omega.{arith}
use borrow.Author.Tests.{eq-eqb, ne_eqb}
use lib.Dec.{eqb}
use Rattle.lists.specs.Lists.{some}
use Rattle.lists.proofs.Search.{first_same}
use Rattle.protocol.specs.Event.{has}
use Rattle.protocol.specs.Free.{holds}
use Rattle.mailbox_layout.specs.Layout.{writer_in, reader_in, pointer_in}
use Rattle.protocol_state.specs.Saved.{at}
use Rattle.mailbox_free.proofs.TakenBits.{has_or, has_taken}
use Rattle.mailbox_arrival.proofs.Other.{other_than}
use Rattle.mailbox_arrival.proofs.lowest_free.Goals as goal
use Rattle.mailbox_arrival.proofs.lowest_free.Goals.{then-x-eq1, else-x-eq1}

pub returns-then-not-held : goal.returns-then-not-held
returns-then-not-held c table ahead right = let a = c.args in
    let taken : ℕ → Bool = λ (p : ℕ). some (holds ahead (at (writer_in a.control.now)) (at (reader_in a.control.now)) (at (pointer_in a.control.now)) a.t p) a.links in
    let next : c.if-x-eq1.next ≡ cond (eqb a.x 1) 2 1 =
    elim c.if-x-eq1.branch [
      | then-x-eq1 w ↦ rw (w.next-is, eq-eqb _ 1 w.if-x-eq1.true) refl
      | else-x-eq1 w ↦ rw (w.next-is, ne_eqb _ 1 w.if-x-eq1.false) refl
    ] in
    next ∙ other_than taken a.x (ap taken (sym next) ∙ sym (c.held.ensures ahead right) ∙ c.if-not-held.true)

pub returns : goal.returns
returns c table ahead right = let x = c.args.x in
    c.lowest_outside.ensures table
    ∙ first_same _ _ 9 1
    (λ p l h. has_or _ _ p
    ∙ ap₂ ◌||◌
    (ap (λ (n : ℕ). has n p) c.taken_bit.ensures ∙ has_taken true x p (omega arith))
    (c.held_bits.ensures ahead right p (omega arith)))
