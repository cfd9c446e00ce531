-- Of two different tasks one is ahead of the other: that the reader of a link is ahead need not be looked up.
-- Assumes nothing.
use mathlib.Core.Path.{◌≡◌, refl, sym}
use mathlib.Core.Bool.{Bool, true, false, not, ◌&&◌}
use mathlib.Core.List.{List}
use Prim.Native.Nat.{ℕ}
use borrow.Author.Tests.{eqb-true, eqb-false}
use lib.Dec.{eqb}
use Rattle.protocol_deadlines.specs.Deadline.{Ranks}
use Rattle.protocol_deadlines.proofs.Orders.{ahead_order, not_both}
use Rattle.protocol_state.specs.Saved.{at}
use Rattle.mailbox_layout.specs.Layout.{deadline_in, ahead_among}

-- the order of tasks by their relative deadlines, as the times hold them, is one
pub ranks_among : (x : List ℕ) → Ranks (ahead_among x)
ranks_among x = ahead_order (at (deadline_in x))

-- t is ahead of u where they differ and u is not ahead of t
pub ahead_other : {ahead : ℕ → ℕ → Bool} → Ranks ahead → (u t : ℕ) → (not (eqb u t) && not (ahead u t)) ≡ ahead t u
ahead_other {ahead} ranks u t = go (eqb u t) refl (ahead u t) refl
  where
    go : (same : Bool) → eqb u t ≡ same → (b : Bool) → ahead u t ≡ b → (not same && not b) ≡ ahead t u
    go true s b e =
        let e' : u ≡ t = eqb-true u t s in
        rw e' (sym (ranks.itself t))
    go false s true e = sym (not_both ranks u t e)
    go false s false e = sym (ranks.either u t (eqb-false u t s) e)
