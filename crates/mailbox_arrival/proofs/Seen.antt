-- Arrivals that are counted up to two, and the mark by them, as the code computes them.
-- Assumes nothing.
use mathlib.Core.Path.{◌≡◌, refl}
use mathlib.Core.Bool.{Bool, true, false, cond, ◌&&◌}
use Prim.Native.Nat.{ℕ, zero, suc}
use native.Mathlib.Omega.{arith}
use borrow.Author.Tests.{ne_eqb}
use lib.Dec.{eqb, ltb}
use Rattle.protocol.specs.Table.{marked}
use Rattle.protocol.specs.Published.{seen_once}

-- after none one, after one or more more
pub once : (a : ℕ) → cond (eqb a 0) 1 2 ≡ seen_once a
once zero = refl
once (suc a) =
    let two : 2 ≡ seen_once (suc a) = omega arith in
    rw (ne_eqb (suc a) 0 (λ e. omega arith)) two

-- a delayed link is marked before the second arrival, a direct one never
pub marked_two : (b : Bool) (a : ℕ) → (b && ltb a 2) ≡ marked b a
marked_two true a = refl
marked_two false a = refl
