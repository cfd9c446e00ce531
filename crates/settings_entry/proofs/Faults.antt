-- What a fault of 0 says of a float.
-- Assumes nothing.
use mathlib.Core.Path.{◌≡◌, refl}
use mathlib.Core.Bool.{Bool, true, false, cond}
use Prim.Native.Nat.{ℕ}
use native.Mathlib.Omega.{arith}
use lib.Dec.{eqb}
use Rattle.lists.proofs.Bools.{else_zero}

-- no fault where the test holds
pub as_tested : (b : Bool) → b ≡ eqb (cond b 0 26) 0
as_tested true = refl
as_tested false = refl

-- a float without a fault is above zero
pub good_float : (b : Bool) → ◌≡◌ {A = ℕ} (cond b 0 26) 0 → b ≡ true
good_float b e = (else_zero b 26 0 (λ (z : ◌≡◌ {A = ℕ} 26 0). omega arith) e).0
