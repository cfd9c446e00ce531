-- What the answer of a float in decimal says of it.
-- Assumes nothing.
use mathlib.Core.Path.{◌≡◌, refl}
use mathlib.Core.Bool.{Bool, true, false, cond}
use Prim.Native.Nat.{ℕ}
use Rattle.std.specs.Prelude.{Some, None}
use Rattle.settings_decimal.specs.declared.Decimal.{Decimal}
use Rattle.settings_decimal.specs.Decimal.{large, millionths, cut_off}
use Rattle.settings_decimal.specs.Answer.{decimal_of}

-- its whole millionths and whether there is more
abbrev shown : ℕ → Decimal
shown b = record { millionths = millionths b; cut = cut_off b }

-- where there is none, it is large
pub large_told : (b : ℕ) → None ≡ decimal_of b → large b ≡ true
unfolding decimal_of
large_told b = go (large b)
  where
    go : (t : Bool) → None ≡ cond t None (Some (shown b)) → t ≡ true
    go true e = refl
    go false e = absurd cc

-- and where there is one, it is not, and these are its millionths and whether there is more
pub small_told : (b : ℕ) {d : Decimal} → Some d ≡ decimal_of b → (large b ≡ false) × (d.millionths ≡ millionths b) × (d.cut ≡ cut_off b)
unfolding decimal_of
small_told b {d} = go (large b)
  where
    go : (t : Bool) → Some d ≡ cond t None (Some (shown b)) → (t ≡ false) × (d.millionths ≡ millionths b) × (d.cut ≡ cut_off b)
    go true e = absurd cc
    go false e = let k : d ≡ shown b = cc in rw k (refl, refl, refl)
