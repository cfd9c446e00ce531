-- Which floats are finite and above zero: by their bits, and by comparing. Such a float has one pattern, and the pattern is that float's.
-- Assumes nothing.
use mathlib.Core.Path.{◌≡◌, refl, sym, ap, ◌∙◌, subst}
use mathlib.Core.Logic.{◌≢◌}
use mathlib.Core.Bool.{Bool, true, false, cond, not, ◌&&◌}
use Prim.Native.Nat.{ℕ, zero, suc, ◌+◌, ◌-◌, ◌*◌, ◌/◌, ◌%◌, ◌^◌, ◌≤◌, ◌<◌}
use native.Mathlib.Nat.{mod-eq_of_lt, mul-pos, zero-mul, zero-div}
use native.Mathlib.Omega.{arith}
use borrow.Author.Tests.{ltb-true, ltb-false, lt-ltb, le-ltb, le-leb}
use lib.Dec.{T, eqb, ltb}
use lib.IntN.{ℤ, pos, negsuc}
use lib.Pow.{pow_pos}
use lib.Ieee.{Float, nan, inf, fin, Format, binary64, prec, low, hid, ones, top, up, down, size, odd, of_fields, of_bits, to_bits, nan_bits, is_nan, lt}
use lib.Ieee.Bits.{to_bits-of_bits, nan_bits_is, nan_bits_above}
use Rattle.std.specs.Float.{float_is_finite}
use Rattle.settings_float.specs.AboveZero.{above_zero}

-- the bits of the infinity above zero
abbrev pub infinite : ℕ
infinite = 9218868437227405312

-- what is above zero is no NaN
pub no_nan : (x : Float) → above_zero x ≡ true → T (not (is_nan x))
unfolding is_nan
no_nan nan h = absurd (subst T (sym h) tt)
no_nan (inf s) h = tt
no_nan (fin s m e) h = tt

-- with a minus sign nothing is above zero
odd_below : (d q k l : ℕ) → above_zero (odd d true q k l) ≡ false
unfolding odd
odd_below d zero k l = refl
odd_below d (suc q) k l = refl

minus_below : (f : Format) (x t : ℕ) → above_zero (of_fields f true x t) ≡ false
unfolding of_fields
minus_below f zero t = odd_below (prec f) t 0 (low f)
minus_below f (suc x) t = go (eqb (suc x) (ones f)) (eqb t 0)
  where
    go : (a b : Bool) → above_zero (cond a (cond b (inf true) nan) (odd (prec f) true (hid f + t) x (low f))) ≡ false
    go true true = refl
    go true false = refl
    go false b = odd_below (prec f) (hid f + t) x (low f)

-- bits with the sign's bit: nothing above zero
minus_bits : (b : ℕ) → 9223372036854775808 ≤ b → above_zero (of_bits binary64 b) ≡ false
unfolding of_bits
minus_bits b h = rw (le-leb 9223372036854775808 b h) (minus_below binary64 (b % top binary64 / hid binary64) (b % hid binary64))

-- the bits of 0, and those from the infinity on
zero_bits : of_bits binary64 0 ≡ fin false 0 (pos 0)
unfolding of_bits of_fields odd
zero_bits = refl

infinite_bits : of_bits binary64 infinite ≡ inf false
unfolding of_bits of_fields odd
infinite_bits = refl

-- a minus sign stands above all that has none
minus_infinity : 9223372036854775808 ≤ to_bits binary64 (inf true)
unfolding to_bits
minus_infinity = omega arith

minus_number : (m : ℕ) (e : ℤ) → 9223372036854775808 ≤ to_bits binary64 (fin true m e)
unfolding to_bits
minus_number m e = omega arith

-- 0 has no bits
no_bits : (e : ℤ) → to_bits binary64 (fin false 0 e) ≡ 0
unfolding to_bits size
no_bits e =
    let z : 0 * up e * 2 ^ low binary64 / down e ≡ 0 = rw (zero-mul, zero-mul, zero-div) in
    ap (λ (n : ℕ). 0 + (size n - 53) * 4503599627370496 + n / 2 ^ (size n - 53)) z

-- the infinity has its own
infinity_bits : to_bits binary64 (inf false) ≡ infinite
unfolding to_bits
infinity_bits = refl

-- bits without the sign's bit
plain_bits : (b : ℕ) → b < 9223372036854775808 → above_zero (of_bits binary64 b) ≡ (ltb 0 b && ltb b infinite)
unfolding is_nan
plain_bits b h = go (ltb infinite b) refl
  where
    -- a NaN's
    isnan : is_nan (of_bits binary64 b) ≡ ltb infinite b
    isnan = sym (nan_bits_is binary64 b) ∙ nan_bits_above binary64 b ∙ ap (ltb infinite) (mod-eq_of_lt h)

    nothing : (v : Float) → is_nan v ≡ true → above_zero v ≡ false
    nothing nan n = refl
    nothing (inf s) n = absurd (subst T (sym n) tt)
    nothing (fin s m e) n = absurd (subst T (sym n) tt)

    -- the value's own bits
    value : b ≤ infinite → (v : Float) → of_bits binary64 b ≡ v → is_nan v ≡ false → to_bits binary64 v ≡ b → above_zero v ≡ (ltb 0 b && ltb b infinite)
    value l nan e n k = absurd (subst T n tt)
    value l (inf true) e n k = absurd (omega (arith, minus_infinity))
    value l (inf false) e n k = let i : b ≡ infinite = sym k ∙ infinity_bits in rw i
    value l (fin true m d) e n k = absurd (omega (arith, minus_number m d))
    value l (fin false zero d) e n k = let i : b ≡ 0 = sym k ∙ no_bits d in rw i
    value l (fin false (suc m) d) e n k =
        let u : b ≢ 0 = λ i. let z : fin false 0 (pos 0) ≡ fin false (suc m) d = sym zero_bits ∙ ap (of_bits binary64) (sym i) ∙ e in let y : ◌≡◌ {A = ℕ} 0 (suc m) = cc in omega arith in
        let w : b ≢ infinite = λ i. let z : inf false ≡ fin false (suc m) d = sym infinite_bits ∙ ap (of_bits binary64) (sym i) ∙ e in let y : ◌≡◌ {A = ℕ} 0 1 = cc in omega arith in
        rw (lt-ltb 0 (suc m) (omega arith), lt-ltb 0 b (omega arith), lt-ltb b infinite (omega (arith, l)))

    go : (t : Bool) → ltb infinite b ≡ t → above_zero (of_bits binary64 b) ≡ (ltb 0 b && ltb b infinite)
    go true t =
        let l = ltb-true infinite b t in
        nothing (of_bits binary64 b) (isnan ∙ t) ∙ sym (rw (le-ltb b infinite (omega arith), lt-ltb 0 b (omega arith)))
    go false t =
        let n : is_nan (of_bits binary64 b) ≡ false = isnan ∙ t in
        value (ltb-false infinite b t) (of_bits binary64 b) refl n (to_bits-of_bits binary64 b (omega arith) (rw n tt))

-- the bits of a finite number above zero lie above 0 and below the infinity's
pub above_zero_bits : (b : ℕ) → b < 18446744073709551616 → above_zero (of_bits binary64 b) ≡ (ltb 0 b && ltb b infinite)
above_zero_bits b h = go (ltb b 9223372036854775808) refl
  where
    go : (t : Bool) → ltb b 9223372036854775808 ≡ t → above_zero (of_bits binary64 b) ≡ (ltb 0 b && ltb b infinite)
    go true t = plain_bits b (ltb-true _ _ t)
    go false t =
        let l = ltb-false b 9223372036854775808 t in
        minus_bits b l ∙ sym (rw (le-ltb b infinite (omega arith), lt-ltb 0 b (omega arith)))

-- an accepted float keeps its bits
pub bits_kept : (b : ℕ) → b < 18446744073709551616 → above_zero (of_bits binary64 b) ≡ true → to_bits binary64 (of_bits binary64 b) ≡ b
bits_kept b h a = to_bits-of_bits binary64 b h (no_nan (of_bits binary64 b) a)

-- and its bits are no NaN's
pub no_nan_bits : (b : ℕ) → above_zero (of_bits binary64 b) ≡ true → T (not (nan_bits binary64 b))
no_nan_bits b a = rw (nan_bits_is binary64 b) (no_nan (of_bits binary64 b) a)

-- the infinity's bits are no NaN's
pub infinity_no_nan : T (not (nan_bits binary64 infinite))
unfolding nan_bits
infinity_no_nan = tt

-- a power of two
up_pos : (e : ℤ) → 0 < up e
up_pos (pos k) = pow_pos k
up_pos (negsuc k) = omega arith

-- m is above zero where it is scaled by such a power
scaled : (u d : ℕ) → 0 < u → (m : ℕ) → ltb 0 m ≡ (ltb (0 * d) (m * u * 1) && true)
scaled u d h zero = rw (zero-mul, zero-mul)
scaled u d h (suc m) =
    let a : 0 < suc m * u = mul-pos (omega arith) h in
    let b : 0 * d < suc m * u * 1 = rw zero-mul (omega arith) in
    rw (lt-ltb (0 * d) (suc m * u * 1) b, lt-ltb 0 (suc m) (omega arith))

-- by comparing: above zero, and finite
pub above_zero_compared : (x : Float) → above_zero x ≡ (lt (of_bits binary64 0) x && float_is_finite x)
unfolding lt float_is_finite
above_zero_compared x = rw zero_bits (go x)
  where
    go : (x : Float) → above_zero x ≡ (lt (fin false 0 (pos 0)) x && float_is_finite x)
    go nan = refl
    go (inf true) = refl
    go (inf false) = refl
    go (fin true m e) = refl
    go (fin false m e) = scaled (up e) (down e) (up_pos e) m

-- and by comparing with the infinity
pub above_zero_below : (x : Float) → above_zero x ≡ (lt (of_bits binary64 0) x && lt x (of_bits binary64 infinite))
unfolding lt
above_zero_below x = rw (zero_bits, infinite_bits) (go x)
  where
    go : (x : Float) → above_zero x ≡ (lt (fin false 0 (pos 0)) x && lt x (inf false))
    go nan = refl
    go (inf true) = refl
    go (inf false) = refl
    go (fin true m e) = refl
    go (fin false m e) = scaled (up e) (down e) (up_pos e) m
