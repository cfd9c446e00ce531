-- The arithmetic of whole millionths: a million is 15625 times 2 to the 6, so that the numbers at hand fit 64 bits.
-- Assumes nothing.
use mathlib.Core.Path.{◌≡◌, refl, sym, ap, ◌∙◌}
use mathlib.Core.Bool.{Bool, true, false, cond, not}
use Prim.Native.Nat.{ℕ, ◌+◌, ◌-◌, ◌*◌, ◌/◌, ◌%◌, ◌^◌, ◌≤◌, ◌<◌}
use native.Mathlib.Nat.{div-div-eq-div-mul, mul-div-mul_right, div-eq_of_lt, mod-eq_of_lt, mul-div_cancel, mul-mod_left, mul-mod_right, lt_of_lt_of_le}
use native.Mathlib.Omega.{arith}
use borrow.Author.Tests.{lt-ltb, le-ltb, ltb-false, eqb-true, eqb-false, eq-eqb, ne_eqb}
use lib.Arith.{mod-mul}
use lib.Dec.{eqb, lit<}
use Rattle.std.proofs.lemmas.Nat.{one_shl}
use lib.Pow.{pow-add, pow_pos, pow_mono}
use Rattle.settings_decimal.specs.Decimal.{exponent, significand, under, large, millionths, cut_off}

-- a significand has at most 53 binary digits
pub significand_small : (b : ℕ) → significand b < 9007199254740992
unfolding significand
significand_small b = go (eqb (exponent b) 0)
  where
    go : (t : Bool) → cond t (b % 4503599627370496) (4503599627370496 + b % 4503599627370496) < 9007199254740992
    go true = omega arith
    go false = omega arith

-- 2 ^ (k + 10), with a million's 2 ^ 6 taken out
power_split : (k : ℕ) → 2 ^ (k + 10) ≡ 2 ^ k * 16 * 64
power_split k = pow-add 2 k 10 ∙ omega arith

million_split : (m : ℕ) → m * 1000000 ≡ m * 15625 * 64
million_split m = omega arith

-- the quotient
quotient : (m k : ℕ) → m * 1000000 / 2 ^ (k + 10) ≡ m * 15625 / 16 / 2 ^ k
quotient m k =
    rw (power_split k, million_split m, mul-div-mul_right (m * 15625) (2 ^ k * 16) (lit< tt))
    (ap (λ (d : ℕ). m * 15625 / d) (omega arith) ∙ sym (div-div-eq-div-mul (m * 15625) 16 (2 ^ k)))

-- the remainder, from those of the two divisions
remainder : (m k : ℕ) → m * 1000000 % 2 ^ (k + 10) ≡ (m * 15625 / 16 % 2 ^ k * 16 + m * 15625 % 16) * 64
remainder m k =
    let p = pow_pos k in
    let a : m * 1000000 % 2 ^ (k + 10) ≡ m * 15625 * 64 % (2 ^ k * 16 * 64) = rw (power_split k, million_split m) in
    let b : m * 15625 * 64 % (2 ^ k * 16 * 64) ≡ (m * 15625 * 64 / 64 % (2 ^ k * 16)) * 64 + m * 15625 * 64 % 64 = mod-mul (m * 15625 * 64) {m = 2 ^ k * 16} {c = 64} (omega arith) (lit< tt) in
    let c : m * 15625 * 64 / 64 ≡ m * 15625 = mul-div_cancel (m * 15625) (lit< tt) in
    let d : m * 15625 * 64 % 64 ≡ 0 = mul-mod_left (m * 15625) 64 in
    let e : m * 15625 % (2 ^ k * 16) ≡ m * 15625 / 16 % 2 ^ k * 16 + m * 15625 % 16 = mod-mul (m * 15625) {m = 2 ^ k} {c = 16} p (lit< tt) in
    a ∙ b ∙ rw (c, d, e) (omega arith)

-- the field of a float that is not large, and that of a large one
pub field_small : (b : ℕ) → exponent b ≤ 1065 → large b ≡ false
field_small b h = le-ltb 1065 (exponent b) h

pub field_large : (b : ℕ) → 1065 < exponent b → large b ≡ true
field_large b h = lt-ltb 1065 (exponent b) h

-- what `below` cites
pub ruleset field_steps = (field_small, field_large)

-- a number of 64 bits by a power of two that is larger
pub far_quotient : (n k : ℕ) → n < 18446744073709551616 → 64 ≤ k → 0 ≡ n / 2 ^ k
far_quotient n k h l = sym (div-eq_of_lt (lt_of_lt_of_le h (pow_mono {i = 64} {j = k} l)))

pub far_remainder : (n k : ℕ) → n < 18446744073709551616 → 64 ≤ k → n ≡ n % 2 ^ k
far_remainder n k h l = sym (mod-eq_of_lt (lt_of_lt_of_le h (pow_mono {i = 64} {j = k} l)))

-- what `divided` cites
pub ruleset power_steps = (one_shl, pow_pos, far_quotient, far_remainder)

-- a float that is not large has ten digits or more under the point
under_ten : (b : ℕ) → large b ≡ false → 10 ≤ under b
under_ten b h = omega (arith, ltb-false 1065 (exponent b) h)

-- its whole millionths
pub millionths_units : (b k m : ℕ) → m ≡ significand b → k + 10 ≡ under b → m * 15625 / 16 / 2 ^ k ≡ millionths b
unfolding millionths
millionths_units b k m e g = rw (← g, e) (sym (quotient (significand b) k))

-- 15625 times 9 is one more than 16 times 8789
odd_times : (m : ℕ) → m * 15625 % 16 ≡ 0 → m % 16 ≡ 0
odd_times m z =
    let e : m ≡ 16 * (9 * (m * 15625 / 16) - 8789 * m) = omega arith in
    ap (λ (x : ℕ). x % 16) e ∙ mul-mod_right 16 (9 * (m * 15625 / 16) - 8789 * m)

times_odd : (m : ℕ) → m % 16 ≡ 0 → m * 15625 % 16 ≡ 0
times_odd m z =
    let e : m * 15625 ≡ m / 16 * 15625 * 16 = omega arith in
    ap (λ (x : ℕ). x % 16) e ∙ mul-mod_left (m / 16 * 15625) 16

-- where the significand is no multiple of 16, a part of a unit is cut off
pub cut_sixteenth : (b : ℕ) {m : ℕ} → large b ≡ false → m ≡ significand b → (m % 16 ≡ 0 → ⊥) → true ≡ cut_off b
unfolding cut_off
cut_sixteenth b {m} l e h =
    let u = under_ten b l in
    let k = under b - 10 in
    let g : under b ≡ k + 10 = omega arith in
    let r = remainder (significand b) k in
    let n : (significand b * 1000000 % 2 ^ (k + 10) ≡ 0 → ⊥) = λ z. h (rw e (odd_times (significand b) (omega (arith, r, z)))) in
    rw (g, ne_eqb (significand b * 1000000 % 2 ^ (k + 10)) 0 n)

-- what is no remainder of the units is none of the millionths
zero_alike : (a c : ℕ) → c ≡ 0 → eqb ((a * 16 + c) * 64) 0 ≡ eqb a 0
zero_alike a c e = go (eqb a 0) refl
  where
    go : (t : Bool) → eqb a 0 ≡ t → eqb ((a * 16 + c) * 64) 0 ≡ t
    go true h = eq-eqb ((a * 16 + c) * 64) 0 (omega (arith, eqb-true a 0 h))
    go false h = ne_eqb ((a * 16 + c) * 64) 0 (λ z. eqb-false a 0 h (omega arith))

-- where the significand is a multiple of 16, the units' remainder tells whether anything is cut off
pub cut_units : (b k m : ℕ) → m ≡ significand b → m % 16 ≡ 0 → k + 10 ≡ under b → not (eqb (m * 15625 / 16 % 2 ^ k) 0) ≡ cut_off b
unfolding cut_off
cut_units b k m e h g =
    rw (← g, ← e, remainder m k, zero_alike (m * 15625 / 16 % 2 ^ k) (m * 15625 % 16) (times_odd m h))

-- what `in_decimal` cites
pub ruleset decimal_steps = (significand_small, millionths_units, cut_sixteenth, cut_units)
