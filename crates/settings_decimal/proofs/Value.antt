-- What the definitions say of 64 bits is the value that IEEE 754 reads from them: `HasValue x s a c` says that x is finite, has the sign s and is a / c in size.
-- Assumes nothing.
use mathlib.Core.Path.{◌≡◌, refl, sym, ap, ◌∙◌}
use mathlib.Core.Bool.{true, false, cond}
use Prim.Native.Nat.{ℕ, zero, suc, ◌+◌, ◌-◌, ◌*◌, ◌/◌, ◌%◌, ◌^◌, ◌≤◌, ◌<◌, max}
use native.Mathlib.Nat.{eq_of_mul-eq-mul_right, add-mul, one-mul, mul_assoc, mul_right_comm, mul-le-mul, mod-eq_of_lt, div-mul-le_self, lt-div-mul-add, div-add-mod'}
use native.Mathlib.Omega.{arith}
use borrow.Author.Tests.{ltb-true, lt-leb, eqb-true, ne_eqb, not-false}
use lib.Dec.{eqb}
use lib.Pow.{pow-add, pow_pos, pow_mono}
use lib.Ieee.{Float, nan, inf, fin, up, down, binary64, odd, of_fields, of_bits}
use lib.Ieee.Exact.{HasValue, odd_sign}
use Rattle.settings_decimal.specs.Decimal.{exponent, significand, under, large, millionths, cut_off}

-- the field and the digits, as IEEE 754 takes them
fields : (x t : ℕ) → x < 2047 → of_fields binary64 false x t ≡ odd 53 false (cond (eqb x 0) t (4503599627370496 + t)) (max 1 x - 1) 1074
unfolding of_fields
fields zero t h = refl
fields (suc x) t h =
    let m : max 1 (suc x) - 1 ≡ x = omega arith in
    rw (ne_eqb (suc x) 0 (λ z. omega arith), ne_eqb (suc x) 2047 (λ z. omega arith), m)

-- how many times the smallest number above zero a number is
abbrev pub steps : ℕ → ℕ
steps b = significand b * 2 ^ (max 1 (exponent b) - 1)

-- the value of a finite number, 1 / 2 ^ 1074 being the smallest one
pub finite_value : (b : ℕ) → b < 2 ^ 63 → exponent b < 2047 → HasValue (of_bits binary64 b) false (steps b) (2 ^ 1074)
unfolding of_bits significand
finite_value b h g =
    rw (lt-leb (2 ^ 63) b h, mod-eq_of_lt h, fields (exponent b) (b % 4503599627370496) g)
    (odd_sign 53 false (significand b) (max 1 (exponent b) - 1) 1074)

-- a fraction with a power of two less above and below
lowered : (x : Float) (a u j : ℕ) → HasValue x false (a * 2 ^ j) (2 ^ (u + j)) → HasValue x false a (2 ^ u)
lowered nan a u j h = h
lowered (inf t) a u j h = h
lowered (fin t m e) a u j h =
    let l : m * up e * 2 ^ (u + j) ≡ m * up e * 2 ^ u * 2 ^ j = rw (pow-add 2 u j) (sym (mul_assoc (m * up e) (2 ^ u) (2 ^ j))) in
    let r : a * 2 ^ j * down e ≡ a * down e * 2 ^ j = mul_right_comm a (2 ^ j) (down e) in
    (h.0, eq_of_mul-eq-mul_right (2 ^ j) (pow_pos j) (m * up e * 2 ^ u) (a * down e) (sym l ∙ h.1 ∙ r))

-- the value where the field is at most 1075, as of every number that is not large
pub value_under : (b : ℕ) → b < 2 ^ 63 → exponent b ≤ 1075 → HasValue (of_bits binary64 b) false (significand b) (2 ^ under b)
value_under b h g =
    let j = max 1 (exponent b) - 1 in
    let e : 1074 ≡ under b + j = omega arith in
    lowered (of_bits binary64 b) (significand b) (under b) j (rw (ap (λ (k : ℕ). 2 ^ k) e) at (finite_value b h (omega arith)))

-- a large value is 8796093022208 or more
pub large_value : (b : ℕ) → large b ≡ true → 8796093022208 * 2 ^ 1074 ≤ steps b
unfolding significand
large_value b h =
    let l = ltb-true 1065 (exponent b) h in
    let s : 4503599627370496 ≤ significand b = rw (ne_eqb (exponent b) 0 (λ z. omega arith)) (omega arith) in
    mul-le-mul s (pow_mono {i = 1065} {j = max 1 (exponent b) - 1} (omega arith))

-- whole millionths are no more than the value, and less than a millionth is cut off
pub less_than_a_millionth : (b : ℕ) → (millionths b * 2 ^ under b ≤ significand b * 1000000) × (significand b * 1000000 < (millionths b + 1) * 2 ^ under b)
unfolding millionths
less_than_a_millionth b =
    let p = pow_pos (under b) in
    let q = significand b * 1000000 / 2 ^ under b in
    let e : (q + 1) * 2 ^ under b ≡ q * 2 ^ under b + 2 ^ under b = add-mul q 1 (2 ^ under b) ∙ ap (λ (x : ℕ). q * 2 ^ under b + x) (one-mul (2 ^ under b)) in
    (div-mul-le_self (significand b * 1000000) (2 ^ under b), rw e (lt-div-mul-add p))

-- where nothing is cut off they are the value
pub nothing_cut : (b : ℕ) → cut_off b ≡ false → millionths b * 2 ^ under b ≡ significand b * 1000000
unfolding millionths cut_off
nothing_cut b h =
    let z = eqb-true (significand b * 1000000 % 2 ^ under b) 0 (not-false _ h) in
    let s = div-add-mod' (significand b * 1000000) (2 ^ under b) in
    omega (arith, s, z)
