-- What `io::decimal` writes are the decimal digits.
-- Assumes nothing.
use mathlib.Core.Path.{◌≡◌, ◌∙◌}
use mathlib.Core.List.{List}
use Prim.Native.Nat.{ℕ, zero, suc, ◌+◌, ◌-◌, ◌*◌, ◌/◌, ◌%◌, ◌^◌, ◌≤◌, ◌<◌}
use native.Mathlib.Nat.{div-lt_iff_lt-mul, le-div_iff_mul-le, pow-suc, not-suc-le-zero, mod-eq_of_lt}
use native.Mathlib.Omega.{arith}
use borrow.Author.Tests.{lt-ltb, le-ltb}
use lib.Dec.{lit<}
use lib.ListN.{take}
use Rattle.io.specs.Digits.{hex_digit_ascii, last_digits, IsDigitCount}
use Rattle.text_line.specs.Numeral.{decimal}

pow_pos : (k : ℕ) → 1 ≤ 10 ^ k
pow_pos zero = omega arith
pow_pos (suc k) = let h = pow_pos k in rw pow-suc (omega arith)

glyph_mod : (n : ℕ) → hex_digit_ascii (n % 10) ≡ 48 + n % 10
glyph_mod n = let h : n % 10 < 10 = omega arith in rw (lt-ltb (n % 10) 10 h)

-- at most f digits, and these
pub decimal_is : (f k n : ℕ) → 1 ≤ f → n < 10 ^ f → IsDigitCount 10 1 n k → (k ≤ f) × (last_digits 10 k n ≡ decimal f n)
unfolding decimal
decimal_is f zero n p h w = absurd (not-suc-le-zero w.0)
decimal_is zero (suc k) n p h w = absurd (not-suc-le-zero p)
decimal_is (suc f) (suc zero) n p h w =
    let l : n < 10 = w.1 in
    (omega arith, rw (glyph_mod n, lt-ltb n 10 l, mod-eq_of_lt l))
decimal_is (suc zero) (suc (suc k)) n p h w =
    let z : suc (suc k) - 1 ≡ suc k = omega arith in
    let l : 10 ^ suc k ≤ n = rw z at (w.2 (omega arith)) in
    let m : 10 ^ k * 10 ≤ n = rw pow-suc at l in
    let g : n < 10 = h in
    absurd (omega (arith, pow_pos k))
decimal_is (suc (suc f)) (suc (suc k)) n p h w =
    let z : suc (suc k) - 1 ≡ suc k = omega arith in
    let l : 10 ^ suc k ≤ n = rw z at (w.2 (omega arith)) in
    let m : 10 ^ k * 10 ≤ n = rw pow-suc at l in
    let ten : 10 ≤ n = omega (arith, pow_pos k) in
    let a : n < 10 ^ suc f * 10 = rw pow-suc at h in
    let b : n / 10 < 10 ^ suc f = (div-lt_iff_lt-mul (lit< tt)).1 a in
    let c : n < 10 ^ suc k * 10 = rw pow-suc at w.1 in
    let d : n / 10 < 10 ^ suc k = (div-lt_iff_lt-mul (lit< tt)).1 c in
    let e : 10 ^ k ≤ n / 10 = (le-div_iff_mul-le (lit< tt)).1 m in
    let y : suc k - 1 ≡ k = omega arith in
    let i = decimal_is (suc f) (suc k) (n / 10) (omega arith) b (omega arith, d, λ _. rw y e) in
    (omega (arith, i.0), rw (glyph_mod n, le-ltb n 10 ten, i.1))

-- as `io::decimal` says it
pub spelled : (n k : ℕ) (t : List ℕ) → n < 2 ^ 64 → IsDigitCount 10 1 n k → take k t ≡ last_digits 10 k n → (k ≤ 20) × (take k t ≡ decimal 20 n)
spelled n k t h w e =
    let l : n < 10 ^ 20 = omega arith in
    let i = decimal_is 20 k n (omega arith) l w in
    (i.0, e ∙ i.1)
