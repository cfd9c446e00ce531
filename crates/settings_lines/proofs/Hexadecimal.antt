-- What `io::hex` writes at its full width are the 16 hexadecimal digits.
-- Assumes nothing.
use mathlib.Core.Path.{◌≡◌, refl, ap, ◌∙◌}
use mathlib.Core.List.{List, [], ◌∷◌, ◌++◌}
use mathlib.Core.Bool.{Bool, true, false}
use Prim.Native.Nat.{ℕ, zero, suc, ◌-◌, ◌/◌, ◌%◌, ◌^◌, ◌≤◌, ◌<◌}
use native.Mathlib.Nat.{le_trans, not-le_of_lt, pow-le-pow_right}
use native.Mathlib.Omega.{arith}
use borrow.Author.Tests.{leb-true, leb-false}
use lib.Dec.{leb, lit<}
use Rattle.io.specs.Digits.{last_digits, IsDigitCount}
use Rattle.settings_lines.specs.Hex.{hex_digit, hexadecimal, hex_of}

-- the two say the same digits
digits_are : (k n : ℕ) → last_digits 16 k n ≡ hexadecimal k n
unfolding hexadecimal
digits_are zero n = refl
digits_are (suc k) n = ap (λ (l : List ℕ). l ++ (hex_digit (n % 16) ∷ [])) (digits_are k (n / 16))

-- a number of 64 bits has no more than 16
full : (n k : ℕ) → n < 2 ^ 64 → IsDigitCount 16 16 n k → k ≡ 16
full n k h w = go (leb k 16) refl
  where
    go : (t : Bool) → leb k 16 ≡ t → k ≡ 16
    go true e = omega (arith, leb-true k 16 e, w.0)
    go false e =
        let l : 16 < k = leb-false k 16 e in
        let p : 16 ^ 16 ≤ 16 ^ (k - 1) = pow-le-pow_right (lit< tt) {i = 16} {j = k - 1} (omega arith) in
        absurd (not-le_of_lt h (le_trans p (w.2 l)))

-- as `io::hex` says it
pub spelled : (n : ℕ) {k : ℕ} {t : List ℕ} → n < 2 ^ 64 → IsDigitCount 16 16 n k → t ≡ last_digits 16 k n → t ≡ hex_of n
spelled n {k} h w e = e ∙ ap (λ (j : ℕ). last_digits 16 j n) (full n k h w) ∙ digits_are 16 n
