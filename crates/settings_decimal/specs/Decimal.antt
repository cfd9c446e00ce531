-- A binary64 above zero in decimal, from the number b of its 64 bits: whole millionths, and whether anything is cut off below them.
-- Assumes nothing.
use Rattle.std.specs.Prelude.{Bool, cond, not, List, [], ◌∷◌, ℕ, ◌+◌, ◌-◌, ◌*◌, ◌/◌, ◌%◌, ◌^◌, max, ltb, eqb}

-- the exponent's field of a number above zero
abbrev pub exponent : ℕ → ℕ
exponent b = b / 4503599627370496

-- the digits with the leading one; a field of 0 has no leading digit
unfoldable pub significand : ℕ → ℕ
significand b = cond (eqb (exponent b) 0) (b % 4503599627370496) (4503599627370496 + b % 4503599627370496)

-- the value is significand b / 2 ^ under b, where the field is at most 1075; a field of 0 counts as 1
abbrev pub under : ℕ → ℕ
under b = 1075 - max 1 (exponent b)

-- 2 ^ 43 = 8796093022208 or more
abbrev pub large : ℕ → Bool
large b = ltb 1065 (exponent b)

-- the whole millionths of a value that is not large
unfoldable pub millionths : ℕ → ℕ
millionths b = significand b * 1000000 / 2 ^ under b

-- whether there is more than the whole millionths
unfoldable pub cut_off : ℕ → Bool
cut_off b = not (eqb (significand b * 1000000 % 2 ^ under b) 0)

-- the decimal digit of n at the place of worth w, as a byte
abbrev pub digit_at : ℕ → ℕ → ℕ
digit_at w n = 48 + n / w % 10

-- the last six decimal digits of n
unfoldable pub six_digits : ℕ → List ℕ
six_digits n = digit_at 100000 n ∷ digit_at 10000 n ∷ digit_at 1000 n ∷ digit_at 100 n ∷ digit_at 10 n ∷ digit_at 1 n ∷ []
