-- Every line fits its room.
-- Assumes nothing.
use mathlib.Core.Bool.{Bool, true, false, cond}
use mathlib.Core.List.{List, [], ◌∷◌}
use Prim.Native.Nat.{ℕ, zero, suc, ◌/◌, ◌%◌, ◌≤◌}
use native.Mathlib.Nat.{le_refl}
use native.Mathlib.Omega.{arith}
use lib.ListN.{length, length-append}
use Rattle.text_line.proofs.Lengths.{last, end, piece, word, numeral, fits}
use Rattle.settings_decimal.specs.Decimal.{large, millionths, cut_off, six_digits}
use Rattle.settings_lines.specs.Hex.{hex_digit, hexadecimal, hex_of}
use Rattle.settings_lines.specs.Words.{text_above, text_at_least, text_bits, text_closed, text_less, text_migrated, text_point, text_setting}
use Rattle.settings_lines.specs.Lines.{cut_words, in_millionths, at_least, value, setting_line, migrated_line}

-- there are no more hexadecimal digits than was said
hexadecimal_long : (k n : ℕ) → length (hexadecimal k n) ≤ k
unfolding hexadecimal
hexadecimal_long zero n = omega arith
hexadecimal_long (suc k) n = rw (length-append (hexadecimal k (n / 16)) (hex_digit (n % 16) ∷ [])) (omega (arith, hexadecimal_long k (n / 16)))

-- six digits
six_long : (n : ℕ) → length (six_digits n) ≤ 6
unfolding six_digits
six_long n = omega arith

-- what is said of digits that are cut off
cut_long : (unit : List ℕ) (cut : Bool) → length unit ≤ 8 → length (cut_words unit cut) ≤ 38
unfolding cut_words
cut_long unit true h = fits 38 (word text_less (piece unit h (last text_closed (le_refl _)))) (omega arith)
cut_long unit false h = omega arith

-- a value with a unit
pub value_long : (unit : List ℕ) (b : ℕ) → length unit ≤ 8 → length (value unit b) ≤ 100
unfolding value
value_long unit b h = go (large b)
  where
    go : (t : Bool) → length (cond t (at_least unit) (in_millionths unit (millionths b) (cut_off b))) ≤ 100
    go true = fits 100 (word text_at_least (piece unit h (last text_above (le_refl _)))) (omega arith)
    go false =
        let n = millionths b in
        let named = piece unit h (last (cut_words unit (cut_off b)) (cut_long unit (cut_off b) h)) in
        fits 100 (numeral (n / 1000000) (word text_point (piece (six_digits n) (six_long n) named))) (omega arith)

-- a setting's line
pub setting_fits : (kind v : List ℕ) (i b : ℕ) → length kind ≤ 8 → length v ≤ 100 → length (setting_line kind i v b) ≤ 384
setting_fits kind v i b h g =
    let bits = word text_bits (piece (hex_of b) (hexadecimal_long 16 b) end) in
    fits 384 (word text_setting (numeral i (piece kind h (piece v g bits)))) (omega arith)

-- the last line
pub migrated_fits : (n : ℕ) → length (migrated_line n) ≤ 384
migrated_fits n = fits 384 (word text_migrated (numeral n end)) (omega arith)
