-- The lines of migrated settings.
-- Assumes nothing.
use Rattle.std.specs.Prelude.{Bool, cond, List, [], ◌∷◌, ◌++◌, ℕ, ◌/◌}
use Rattle.text_line.specs.Numeral.{number}
use Rattle.text_line.specs.Shown.{line_of}
use Rattle.settings_decimal.specs.Decimal.{large, millionths, cut_off, six_digits}
use Rattle.settings_lines.specs.Hex.{hex_of}
use Rattle.settings_lines.specs.Words.{
  text_above,
  text_at_least,
  text_bits,
  text_closed,
  text_count,
  text_feed,
  text_less,
  text_margin,
  text_migrated,
  text_mm,
  text_mm_per_s,
  text_point,
  text_setting,
}

-- what is said of digits that are cut off: `(cut off: less than 0.000001 UNIT)`, or nothing where there are none
unfoldable pub cut_words : List ℕ → Bool → List ℕ
cut_words unit cut = cond cut (text_less ++ (unit ++ text_closed)) []

-- a value of n whole millionths: `W.DDDDDD UNIT`, and what is cut off
abbrev pub in_millionths : List ℕ → ℕ → Bool → List ℕ
in_millionths unit n cut = number (n / 1000000) ++ (text_point ++ (six_digits n ++ (unit ++ cut_words unit cut)))

-- a large value: `at least 8796093022208 UNIT (cut off: what is above)`
abbrev pub at_least : List ℕ → List ℕ
at_least unit = text_at_least ++ (unit ++ text_above)

-- a value in decimal, with its unit
unfoldable pub value : List ℕ → ℕ → List ℕ
value unit b = cond (large b) (at_least unit) (in_millionths unit (millionths b) (cut_off b))

-- `setting I KIND VALUE, bits B`: what is shown of a value, and its 64 bits
abbrev pub setting_line : List ℕ → ℕ → List ℕ → ℕ → List ℕ
setting_line kind i v b = line_of (text_setting ∷ number i ∷ kind ∷ v ∷ text_bits ∷ hex_of b ∷ [])

-- a setting that is a binary64
abbrev pub float_line : List ℕ → List ℕ → ℕ → ℕ → List ℕ
float_line kind unit i b = setting_line kind i (value unit b) b

-- `setting I margin V mm, bits B`
abbrev pub margin_line : ℕ → ℕ → List ℕ
margin_line = float_line text_margin text_mm

-- `setting I feed V mm/s, bits B`
abbrev pub feed_line : ℕ → ℕ → List ℕ
feed_line = float_line text_feed text_mm_per_s

-- `setting I count N, bits B`
abbrev pub count_line : ℕ → ℕ → List ℕ
count_line i n = setting_line text_count i (number n) n

-- `migrated N`
abbrev pub migrated_line : ℕ → List ℕ
migrated_line n = line_of (text_migrated ∷ number n ∷ [])
