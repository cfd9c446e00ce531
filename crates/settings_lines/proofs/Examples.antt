-- Lines of migrated settings, computed from the definitions.
-- Assumes nothing.
use mathlib.Core.Path.{◌≡◌, refl}
use mathlib.Core.List.{[], ◌∷◌}
use Rattle.text_line.specs.Numeral.{decimal, number}
use Rattle.settings_decimal.specs.Decimal.{significand, millionths, cut_off, six_digits}
use Rattle.settings_lines.specs.Hex.{hexadecimal}
use Rattle.settings_lines.specs.Lines.{cut_words, value, margin_line, feed_line, count_line, migrated_line}

-- 0.25: `setting 1 margin 0.250000 mm, bits 3fd0000000000000`
quarter : margin_line 1 4598175219545276416 ≡ 115 ∷ 101 ∷ 116 ∷ 116 ∷ 105 ∷ 110 ∷ 103 ∷ 32 ∷ 49 ∷ 32 ∷ 109 ∷ 97 ∷ 114 ∷ 103 ∷ 105 ∷ 110 ∷ 32 ∷ 48 ∷ 46 ∷ 50 ∷ 53 ∷ 48 ∷ 48 ∷ 48 ∷ 48 ∷ 32 ∷ 109 ∷ 109 ∷ 44 ∷ 32 ∷ 98 ∷ 105 ∷ 116 ∷ 115 ∷ 32 ∷ 51 ∷ 102 ∷ 100 ∷ 48 ∷ 48 ∷ 48 ∷ 48 ∷ 48 ∷ 48 ∷ 48 ∷ 48 ∷ 48 ∷ 48 ∷ 48 ∷ 48 ∷ 48 ∷ 10 ∷ []
unfolding decimal number significand millionths cut_off six_digits hexadecimal cut_words value
quarter = refl

-- 0.1, of which binary64 has a little more: `setting 2 feed 0.100000 mm/s (cut off: less than 0.000001 mm/s), bits 3fb999999999999a`
tenth : feed_line 2 4591870180066957722 ≡ 115 ∷ 101 ∷ 116 ∷ 116 ∷ 105 ∷ 110 ∷ 103 ∷ 32 ∷ 50 ∷ 32 ∷ 102 ∷ 101 ∷ 101 ∷ 100 ∷ 32 ∷ 48 ∷ 46 ∷ 49 ∷ 48 ∷ 48 ∷ 48 ∷ 48 ∷ 48 ∷ 32 ∷ 109 ∷ 109 ∷ 47 ∷ 115 ∷ 32 ∷ 40 ∷ 99 ∷ 117 ∷ 116 ∷ 32 ∷ 111 ∷ 102 ∷ 102 ∷ 58 ∷ 32 ∷ 108 ∷ 101 ∷ 115 ∷ 115 ∷ 32 ∷ 116 ∷ 104 ∷ 97 ∷ 110 ∷ 32 ∷ 48 ∷ 46 ∷ 48 ∷ 48 ∷ 48 ∷ 48 ∷ 48 ∷ 49 ∷ 32 ∷ 109 ∷ 109 ∷ 47 ∷ 115 ∷ 41 ∷ 44 ∷ 32 ∷ 98 ∷ 105 ∷ 116 ∷ 115 ∷ 32 ∷ 51 ∷ 102 ∷ 98 ∷ 57 ∷ 57 ∷ 57 ∷ 57 ∷ 57 ∷ 57 ∷ 57 ∷ 57 ∷ 57 ∷ 57 ∷ 57 ∷ 57 ∷ 97 ∷ 10 ∷ []
unfolding decimal number significand millionths cut_off six_digits hexadecimal cut_words value
tenth = refl

-- the largest finite binary64: `setting 3 margin at least 8796093022208 mm (cut off: what is above), bits 7fefffffffffffff`
largest : margin_line 3 9218868437227405311 ≡ 115 ∷ 101 ∷ 116 ∷ 116 ∷ 105 ∷ 110 ∷ 103 ∷ 32 ∷ 51 ∷ 32 ∷ 109 ∷ 97 ∷ 114 ∷ 103 ∷ 105 ∷ 110 ∷ 32 ∷ 97 ∷ 116 ∷ 32 ∷ 108 ∷ 101 ∷ 97 ∷ 115 ∷ 116 ∷ 32 ∷ 56 ∷ 55 ∷ 57 ∷ 54 ∷ 48 ∷ 57 ∷ 51 ∷ 48 ∷ 50 ∷ 50 ∷ 50 ∷ 48 ∷ 56 ∷ 32 ∷ 109 ∷ 109 ∷ 32 ∷ 40 ∷ 99 ∷ 117 ∷ 116 ∷ 32 ∷ 111 ∷ 102 ∷ 102 ∷ 58 ∷ 32 ∷ 119 ∷ 104 ∷ 97 ∷ 116 ∷ 32 ∷ 105 ∷ 115 ∷ 32 ∷ 97 ∷ 98 ∷ 111 ∷ 118 ∷ 101 ∷ 41 ∷ 44 ∷ 32 ∷ 98 ∷ 105 ∷ 116 ∷ 115 ∷ 32 ∷ 55 ∷ 102 ∷ 101 ∷ 102 ∷ 102 ∷ 102 ∷ 102 ∷ 102 ∷ 102 ∷ 102 ∷ 102 ∷ 102 ∷ 102 ∷ 102 ∷ 102 ∷ 102 ∷ 10 ∷ []
unfolding decimal number hexadecimal value
largest = refl

-- a count: `setting 4 count 42, bits 000000000000002a`
count_42 : count_line 4 42 ≡ 115 ∷ 101 ∷ 116 ∷ 116 ∷ 105 ∷ 110 ∷ 103 ∷ 32 ∷ 52 ∷ 32 ∷ 99 ∷ 111 ∷ 117 ∷ 110 ∷ 116 ∷ 32 ∷ 52 ∷ 50 ∷ 44 ∷ 32 ∷ 98 ∷ 105 ∷ 116 ∷ 115 ∷ 32 ∷ 48 ∷ 48 ∷ 48 ∷ 48 ∷ 48 ∷ 48 ∷ 48 ∷ 48 ∷ 48 ∷ 48 ∷ 48 ∷ 48 ∷ 48 ∷ 48 ∷ 50 ∷ 97 ∷ 10 ∷ []
unfolding decimal number hexadecimal
count_42 = refl

-- the smallest binary64 above zero: `setting 5 margin 0.000000 mm (cut off: less than 0.000001 mm), bits 0000000000000001`
smallest : margin_line 5 1 ≡ 115 ∷ 101 ∷ 116 ∷ 116 ∷ 105 ∷ 110 ∷ 103 ∷ 32 ∷ 53 ∷ 32 ∷ 109 ∷ 97 ∷ 114 ∷ 103 ∷ 105 ∷ 110 ∷ 32 ∷ 48 ∷ 46 ∷ 48 ∷ 48 ∷ 48 ∷ 48 ∷ 48 ∷ 48 ∷ 32 ∷ 109 ∷ 109 ∷ 32 ∷ 40 ∷ 99 ∷ 117 ∷ 116 ∷ 32 ∷ 111 ∷ 102 ∷ 102 ∷ 58 ∷ 32 ∷ 108 ∷ 101 ∷ 115 ∷ 115 ∷ 32 ∷ 116 ∷ 104 ∷ 97 ∷ 110 ∷ 32 ∷ 48 ∷ 46 ∷ 48 ∷ 48 ∷ 48 ∷ 48 ∷ 48 ∷ 49 ∷ 32 ∷ 109 ∷ 109 ∷ 41 ∷ 44 ∷ 32 ∷ 98 ∷ 105 ∷ 116 ∷ 115 ∷ 32 ∷ 48 ∷ 48 ∷ 48 ∷ 48 ∷ 48 ∷ 48 ∷ 48 ∷ 48 ∷ 48 ∷ 48 ∷ 48 ∷ 48 ∷ 48 ∷ 48 ∷ 48 ∷ 49 ∷ 10 ∷ []
unfolding decimal number significand millionths cut_off six_digits hexadecimal cut_words value
smallest = refl

-- the last that is not large: `setting 6 feed 8796093022207.999023 mm/s (cut off: less than 0.000001 mm/s), bits 429fffffffffffff`
below_large : feed_line 6 4800837202776948735 ≡ 115 ∷ 101 ∷ 116 ∷ 116 ∷ 105 ∷ 110 ∷ 103 ∷ 32 ∷ 54 ∷ 32 ∷ 102 ∷ 101 ∷ 101 ∷ 100 ∷ 32 ∷ 56 ∷ 55 ∷ 57 ∷ 54 ∷ 48 ∷ 57 ∷ 51 ∷ 48 ∷ 50 ∷ 50 ∷ 50 ∷ 48 ∷ 55 ∷ 46 ∷ 57 ∷ 57 ∷ 57 ∷ 48 ∷ 50 ∷ 51 ∷ 32 ∷ 109 ∷ 109 ∷ 47 ∷ 115 ∷ 32 ∷ 40 ∷ 99 ∷ 117 ∷ 116 ∷ 32 ∷ 111 ∷ 102 ∷ 102 ∷ 58 ∷ 32 ∷ 108 ∷ 101 ∷ 115 ∷ 115 ∷ 32 ∷ 116 ∷ 104 ∷ 97 ∷ 110 ∷ 32 ∷ 48 ∷ 46 ∷ 48 ∷ 48 ∷ 48 ∷ 48 ∷ 48 ∷ 49 ∷ 32 ∷ 109 ∷ 109 ∷ 47 ∷ 115 ∷ 41 ∷ 44 ∷ 32 ∷ 98 ∷ 105 ∷ 116 ∷ 115 ∷ 32 ∷ 52 ∷ 50 ∷ 57 ∷ 102 ∷ 102 ∷ 102 ∷ 102 ∷ 102 ∷ 102 ∷ 102 ∷ 102 ∷ 102 ∷ 102 ∷ 102 ∷ 102 ∷ 102 ∷ 10 ∷ []
unfolding decimal number significand millionths cut_off six_digits hexadecimal cut_words value
below_large = refl

-- the first that is large: `setting 7 feed at least 8796093022208 mm/s (cut off: what is above), bits 42a0000000000000`
from_large : feed_line 7 4800837202776948736 ≡ 115 ∷ 101 ∷ 116 ∷ 116 ∷ 105 ∷ 110 ∷ 103 ∷ 32 ∷ 55 ∷ 32 ∷ 102 ∷ 101 ∷ 101 ∷ 100 ∷ 32 ∷ 97 ∷ 116 ∷ 32 ∷ 108 ∷ 101 ∷ 97 ∷ 115 ∷ 116 ∷ 32 ∷ 56 ∷ 55 ∷ 57 ∷ 54 ∷ 48 ∷ 57 ∷ 51 ∷ 48 ∷ 50 ∷ 50 ∷ 50 ∷ 48 ∷ 56 ∷ 32 ∷ 109 ∷ 109 ∷ 47 ∷ 115 ∷ 32 ∷ 40 ∷ 99 ∷ 117 ∷ 116 ∷ 32 ∷ 111 ∷ 102 ∷ 102 ∷ 58 ∷ 32 ∷ 119 ∷ 104 ∷ 97 ∷ 116 ∷ 32 ∷ 105 ∷ 115 ∷ 32 ∷ 97 ∷ 98 ∷ 111 ∷ 118 ∷ 101 ∷ 41 ∷ 44 ∷ 32 ∷ 98 ∷ 105 ∷ 116 ∷ 115 ∷ 32 ∷ 52 ∷ 50 ∷ 97 ∷ 48 ∷ 48 ∷ 48 ∷ 48 ∷ 48 ∷ 48 ∷ 48 ∷ 48 ∷ 48 ∷ 48 ∷ 48 ∷ 48 ∷ 48 ∷ 10 ∷ []
unfolding decimal number hexadecimal value
from_large = refl

-- the last line: `migrated 7`
migrated_7 : migrated_line 7 ≡ 109 ∷ 105 ∷ 103 ∷ 114 ∷ 97 ∷ 116 ∷ 101 ∷ 100 ∷ 32 ∷ 55 ∷ 10 ∷ []
unfolding decimal number
migrated_7 = refl
