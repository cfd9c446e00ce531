-- The words of the lines as bytes; those that do not start a line have a space in front.
-- Assumes nothing.
use Rattle.std.specs.Prelude.{List, [], ◌∷◌, ℕ}

-- `setting`
abbrev pub text_setting : List ℕ
text_setting = 115 ∷ 101 ∷ 116 ∷ 116 ∷ 105 ∷ 110 ∷ 103 ∷ []

-- a space and `margin`
abbrev pub text_margin : List ℕ
text_margin = 32 ∷ 109 ∷ 97 ∷ 114 ∷ 103 ∷ 105 ∷ 110 ∷ []

-- a space and `feed`
abbrev pub text_feed : List ℕ
text_feed = 32 ∷ 102 ∷ 101 ∷ 101 ∷ 100 ∷ []

-- a space and `count`
abbrev pub text_count : List ℕ
text_count = 32 ∷ 99 ∷ 111 ∷ 117 ∷ 110 ∷ 116 ∷ []

-- a space and `mm`
abbrev pub text_mm : List ℕ
text_mm = 32 ∷ 109 ∷ 109 ∷ []

-- a space and `mm/s`
abbrev pub text_mm_per_s : List ℕ
text_mm_per_s = 32 ∷ 109 ∷ 109 ∷ 47 ∷ 115 ∷ []

-- the decimal point
abbrev pub text_point : List ℕ
text_point = 46 ∷ []

-- a space and `(cut off: less than 0.000001`
abbrev pub text_less : List ℕ
text_less = 32 ∷ 40 ∷ 99 ∷ 117 ∷ 116 ∷ 32 ∷ 111 ∷ 102 ∷ 102 ∷ 58 ∷ 32 ∷ 108 ∷ 101 ∷ 115 ∷ 115 ∷ 32 ∷ 116 ∷ 104 ∷ 97 ∷ 110 ∷ 32 ∷ 48 ∷ 46 ∷ 48 ∷ 48 ∷ 48 ∷ 48 ∷ 48 ∷ 49 ∷ []

-- the bracket that closes those words
abbrev pub text_closed : List ℕ
text_closed = 41 ∷ []

-- a space and `at least 8796093022208`
abbrev pub text_at_least : List ℕ
text_at_least = 32 ∷ 97 ∷ 116 ∷ 32 ∷ 108 ∷ 101 ∷ 97 ∷ 115 ∷ 116 ∷ 32 ∷ 56 ∷ 55 ∷ 57 ∷ 54 ∷ 48 ∷ 57 ∷ 51 ∷ 48 ∷ 50 ∷ 50 ∷ 50 ∷ 48 ∷ 56 ∷ []

-- a space and `(cut off: what is above)`
abbrev pub text_above : List ℕ
text_above = 32 ∷ 40 ∷ 99 ∷ 117 ∷ 116 ∷ 32 ∷ 111 ∷ 102 ∷ 102 ∷ 58 ∷ 32 ∷ 119 ∷ 104 ∷ 97 ∷ 116 ∷ 32 ∷ 105 ∷ 115 ∷ 32 ∷ 97 ∷ 98 ∷ 111 ∷ 118 ∷ 101 ∷ 41 ∷ []

-- `, bits` and a space
abbrev pub text_bits : List ℕ
text_bits = 44 ∷ 32 ∷ 98 ∷ 105 ∷ 116 ∷ 115 ∷ 32 ∷ []

-- `migrated`
abbrev pub text_migrated : List ℕ
text_migrated = 109 ∷ 105 ∷ 103 ∷ 114 ∷ 97 ∷ 116 ∷ 101 ∷ 100 ∷ []
