-- The words of the lines as bytes.
-- Assumes nothing.
use Rattle.std.specs.Prelude.{List, [], ◌∷◌, ℕ}

-- `line`
abbrev pub text_line : List ℕ
text_line = 108 ∷ 105 ∷ 110 ∷ 101 ∷ []

-- `: the first word is none of K, T, L, A, S, R and F, or with 255 no tick with an event behind it`
abbrev pub text_unknown : List ℕ
text_unknown = 58 ∷ 32 ∷ 116 ∷ 104 ∷ 101 ∷ 32 ∷ 102 ∷ 105 ∷ 114 ∷ 115 ∷ 116 ∷ 32 ∷ 119 ∷ 111 ∷ 114 ∷ 100 ∷ 32 ∷ 105 ∷ 115 ∷ 32 ∷ 110 ∷ 111 ∷ 110 ∷ 101 ∷ 32 ∷ 111 ∷ 102 ∷ 32 ∷ 75 ∷ 44 ∷ 32 ∷ 84 ∷ 44 ∷ 32 ∷ 76 ∷ 44 ∷ 32 ∷ 65 ∷ 44 ∷ 32 ∷ 83 ∷ 44 ∷ 32 ∷ 82 ∷ 32 ∷ 97 ∷ 110 ∷ 100 ∷ 32 ∷ 70 ∷ 44 ∷ 32 ∷ 111 ∷ 114 ∷ 32 ∷ 119 ∷ 105 ∷ 116 ∷ 104 ∷ 32 ∷ 50 ∷ 53 ∷ 53 ∷ 32 ∷ 110 ∷ 111 ∷ 32 ∷ 116 ∷ 105 ∷ 99 ∷ 107 ∷ 32 ∷ 119 ∷ 105 ∷ 116 ∷ 104 ∷ 32 ∷ 97 ∷ 110 ∷ 32 ∷ 101 ∷ 118 ∷ 101 ∷ 110 ∷ 116 ∷ 32 ∷ 98 ∷ 101 ∷ 104 ∷ 105 ∷ 110 ∷ 100 ∷ 32 ∷ 105 ∷ 116 ∷ []

-- `: not a number`
abbrev pub text_no_number : List ℕ
text_no_number = 58 ∷ 32 ∷ 110 ∷ 111 ∷ 116 ∷ 32 ∷ 97 ∷ 32 ∷ 110 ∷ 117 ∷ 109 ∷ 98 ∷ 101 ∷ 114 ∷ []

-- `: a number above 4294967295`
abbrev pub text_too_large : List ℕ
text_too_large = 58 ∷ 32 ∷ 97 ∷ 32 ∷ 110 ∷ 117 ∷ 109 ∷ 98 ∷ 101 ∷ 114 ∷ 32 ∷ 97 ∷ 98 ∷ 111 ∷ 118 ∷ 101 ∷ 32 ∷ 52 ∷ 50 ∷ 57 ∷ 52 ∷ 57 ∷ 54 ∷ 55 ∷ 50 ∷ 57 ∷ 53 ∷ []

-- `: too few numbers`
abbrev pub text_too_few : List ℕ
text_too_few = 58 ∷ 32 ∷ 116 ∷ 111 ∷ 111 ∷ 32 ∷ 102 ∷ 101 ∷ 119 ∷ 32 ∷ 110 ∷ 117 ∷ 109 ∷ 98 ∷ 101 ∷ 114 ∷ 115 ∷ []

-- `: too many numbers`
abbrev pub text_too_many : List ℕ
text_too_many = 58 ∷ 32 ∷ 116 ∷ 111 ∷ 111 ∷ 32 ∷ 109 ∷ 97 ∷ 110 ∷ 121 ∷ 32 ∷ 110 ∷ 117 ∷ 109 ∷ 98 ∷ 101 ∷ 114 ∷ 115 ∷ []

-- `: the kind, K, must stand first and only there`
abbrev pub text_kind : List ℕ
text_kind = 58 ∷ 32 ∷ 116 ∷ 104 ∷ 101 ∷ 32 ∷ 107 ∷ 105 ∷ 110 ∷ 100 ∷ 44 ∷ 32 ∷ 75 ∷ 44 ∷ 32 ∷ 109 ∷ 117 ∷ 115 ∷ 116 ∷ 32 ∷ 115 ∷ 116 ∷ 97 ∷ 110 ∷ 100 ∷ 32 ∷ 102 ∷ 105 ∷ 114 ∷ 115 ∷ 116 ∷ 32 ∷ 97 ∷ 110 ∷ 100 ∷ 32 ∷ 111 ∷ 110 ∷ 108 ∷ 121 ∷ 32 ∷ 116 ∷ 104 ∷ 101 ∷ 114 ∷ 101 ∷ []

-- `: cannot be read`
abbrev pub text_no_reason : List ℕ
text_no_reason = 58 ∷ 32 ∷ 99 ∷ 97 ∷ 110 ∷ 110 ∷ 111 ∷ 116 ∷ 32 ∷ 98 ∷ 101 ∷ 32 ∷ 114 ∷ 101 ∷ 97 ∷ 100 ∷ []

-- `: refused`
abbrev pub text_refused : List ℕ
text_refused = 58 ∷ 32 ∷ 114 ∷ 101 ∷ 102 ∷ 117 ∷ 115 ∷ 101 ∷ 100 ∷ []

-- a space and `at`
abbrev pub text_at : List ℕ
text_at = 32 ∷ 97 ∷ 116 ∷ []

-- `the text is longer than 1048576 bytes`
abbrev pub text_too_long : List ℕ
text_too_long = 116 ∷ 104 ∷ 101 ∷ 32 ∷ 116 ∷ 101 ∷ 120 ∷ 116 ∷ 32 ∷ 105 ∷ 115 ∷ 32 ∷ 108 ∷ 111 ∷ 110 ∷ 103 ∷ 101 ∷ 114 ∷ 32 ∷ 116 ∷ 104 ∷ 97 ∷ 110 ∷ 32 ∷ 49 ∷ 48 ∷ 52 ∷ 56 ∷ 53 ∷ 55 ∷ 54 ∷ 32 ∷ 98 ∷ 121 ∷ 116 ∷ 101 ∷ 115 ∷ []
