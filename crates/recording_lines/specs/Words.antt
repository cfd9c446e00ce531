-- The words of the lines as bytes; those that do not start a line have a space in front.
-- Assumes nothing.
use Rattle.std.specs.Prelude.{List, [], ◌∷◌, ℕ}

-- `read`
abbrev pub text_read : List ℕ
text_read = 114 ∷ 101 ∷ 97 ∷ 100 ∷ []

-- `accepted`
abbrev pub text_accepted : List ℕ
text_accepted = 97 ∷ 99 ∷ 99 ∷ 101 ∷ 112 ∷ 116 ∷ 101 ∷ 100 ∷ []

-- `refused`
abbrev pub text_refused : List ℕ
text_refused = 114 ∷ 101 ∷ 102 ∷ 117 ∷ 115 ∷ 101 ∷ 100 ∷ []

-- a space and `at`
abbrev pub text_at : List ℕ
text_at = 32 ∷ 97 ∷ 116 ∷ []

-- `refusal`
abbrev pub text_refusal : List ℕ
text_refusal = 114 ∷ 101 ∷ 102 ∷ 117 ∷ 115 ∷ 97 ∷ 108 ∷ []

-- `place`
abbrev pub text_place : List ℕ
text_place = 112 ∷ 108 ∷ 97 ∷ 99 ∷ 101 ∷ []

-- `rest`
abbrev pub text_rest : List ℕ
text_rest = 114 ∷ 101 ∷ 115 ∷ 116 ∷ []

-- `counts`
abbrev pub text_counts : List ℕ
text_counts = 99 ∷ 111 ∷ 117 ∷ 110 ∷ 116 ∷ 115 ∷ []

-- `last`
abbrev pub text_last : List ℕ
text_last = 108 ∷ 97 ∷ 115 ∷ 116 ∷ []

-- `task`
abbrev pub text_task : List ℕ
text_task = 116 ∷ 97 ∷ 115 ∷ 107 ∷ []

-- a space and `idle`
abbrev pub text_idle : List ℕ
text_idle = 32 ∷ 105 ∷ 100 ∷ 108 ∷ 101 ∷ []

-- a space and `waiting`
abbrev pub text_waiting : List ℕ
text_waiting = 32 ∷ 119 ∷ 97 ∷ 105 ∷ 116 ∷ 105 ∷ 110 ∷ 103 ∷ []

-- a space and `running`
abbrev pub text_running : List ℕ
text_running = 32 ∷ 114 ∷ 117 ∷ 110 ∷ 110 ∷ 105 ∷ 110 ∷ 103 ∷ []

-- a space and `unknown`
abbrev pub text_unknown : List ℕ
text_unknown = 32 ∷ 117 ∷ 110 ∷ 107 ∷ 110 ∷ 111 ∷ 119 ∷ 110 ∷ []

-- a space and `newest`
abbrev pub text_newest : List ℕ
text_newest = 32 ∷ 110 ∷ 101 ∷ 119 ∷ 101 ∷ 115 ∷ 116 ∷ []

-- a space and `previous`
abbrev pub text_previous : List ℕ
text_previous = 32 ∷ 112 ∷ 114 ∷ 101 ∷ 118 ∷ 105 ∷ 111 ∷ 117 ∷ 115 ∷ []

-- a space and `cells`
abbrev pub text_cells : List ℕ
text_cells = 32 ∷ 99 ∷ 101 ∷ 108 ∷ 108 ∷ 115 ∷ []

-- `link`
abbrev pub text_link : List ℕ
text_link = 108 ∷ 105 ∷ 110 ∷ 107 ∷ []

-- a space and `pointer`
abbrev pub text_pointer : List ℕ
text_pointer = 32 ∷ 112 ∷ 111 ∷ 105 ∷ 110 ∷ 116 ∷ 101 ∷ 114 ∷ []

-- a space and `absent`
abbrev pub text_absent : List ℕ
text_absent = 32 ∷ 97 ∷ 98 ∷ 115 ∷ 101 ∷ 110 ∷ 116 ∷ []

-- a space and `had 0`
abbrev pub text_had_0 : List ℕ
text_had_0 = 32 ∷ 104 ∷ 97 ∷ 100 ∷ 32 ∷ 48 ∷ []

-- a space and `had 1`
abbrev pub text_had_1 : List ℕ
text_had_1 = 32 ∷ 104 ∷ 97 ∷ 100 ∷ 32 ∷ 49 ∷ []

-- a space and `had 2`
abbrev pub text_had_2 : List ℕ
text_had_2 = 32 ∷ 104 ∷ 97 ∷ 100 ∷ 32 ∷ 50 ∷ []

-- a space and `had unknown`
abbrev pub text_had_unknown : List ℕ
text_had_unknown = 32 ∷ 104 ∷ 97 ∷ 100 ∷ 32 ∷ 117 ∷ 110 ∷ 107 ∷ 110 ∷ 111 ∷ 119 ∷ 110 ∷ []

-- a space and `since`
abbrev pub text_since : List ℕ
text_since = 32 ∷ 115 ∷ 105 ∷ 110 ∷ 99 ∷ 101 ∷ []

-- a space and `mark`
abbrev pub text_mark : List ℕ
text_mark = 32 ∷ 109 ∷ 97 ∷ 114 ∷ 107 ∷ []

-- a space and `mark unknown`
abbrev pub text_mark_unknown : List ℕ
text_mark_unknown = 32 ∷ 109 ∷ 97 ∷ 114 ∷ 107 ∷ 32 ∷ 117 ∷ 110 ∷ 107 ∷ 110 ∷ 111 ∷ 119 ∷ 110 ∷ []
