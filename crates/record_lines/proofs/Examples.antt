-- Lines computed from the definitions.
-- Assumes nothing.
use mathlib.Core.Path.{◌≡◌, refl}
use mathlib.Core.List.{[], ◌∷◌}
use Rattle.text_line.specs.Numeral.{decimal, number}
use Rattle.record_lines.specs.Lines.{reason, fault_line, refused_line}

-- `line 12: too few numbers`
line_12 : fault_line 12 4 ≡ 108 ∷ 105 ∷ 110 ∷ 101 ∷ 32 ∷ 49 ∷ 50 ∷ 58 ∷ 32 ∷ 116 ∷ 111 ∷ 111 ∷ 32 ∷ 102 ∷ 101 ∷ 119 ∷ 32 ∷ 110 ∷ 117 ∷ 109 ∷ 98 ∷ 101 ∷ 114 ∷ 115 ∷ 10 ∷ []
unfolding decimal number reason
line_12 = refl

-- `line 3: the kind, K, must stand first and only there`
line_3 : fault_line 3 6 ≡ 108 ∷ 105 ∷ 110 ∷ 101 ∷ 32 ∷ 51 ∷ 58 ∷ 32 ∷ 116 ∷ 104 ∷ 101 ∷ 32 ∷ 107 ∷ 105 ∷ 110 ∷ 100 ∷ 44 ∷ 32 ∷ 75 ∷ 44 ∷ 32 ∷ 109 ∷ 117 ∷ 115 ∷ 116 ∷ 32 ∷ 115 ∷ 116 ∷ 97 ∷ 110 ∷ 100 ∷ 32 ∷ 102 ∷ 105 ∷ 114 ∷ 115 ∷ 116 ∷ 32 ∷ 97 ∷ 110 ∷ 100 ∷ 32 ∷ 111 ∷ 110 ∷ 108 ∷ 121 ∷ 32 ∷ 116 ∷ 104 ∷ 101 ∷ 114 ∷ 101 ∷ 10 ∷ []
unfolding decimal number reason
line_3 = refl

-- `line 1: refused 2 at 1`
line_1 : refused_line 1 2 1 ≡ 108 ∷ 105 ∷ 110 ∷ 101 ∷ 32 ∷ 49 ∷ 58 ∷ 32 ∷ 114 ∷ 101 ∷ 102 ∷ 117 ∷ 115 ∷ 101 ∷ 100 ∷ 32 ∷ 50 ∷ 32 ∷ 97 ∷ 116 ∷ 32 ∷ 49 ∷ 10 ∷ []
unfolding decimal number
line_1 = refl
