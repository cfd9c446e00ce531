-- Lines of the printouts, computed from the definitions.
-- Assumes nothing.
use mathlib.Core.Path.{◌≡◌, refl}
use mathlib.Core.List.{[], ◌∷◌, ◌++◌}
use Rattle.text_line.specs.Numeral.{decimal, number}
use Rattle.recording_lines.specs.Lines.{numbers, phase, had_word, since_word, pointer, mark, read_line, accepted_line, refused_line, task_line, link_line}

-- document 01's example with document 02's start value, nine lines: `read 0 90`, `read 1 101`, `read 0 101`, `read 1 102`, `read 0 102`, `read 2 101`, `read 0 102`, `read 2 103`, `accepted 35`
figure_17 : read_line 0 90 ++ read_line 1 101 ++ read_line 0 101 ++ read_line 1 102 ++ read_line 0 102 ++ read_line 2 101 ++ read_line 0 102 ++ read_line 2 103 ++ accepted_line 35 ≡ 114 ∷ 101 ∷ 97 ∷ 100 ∷ 32 ∷ 48 ∷ 32 ∷ 57 ∷ 48 ∷ 10 ∷ 114 ∷ 101 ∷ 97 ∷ 100 ∷ 32 ∷ 49 ∷ 32 ∷ 49 ∷ 48 ∷ 49 ∷ 10 ∷ 114 ∷ 101 ∷ 97 ∷ 100 ∷ 32 ∷ 48 ∷ 32 ∷ 49 ∷ 48 ∷ 49 ∷ 10 ∷ 114 ∷ 101 ∷ 97 ∷ 100 ∷ 32 ∷ 49 ∷ 32 ∷ 49 ∷ 48 ∷ 50 ∷ 10 ∷ 114 ∷ 101 ∷ 97 ∷ 100 ∷ 32 ∷ 48 ∷ 32 ∷ 49 ∷ 48 ∷ 50 ∷ 10 ∷ 114 ∷ 101 ∷ 97 ∷ 100 ∷ 32 ∷ 50 ∷ 32 ∷ 49 ∷ 48 ∷ 49 ∷ 10 ∷ 114 ∷ 101 ∷ 97 ∷ 100 ∷ 32 ∷ 48 ∷ 32 ∷ 49 ∷ 48 ∷ 50 ∷ 10 ∷ 114 ∷ 101 ∷ 97 ∷ 100 ∷ 32 ∷ 50 ∷ 32 ∷ 49 ∷ 48 ∷ 51 ∷ 10 ∷ 97 ∷ 99 ∷ 99 ∷ 101 ∷ 112 ∷ 116 ∷ 101 ∷ 100 ∷ 32 ∷ 51 ∷ 53 ∷ 10 ∷ []
unfolding decimal number
figure_17 = refl

-- `refused 17 at 9`
refused_17_at_9 : refused_line 17 9 ≡ 114 ∷ 101 ∷ 102 ∷ 117 ∷ 115 ∷ 101 ∷ 100 ∷ 32 ∷ 49 ∷ 55 ∷ 32 ∷ 97 ∷ 116 ∷ 32 ∷ 57 ∷ 10 ∷ []
unfolding decimal number
refused_17_at_9 = refl

-- `task 1 waiting newest 3 previous 1 cells 102 0 4294967295 had 2`
task_1 : task_line (record { number = 1; phase = 1; newest = 3; previous = 1; seen = 2; policy = 0; since = 0 }) (102 ∷ 0 ∷ 4294967295 ∷ []) ≡ 116 ∷ 97 ∷ 115 ∷ 107 ∷ 32 ∷ 49 ∷ 32 ∷ 119 ∷ 97 ∷ 105 ∷ 116 ∷ 105 ∷ 110 ∷ 103 ∷ 32 ∷ 110 ∷ 101 ∷ 119 ∷ 101 ∷ 115 ∷ 116 ∷ 32 ∷ 51 ∷ 32 ∷ 112 ∷ 114 ∷ 101 ∷ 118 ∷ 105 ∷ 111 ∷ 117 ∷ 115 ∷ 32 ∷ 49 ∷ 32 ∷ 99 ∷ 101 ∷ 108 ∷ 108 ∷ 115 ∷ 32 ∷ 49 ∷ 48 ∷ 50 ∷ 32 ∷ 48 ∷ 32 ∷ 52 ∷ 50 ∷ 57 ∷ 52 ∷ 57 ∷ 54 ∷ 55 ∷ 50 ∷ 57 ∷ 53 ∷ 32 ∷ 104 ∷ 97 ∷ 100 ∷ 32 ∷ 50 ∷ 10 ∷ []
unfolding decimal number numbers phase had_word since_word
task_1 = refl

-- with deadlines: `task 1 waiting newest 3 previous 1 cells 102 had 2 since 4000000000`
task_1_dated : task_line (record { number = 1; phase = 1; newest = 3; previous = 1; seen = 2; policy = 1; since = 4000000000 }) (102 ∷ []) ≡ 116 ∷ 97 ∷ 115 ∷ 107 ∷ 32 ∷ 49 ∷ 32 ∷ 119 ∷ 97 ∷ 105 ∷ 116 ∷ 105 ∷ 110 ∷ 103 ∷ 32 ∷ 110 ∷ 101 ∷ 119 ∷ 101 ∷ 115 ∷ 116 ∷ 32 ∷ 51 ∷ 32 ∷ 112 ∷ 114 ∷ 101 ∷ 118 ∷ 105 ∷ 111 ∷ 117 ∷ 115 ∷ 32 ∷ 49 ∷ 32 ∷ 99 ∷ 101 ∷ 108 ∷ 108 ∷ 115 ∷ 32 ∷ 49 ∷ 48 ∷ 50 ∷ 32 ∷ 104 ∷ 97 ∷ 100 ∷ 32 ∷ 50 ∷ 32 ∷ 115 ∷ 105 ∷ 110 ∷ 99 ∷ 101 ∷ 32 ∷ 52 ∷ 48 ∷ 48 ∷ 48 ∷ 48 ∷ 48 ∷ 48 ∷ 48 ∷ 48 ∷ 48 ∷ 10 ∷ []
unfolding decimal number numbers phase had_word since_word
task_1_dated = refl

-- an idle task has no tick: `task 0 idle newest 1 previous 1 cells 7 had 0`
task_0_dated : task_line (record { number = 0; phase = 0; newest = 1; previous = 1; seen = 0; policy = 1; since = 0 }) (7 ∷ []) ≡ 116 ∷ 97 ∷ 115 ∷ 107 ∷ 32 ∷ 48 ∷ 32 ∷ 105 ∷ 100 ∷ 108 ∷ 101 ∷ 32 ∷ 110 ∷ 101 ∷ 119 ∷ 101 ∷ 115 ∷ 116 ∷ 32 ∷ 49 ∷ 32 ∷ 112 ∷ 114 ∷ 101 ∷ 118 ∷ 105 ∷ 111 ∷ 117 ∷ 115 ∷ 32 ∷ 49 ∷ 32 ∷ 99 ∷ 101 ∷ 108 ∷ 108 ∷ 115 ∷ 32 ∷ 55 ∷ 32 ∷ 104 ∷ 97 ∷ 100 ∷ 32 ∷ 48 ∷ 10 ∷ []
unfolding decimal number numbers phase had_word since_word
task_0_dated = refl

-- `link 2 pointer absent`
link_2 : link_line 2 0 0 ≡ 108 ∷ 105 ∷ 110 ∷ 107 ∷ 32 ∷ 50 ∷ 32 ∷ 112 ∷ 111 ∷ 105 ∷ 110 ∷ 116 ∷ 101 ∷ 114 ∷ 32 ∷ 97 ∷ 98 ∷ 115 ∷ 101 ∷ 110 ∷ 116 ∷ 10 ∷ []
unfolding decimal number pointer mark
link_2 = refl

-- `link 0 pointer 1 mark`
link_0 : link_line 0 1 1 ≡ 108 ∷ 105 ∷ 110 ∷ 107 ∷ 32 ∷ 48 ∷ 32 ∷ 112 ∷ 111 ∷ 105 ∷ 110 ∷ 116 ∷ 101 ∷ 114 ∷ 32 ∷ 49 ∷ 32 ∷ 109 ∷ 97 ∷ 114 ∷ 107 ∷ 10 ∷ []
unfolding decimal number pointer mark
link_0 = refl
