-- What is printed of a text.
-- Assumes nothing.
use Rattle.std.specs.Prelude.{cond, ◌&&◌, List, ℕ, eqb, ltb, length}
use Rattle.recording_make.specs.Made.{Made, made_of}

-- the room for a recording: the bytes of the longest, one of the dated kind
abbrev pub longest : ℕ
longest = 60869

-- how many bytes a recording has that was made, 0 where there is none
abbrev pub length_made : Made → ℕ
length_made m = cond (eqb m.fault 0 && eqb m.refusal 0) m.place 0

-- how many bytes the recording has that is printed of a text, 0 where there is none: of a text that is too long, or one with a fault or a refusal
abbrev pub length_printed : List ℕ → ℕ
length_printed text = cond (ltb 1048576 (length text)) 0 (length_made (made_of text longest))
