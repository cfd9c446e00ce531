-- The lines that tell why there is no recording.
-- Assumes nothing.
use Rattle.std.specs.Prelude.{cond, List, [], ◌∷◌, ℕ, eqb}
use Rattle.text_line.specs.Numeral.{number}
use Rattle.text_line.specs.Shown.{line_of}
use Rattle.record_lines.specs.Words.{text_line, text_unknown, text_no_number, text_too_large, text_too_few, text_too_many, text_kind, text_no_reason, text_refused, text_at, text_too_long}

-- why a line cannot be read, in words; another number is no reason
unfoldable pub reason : ℕ → List ℕ
reason fault =
    cond (eqb fault 1) text_unknown
    (cond (eqb fault 2) text_no_number
    (cond (eqb fault 3) text_too_large
    (cond (eqb fault 4) text_too_few
    (cond (eqb fault 5) text_too_many
    (cond (eqb fault 6) text_kind text_no_reason)))))

-- `line N: REASON`
abbrev pub fault_line : ℕ → ℕ → List ℕ
fault_line line fault = line_of (text_line ∷ number line ∷ reason fault ∷ [])

-- `line N: refused R at P`
abbrev pub refused_line : ℕ → ℕ → ℕ → List ℕ
refused_line line refusal place = line_of (text_line ∷ number line ∷ text_refused ∷ number refusal ∷ text_at ∷ number place ∷ [])

-- `the text is longer than 1048576 bytes`
abbrev pub too_long_line : List ℕ
too_long_line = line_of (text_too_long ∷ [])
