-- A setting's line is whole: its start, its value and its end, one after the other.
-- Assumes nothing.
use mathlib.Core.Path.{◌≡◌, refl, ap}
use mathlib.Core.List.{List, [], ◌∷◌, ◌++◌, append_assoc}
use Prim.Native.Nat.{ℕ, ◌≤◌}
use lib.ListN.{length}
use Rattle.text_line.specs.Numeral.{number}
use Rattle.text_line.proofs.Pieces.{joined_joined, no_piece}
use Rattle.settings_decimal.proofs.Answers.{small_told, large_told}
use Rattle.text_line.specs.Shown.{joined, line_of, Put}
use Rattle.text_line.proofs.Pieces.{onto, chain, begun}
use Rattle.settings_lines.specs.Hex.{hex_of}
use Rattle.settings_lines.specs.Words.{text_setting, text_bits}
use Rattle.settings_lines.specs.Lines.{setting_line}

-- what the functions cite that put one piece after the other
pub ruleset pieces = (joined_joined, no_piece)

-- and the one that puts a value
pub ruleset value_pieces = (joined_joined, small_told, large_told)

-- the start of a setting's line, its value and its end are the line, where it fits
pub setting_whole :
    (kind v : List ℕ) (i b : ℕ) {s line old new : List ℕ} {r : ℕ} → length (setting_line kind i v b) ≤ 384 → s ≡ joined [] (text_setting ++ (number i ++ kind)) → line ≡ joined s v →
    Put (joined line (line_of (text_bits ∷ hex_of b ∷ []))) old r new → Put (setting_line kind i v b) old r new
setting_whole kind v i b {line = line} h e f p =
    let end = line_of (text_bits ∷ hex_of b ∷ []) in
    let a : joined line end ≡ joined [] ((text_setting ++ (number i ++ kind)) ++ (v ++ end)) = chain _ _ _ e (onto _ v end f) in
    let c : (text_setting ++ (number i ++ kind)) ++ (v ++ end) ≡ setting_line kind i v b = ap (λ (l : List ℕ). text_setting ++ l) (append_assoc (number i) kind (v ++ end)) in
    rw (a, c, begun (setting_line kind i v b) refl h) at p
