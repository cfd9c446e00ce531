-- Every line fits its room.
-- Assumes nothing.
use mathlib.Core.Bool.{Bool, true, false, cond}
use Prim.Native.Nat.{ℕ, ◌≤◌}
use native.Mathlib.Omega.{arith}
use lib.Dec.{eqb}
use lib.ListN.{length}
use Rattle.text_line.proofs.Lengths.{end, piece, word, numeral, fits}
use Rattle.record_lines.specs.Words.{text_line, text_unknown, text_no_number, text_too_large, text_too_few, text_too_many, text_kind, text_no_reason, text_refused, text_at, text_too_long}
use Rattle.record_lines.specs.Lines.{reason, fault_line, refused_line, too_long_line}

-- the words of a reason
reason_long : (fault : ℕ) → length (reason fault) ≤ 95
unfolding reason
reason_long fault = go (eqb fault 1) (eqb fault 2) (eqb fault 3) (eqb fault 4) (eqb fault 5) (eqb fault 6)
  where
    go :
        (a b c d e f : Bool) →
        length (cond a text_unknown (cond b text_no_number (cond c text_too_large (cond d text_too_few (cond e text_too_many (cond f text_kind text_no_reason)))))) ≤ 95
    go true b c d e f = omega arith
    go false true c d e f = omega arith
    go false false true d e f = omega arith
    go false false false true e f = omega arith
    go false false false false true f = omega arith
    go false false false false false true = omega arith
    go false false false false false false = omega arith

pub fault_fits : (line fault : ℕ) → length (fault_line line fault) ≤ 384
fault_fits line fault = fits 384 (word text_line (numeral line (piece (reason fault) (reason_long fault) end))) (omega arith)

pub refused_fits : (line refusal place : ℕ) → length (refused_line line refusal place) ≤ 384
refused_fits line refusal place = fits 384 (word text_line (numeral line (word text_refused (numeral refusal (word text_at (numeral place end)))))) (omega arith)

pub too_long_fits : length too_long_line ≤ 384
too_long_fits = fits 384 (word text_too_long end) (omega arith)
