-- What the loop over the cells has put into a line.
-- Assumes nothing.
use mathlib.Core.Path.{◌≡◌, sym, ap, ◌∙◌}
use mathlib.Core.List.{List, [], ◌∷◌, ◌++◌, append_assoc, append-nil}
use Prim.Native.Nat.{ℕ, ◌+◌, ◌<◌, min}
use native.Mathlib.Numerals.{add-one}
use lib.ListN.{length, take, get_or}
use lib.Seq.{take-suc}
use Rattle.text_line.specs.Numeral.{number}
use Rattle.text_line.specs.Shown.{joined}
use Rattle.text_line.proofs.Copies.{take_least}
use Rattle.text_line.proofs.Pieces.{chain}
use Rattle.recording_lines.specs.Lines.{numbers}

numbers_snoc : (ns : List ℕ) (n : ℕ) → numbers (ns ++ (n ∷ [])) ≡ numbers ns ++ number n
unfolding numbers
numbers_snoc [] n = append-nil (number n)
numbers_snoc (m ∷ ns) n = ap (λ (l : List ℕ). number m ++ l) (numbers_snoc ns n) ∙ sym (append_assoc (number m) (numbers ns) (number n))

-- one more
pub one_cell :
    (s cells : List ℕ) (i : ℕ) {m n : List ℕ} → i < length cells → m ≡ joined s (numbers (take i cells)) → n ≡ joined m (number (get_or cells i 0)) →
    n ≡ joined s (numbers (take (i + 1) cells))
one_cell s cells i h e f =
    let k : numbers (take (i + 1) cells) ≡ numbers (take i cells) ++ number (get_or cells i 0) = rw (add-one, take-suc cells i 0) (numbers_snoc (take i cells) (get_or cells i 0)) in
    rw k (chain s (numbers (take i cells)) (number (get_or cells i 0)) e f)

-- after the last
pub all_cells : (s cells : List ℕ) {i : ℕ} {n : List ℕ} → i ≡ min 10 (length cells) → n ≡ joined s (numbers (take i cells)) → n ≡ joined s (numbers (take 10 cells))
all_cells s cells e f = f ∙ ap (λ (l : List ℕ). joined s (numbers l)) (rw e (take_least 10 cells))
