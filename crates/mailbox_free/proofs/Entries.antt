-- The table's rule, at all its entries: one test that is computed over the whole table, and the law that turns it into the rule.
-- Assumes nothing.
use mathlib.Core.Path.{◌≡◌, ap, ◌∙◌}
use mathlib.Core.Bool.{Bool, true, ◌&&◌}
use mathlib.Core.List.{List, [], ◌∷◌}
use Prim.Native.Nat.{ℕ, zero, suc, ◌+◌, ◌<◌}
use native.Mathlib.Omega.{arith}
use borrow.Author.Tests.{eqb-true}
use lib.Dec.{eqb}
use lib.ListN.{length}
use Rattle.lists.proofs.Bools.{and_left, and_right}
use Rattle.protocol_state.specs.Saved.{at}
use Rattle.mailbox_free.specs.Pattern.{patterns, lowest_in, AllLowest}

-- each entry, of pattern i and those after it, is the lowest position that its pattern leaves free
unfoldable pub tested : ℕ → List ℕ → Bool
tested i [] = true
tested i (x ∷ xs) = eqb x (lowest_in i) && tested (suc i) xs

-- so each is, at its place
entry : (i : ℕ) (xs : List ℕ) → tested i xs ≡ true → (k : ℕ) → k < length xs → at xs k ≡ lowest_in (i + k)
unfolding tested
entry i [] e k h = absurd (omega arith)
entry i (x ∷ xs) e zero h = eqb-true _ _ (and_left (eqb x (lowest_in i)) (tested (suc i) xs) e) ∙ ap lowest_in (omega arith)
entry i (x ∷ xs) e (suc k) h = entry (suc i) xs (and_right (eqb x (lowest_in i)) (tested (suc i) xs) e) k (omega arith) ∙ ap lowest_in (omega arith)

-- a table that passes the test at all patterns
pub all_lowest : (t : List ℕ) → length t ≡ patterns → tested 0 t ≡ true → AllLowest t
all_lowest t n e = record { entry = λ k h. entry 0 t e k (omega (arith, n)) ∙ ap lowest_in (omega arith) }
