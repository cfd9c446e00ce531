-- A list that is cut into regions of given widths, one after the other.
-- Assumes nothing.
use Rattle.std.specs.Prelude.{◌≡◌, List, [], ◌∷◌, ◌++◌, ℕ, zero, suc, ◌+◌, length, get_or, take, drop}

-- the regions of `xs`, from the left; what is left over belongs to none
unfoldable pub regions : List ℕ → List ℕ → List (List ℕ)
regions [] xs = []
regions (w ∷ ws) xs = take w xs ∷ regions ws (drop w xs)

-- region k
abbrev pub region : List (List ℕ) → ℕ → List ℕ
region rs k = get_or rs k []

-- where region k begins
unfoldable pub start : List ℕ → ℕ → ℕ
start ws zero = 0
start [] (suc k) = 0
start (w ∷ ws) (suc k) = w + start ws k

-- how wide it is
abbrev pub width : List ℕ → ℕ → ℕ
width ws k = get_or ws k 0

-- how wide all of them are together
abbrev pub extent : List ℕ → ℕ
extent ws = start ws (length ws)

-- regions put together again, one after the other
unfoldable pub joined : List (List ℕ) → List ℕ
joined [] = []
joined (r ∷ rs) = r ++ joined rs

-- each of them has its width
unfoldable pub Widths : List ℕ → List (List ℕ) → Type 0
Widths [] [] = Unit {0}
Widths [] (r ∷ rs) = ⊥
Widths (w ∷ ws) [] = ⊥
Widths (w ∷ ws) (r ∷ rs) = (length r ≡ w) × Widths ws rs
