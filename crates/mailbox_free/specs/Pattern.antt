-- Patterns of taken positions, as a number: bit p - 1 says whether position p is taken.
-- Assumes nothing.
use Rattle.std.specs.Prelude.{◌≡◌, Bool, true, false, cond, List, ℕ, ◌-◌, ◌^◌, ◌≤◌, ◌<◌, leb}
use Rattle.lists.specs.Lists.{first}
use Rattle.protocol.specs.Event.{has}
use Rattle.protocol_state.specs.Saved.{at, positions}

-- how many patterns there are
abbrev pub patterns : ℕ
patterns = 2 ^ positions

-- position p is taken in pattern k
abbrev pub taken_in : ℕ → ℕ → Bool
taken_in k p = has k (p - 1)

-- a position of the ten, and 0 for what lies past them
abbrev pub or_none : ℕ → ℕ
or_none p = cond (leb p positions) p 0

-- the lowest position that is not taken, 0 where all ten are
abbrev pub lowest_in : ℕ → ℕ
lowest_in k = or_none (first (taken_in k) positions 1)

-- every position before p is taken
abbrev pub TakenBefore : ℕ → ℕ → Type 0
TakenBefore k p = (q : ℕ) → 1 ≤ q → q < p → taken_in k q ≡ true

-- p is the lowest position of the ten that pattern k leaves free: what an entry other than 0 says (`lowest_says`)
pub record LeftFree (k p : ℕ) : Type 0 where
  pub from : 1 ≤ p
  pub upto : p ≤ positions
  pub free : taken_in k p ≡ false
  pub before : TakenBefore k p

-- at each pattern the table t has the lowest position that the pattern leaves free, 0 for the full one
pub record AllLowest (t : List ℕ) : Type 0 where
  pub entry : (k : ℕ) → k < patterns → at t k ≡ lowest_in k
