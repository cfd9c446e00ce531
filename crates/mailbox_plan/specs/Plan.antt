-- The plan of a table's links: what is found once for many events.
-- Assumes nothing.
use Rattle.std.specs.Prelude.{◌≡◌, Bool, cond, List, ℕ, ◌%◌, ◌<◌, eqb}
use Rattle.protocol_state.specs.Saved.{at}

-- the flag of link l is set: it is odd
abbrev pub is_flagged : List ℕ → ℕ → Bool
is_flagged plan l = eqb (at plan l % 2) 1

-- the same of the whole byte: it is 1
abbrev pub is_one : List ℕ → ℕ → Bool
is_one plan l = eqb (at plan l) 1

-- the plan of the first n links, from W to R, under the order `ahead`: the flag of a link is 1 where it goes to a reader behind, else 0
pub record Planned (ahead : ℕ → ℕ → Bool) (W R : ℕ → ℕ) (n : ℕ) (plan : List ℕ) : Type 0 where
  pub flag : (l : ℕ) → l < n → at plan l ≡ cond (ahead (W l) (R l)) 1 0
