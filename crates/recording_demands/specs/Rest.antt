-- What a caller gets besides the answer of a replay: the unread rest.
-- Assumes nothing.
use Rattle.std.specs.Prelude.{◌≡◌, List, [], ◌++◌, ℕ, ◌≤◌, length, take, drop}

-- document 01: "On refusal the caller also gets the unread rest, from the place of the refusal to the end, as that part of the lent recording; after
-- acceptance that part is empty". The recording s got this refusal, 0 for none, at this place; the place lies within it, and the recording is what
-- stands before the place and then the rest
pub record Unread (s : List ℕ) (refusal place : ℕ) (rest : List ℕ) : Type 0 where
  pub part : rest ≡ drop place s
  pub within : place ≤ length s
  pub whole : s ≡ take place s ++ rest
  pub none : refusal ≡ 0 → rest ≡ []
