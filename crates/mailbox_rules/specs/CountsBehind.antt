-- How many links to readers behind each task has, in an array with a place for each task that there is room for.
-- Assumes nothing.
use Rattle.std.specs.Prelude.{◌≡◌, Bool, List, ℕ, ◌<◌}
use Rattle.protocol.specs.Table.{behinds}
use Rattle.protocol_state.specs.Saved.{at, state_room}

-- the counts of the first n links, from W to R, under the order `ahead`: at each task its N so far
pub record CountsBehind (ahead : ℕ → ℕ → Bool) (W R : ℕ → ℕ) (n : ℕ) (counts : List ℕ) : Type 0 where
  pub count : (t : ℕ) → t < state_room.tasks → at counts t ≡ behinds ahead W R t n
