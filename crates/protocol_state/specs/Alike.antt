-- The answer of a saved state and one that the demands speak of.
-- Assumes nothing.
use Rattle.std.specs.Prelude.{◌≡◌, ℕ}
use Rattle.protocol.specs.Published.{Same}
use Rattle.protocol_deadlines.specs.Answering.{Response}
use Rattle.protocol_state.specs.Saved.{boxes}
use Rattle.protocol_state.specs.Give.{Reply}

-- the same refusal, the same value, and boxes that nobody can tell apart
pub record Alike (a : Reply) (b : Response ℕ) : Type 0 where
  pub refusal : a.refusal ≡ b.refusal
  pub value : a.value ≡ b.value
  pub boxes : Same (boxes a.state) b.boxes
