-- The answer to a table, as the parts that a host lends.
-- Assumes nothing.
use Rattle.std.specs.Prelude.{ℕ}
use Rattle.protocol_state.specs.Saved.{Saved}
use Rattle.protocol_state.specs.Fresh.{Made}

-- what a table makes, from its parts
abbrev pub made_as : ℕ → Saved → Made
made_as r q = record { refusal = r; state = q }
