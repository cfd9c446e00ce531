-- A decision as the table's entry.
-- Assumes nothing.
use Rattle.std.specs.Prelude.{◌≡◌, Result, Ok, Err, ℕ, ◌≤◌, ◌<◌}
use Rattle.refusals.specs.declared.Refusal.{Refusal}
use Rattle.refusals.specs.Numbers.{number}

-- the entry d of the table: the next phase, below 12, or from 12 on the number of the refusal
abbrev pub Decides : ℕ → Result ℕ Refusal → Type 0
Decides d (Ok next) = (d ≡ next) × (next < 12)
Decides d (Err refusal) = (d ≡ number refusal) × (12 ≤ number refusal)
