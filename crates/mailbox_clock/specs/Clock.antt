-- The regions of the times with another last tick.
-- Assumes nothing.
use Rattle.std.specs.Prelude.{List, ℕ, set}
use Rattle.regions.specs.Regions.{region}
use Rattle.mailbox_layout.specs.Layout.{last_region}

-- the tick x put as the last one
abbrev pub last_put : ℕ → List (List ℕ) → List (List ℕ)
last_put x R = set R last_region (set (region R last_region) 0 x)
