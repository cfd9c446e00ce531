-- Bytes put into others.
-- Assumes nothing.
use Rattle.std.specs.Prelude.{List, ℕ, ◌-◌, min, length}
use Rattle.std.proofs.Math.Seq.{paste}

-- the bytes x put into those of d from a place on: as many as have room there, and no other byte changes
abbrev pub put_at : List ℕ → ℕ → List ℕ → List ℕ
put_at d at x = paste d at x (min (length x) (length d - at))
