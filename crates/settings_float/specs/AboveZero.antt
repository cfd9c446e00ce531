-- Which floats are finite and above zero.
-- Assumes nothing.
use Rattle.std.specs.Prelude.{Bool, false, not, ◌&&◌, ltb, Float}
use Rattle.std.specs.Float.{nan, inf, fin}

-- "finite and above zero": m * 2 ^ e with no minus sign and an m above 0
abbrev pub above_zero : Float → Bool
above_zero nan = false
above_zero (inf s) = false
above_zero (fin s m e) = not s && ltb 0 m
