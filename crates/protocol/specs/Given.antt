-- A value that is there, or is not there yet.
-- Assumes nothing.
use Rattle.std.specs.Prelude.{List, [], ◌∷◌}

-- what is given where an output is asked for: the output, or nothing, if it is not produced yet
pub data Given (Val : Type 0) : Type 0 where
  there : Val → Given Val
  missing : Given Val

-- the values that are there
unfoldable pub values : {Val : Type 0} → List (Given Val) → List Val
values [] = []
values (there v ∷ gs) = v ∷ values gs
values (missing ∷ gs) = values gs
