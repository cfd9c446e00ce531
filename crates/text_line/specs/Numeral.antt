-- Numbers in decimal, as bytes.
-- Assumes nothing.
use Rattle.std.specs.Prelude.{cond, List, [], ◌∷◌, ◌++◌, ℕ, zero, suc, ◌+◌, ◌/◌, ◌%◌, ltb}

-- the decimal digits of n, of which there are at most f
unfoldable pub decimal : ℕ → ℕ → List ℕ
decimal zero n = []
decimal (suc f) n = cond (ltb n 10) ((48 + n) ∷ []) (decimal f (n / 10) ++ ((48 + n % 10) ∷ []))

-- the decimal digits of a number of 64 bits
abbrev pub digits : ℕ → List ℕ
digits n = decimal 20 n

-- a space
abbrev pub space : List ℕ
space = 32 ∷ []

-- a space and a number
unfoldable pub number : ℕ → List ℕ
number n = space ++ digits n
