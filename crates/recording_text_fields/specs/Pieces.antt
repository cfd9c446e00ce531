-- What stands between separators: the lines of a text, and the fields of a line.
-- Assumes nothing.
use Rattle.std.specs.Prelude.{◌≡◌, Bool, cond, ◌||◌, List, [], ◌∷◌, ℕ, ◌+◌, ◌-◌, ◌≤◌, eqb, length, take, drop}

-- a byte in front of the first piece
abbrev pub begun : ℕ → List (List ℕ) → List (List ℕ)
begun b [] = (b ∷ []) ∷ []
begun b (p ∷ ps) = (b ∷ p) ∷ ps

-- what stands before each separator, and behind the last one, unless the bytes end there
unfoldable pub pieces : (ℕ → Bool) → List ℕ → List (List ℕ)
pieces separates [] = []
pieces separates (b ∷ s) = cond (separates b) ([] ∷ pieces separates s) (begun b (pieces separates s))

-- a line feed
abbrev pub feed : ℕ → Bool
feed b = eqb b 10

-- a space, a tab, a carriage return
abbrev pub blank : ℕ → Bool
blank b = eqb b 32 || (eqb b 9 || eqb b 13)

-- what separates the fields inside a line, and what separates lines
abbrev pub separator : Bool → ℕ → Bool
separator inner b = cond inner (blank b) (feed b)

-- the lines of a text
abbrev pub lines : List ℕ → List (List ℕ)
lines s = pieces (separator Bool.false) s

-- the pieces that have a byte
unfoldable pub filled : List (List ℕ) → List (List ℕ)
filled [] = []
filled ([] ∷ ps) = filled ps
filled ((b ∷ p) ∷ ps) = (b ∷ p) ∷ filled ps

-- the fields of a line
abbrev pub fields : List ℕ → List (List ℕ)
fields line = filled (pieces (separator Bool.true) line)

-- the bytes from one place to another
abbrev pub between : ℕ → ℕ → List ℕ → List ℕ
between a e s = take (e - a) (drop a s)

-- e is where the piece from a place on ends
pub record Ends (separates : ℕ → Bool) (s : List ℕ) (a e : ℕ) : Type 0 where
  pub after : a ≤ e
  pub within : e ≤ length s
  pub split : pieces separates (drop a s) ≡ between a e s ∷ pieces separates (drop (e + 1) s)
