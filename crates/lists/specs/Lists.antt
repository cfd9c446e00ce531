-- Lists changed place by place, and tests of the numbers below a bound.
-- Assumes nothing.
use Rattle.std.specs.Prelude.{Bool, true, false, cond, ◌&&◌, ◌||◌, List, [], ◌∷◌, ℕ, zero, suc, ◌+◌, eqb}

module _ {A : Type 0} where
  -- `upto f n xs`: the value x at place i becomes `f i x`, for i below n; the others stay
  unfoldable pub upto : (ℕ → A → A) → ℕ → List A → List A
  upto f n [] = []
  upto f zero (x ∷ xs) = x ∷ xs
  upto f (suc n) (x ∷ xs) = f 0 x ∷ upto (λ i. f (suc i)) n xs

-- the test holds of each number below n
unfoldable pub every : (ℕ → Bool) → ℕ → Bool
every f zero = true
every f (suc k) = f k && every f k

-- it holds of one of them
unfoldable pub some : (ℕ → Bool) → ℕ → Bool
some f zero = false
some f (suc k) = f k || some f k

-- of how many
unfoldable pub count : (ℕ → Bool) → ℕ → ℕ
count f zero = 0
count f (suc k) = cond (f k) (count f k + 1) (count f k)

-- the first number from q on of which the test fails, looking at m numbers
unfoldable pub first : (ℕ → Bool) → ℕ → ℕ → ℕ
first f zero q = q
first f (suc m) q = cond (f q) (first f m (q + 1)) q

-- the first of f 0 to f (n - 1) that is not 0, and 0 where there is none
unfoldable pub leading : (ℕ → ℕ) → ℕ → ℕ
leading f zero = 0
leading f (suc k) = cond (eqb (leading f k) 0) (f k) (leading f k)

-- f 0 + .. + f (n - 1)
unfoldable pub sum : (ℕ → ℕ) → ℕ → ℕ
sum f zero = 0
sum f (suc n) = f n + sum f n
