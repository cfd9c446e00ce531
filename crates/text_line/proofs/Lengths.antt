-- How many bytes the pieces of a line have at most, counted from its end.
-- Assumes nothing.
use mathlib.Core.Bool.{Bool, true, false, cond}
use mathlib.Core.List.{List, [], ◌∷◌, ◌++◌}
use Prim.Native.Nat.{ℕ, zero, suc, ◌+◌, ◌/◌, ◌%◌, ◌≤◌}
use native.Mathlib.Nat.{le_refl, le_trans}
use native.Mathlib.Omega.{arith}
use lib.Dec.{ltb}
use lib.ListN.{length, length-append}
use Rattle.text_line.specs.Numeral.{decimal, number}
use Rattle.text_line.specs.Shown.{feed}

-- two pieces have at most as many bytes as both may have
pub long : (a b : List ℕ) {i j : ℕ} → length a ≤ i → length b ≤ j → length (a ++ b) ≤ i + j
long a b h g = rw (length-append a b) (omega arith)

-- there are no more digits than was said
decimal_long : (f n : ℕ) → length (decimal f n) ≤ f
unfolding decimal
decimal_long zero n = omega arith
decimal_long (suc f) n = go (decimal_long f (n / 10)) (ltb n 10)
  where
    go : length (decimal f (n / 10)) ≤ f → (b : Bool) → length (cond b ((48 + n) ∷ []) (decimal f (n / 10) ++ ((48 + n % 10) ∷ []))) ≤ suc f
    go h true = omega arith
    go h false = rw (length-append (decimal f (n / 10)) ((48 + n % 10) ∷ [])) (omega arith)

-- a space, and at most twenty digits
pub number_long : (n : ℕ) → length (number n) ≤ 21
unfolding number
number_long n = omega (arith, decimal_long 20 n)

-- a list of at most k bytes
pub record Within (v : List ℕ) (k : ℕ) : Type 0 where
  pub size : length v ≤ k

-- the last piece
pub last : (a : List ℕ) {i : ℕ} → length a ≤ i → Within a i
last a h = record { size = h }

-- the end of a line
pub end : Within feed 1
end = last feed (le_refl _)

-- one piece more in front
pub piece : (a : List ℕ) {v : List ℕ} {i k : ℕ} → length a ≤ i → Within v k → Within (a ++ v) (i + k)
piece a {v} h w = record { size = long a v h w.size }

-- a word in front, which is as long as it is
pub word : (a : List ℕ) {v : List ℕ} {k : ℕ} → Within v k → Within (a ++ v) (length a + k)
word a w = piece a (le_refl _) w

-- a space and a number in front
pub numeral : (n : ℕ) {v : List ℕ} {k : ℕ} → Within v k → Within (number n ++ v) (21 + k)
numeral n w = piece (number n) (number_long n) w

-- all of it fits a room of k bytes or more
pub fits : {v : List ℕ} {k : ℕ} (room : ℕ) → Within v k → k ≤ room → length v ≤ room
fits room w h = le_trans w.size h
