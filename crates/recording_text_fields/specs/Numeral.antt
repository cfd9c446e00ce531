-- Fields that are numbers.
-- Assumes nothing.
use Rattle.std.specs.Prelude.{Result, Ok, Err, Bool, true, cond, ◌&&◌, List, [], ◌∷◌, ◌++◌, map, ℕ, ◌+◌, ◌-◌, ◌*◌, ◌^◌, min, eqb, leb, ltb, length, get_or}
use Rattle.std.specs.Int.Bits.{bit_or}
use Rattle.recording_text_fields.specs.declared.number.Numbers.{Numbers}

-- `0` to `9`
abbrev pub is_digit : ℕ → Bool
is_digit b = leb 48 b && leb b 57

-- only digits
unfoldable pub all_digits : List ℕ → Bool
all_digits [] = true
all_digits (b ∷ f) = is_digit b && all_digits f

-- the number in decimal of the digits n and these behind them
unfoldable pub value_from : ℕ → List ℕ → ℕ
value_from n [] = n
value_from n (b ∷ f) = value_from (n * 10 + (b - 48)) f

-- the number of a field
abbrev pub value : List ℕ → ℕ
value f = value_from 0 f

-- why a field is no number of a recording: it is not a number, 2, or above 4294967295, 3; 0 where it is one
unfoldable pub number_fault : List ℕ → ℕ
number_fault f = cond (all_digits f) (cond (ltb 4294967295 (value f)) 3 0) 2

-- a field as a number, or the fault
abbrev pub field_number : List ℕ → Result ℕ ℕ
field_number f = cond (eqb (number_fault f) 0) (Ok (value f)) (Err (number_fault f))

-- the first field from the left that is no number says why; 0 where there is none
unfoldable pub first_fault : List (List ℕ) → ℕ
first_fault [] = 0
first_fault (f ∷ fs) = cond (eqb (number_fault f) 0) (first_fault fs) (number_fault f)

-- the numbers of fields
unfoldable pub field_values : List (List ℕ) → List ℕ
field_values fs = map value fs

-- the last bit of a set as it is gathered: no table has a task of this number, so it stands for it and all above
abbrev pub last_of_set : ℕ
last_of_set = 32

-- the bit for a task, as a set is gathered
abbrev pub clipped : ℕ → ℕ
clipped t = min t last_of_set

-- a set and the bits of these numbers
unfoldable pub set_with : (ℕ → ℕ) → ℕ → List ℕ → ℕ
set_with bit set [] = set
set_with bit set (n ∷ ns) = set_with bit (bit_or set (2 ^ bit n)) ns

-- the set of tasks that these numbers name: bit t is task t
abbrev pub named_set : List ℕ → ℕ
named_set ns = set_with (λ n. n) 0 ns

-- and as it is gathered
abbrev pub set_of : List ℕ → ℕ
set_of ns = set_with clipped 0 ns

-- a set as it is handed over: one with the last bit becomes the empty one, which is refused like it
abbrev pub handed_set : ℕ → ℕ
handed_set set = cond (ltb set (2 ^ last_of_set)) set 0

-- numbers as they are gathered: how many there are, the first four, and all as a set
abbrev pub gathered : List ℕ → Numbers
gathered ns = record { count = length ns; first = get_or ns 0 0 ∷ get_or ns 1 0 ∷ get_or ns 2 0 ∷ get_or ns 3 0 ∷ []; set = set_of ns }

-- numbers and those of fields behind them, or the first fault
unfoldable pub numbers_with : List ℕ → List (List ℕ) → Result Numbers ℕ
numbers_with ns fs = cond (eqb (first_fault fs) 0) (Ok (gathered (ns ++ field_values fs))) (Err (first_fault fs))
