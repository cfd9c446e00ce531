-- Taken positions as bits: bit p of a word says whether position p is taken.
-- Assumes nothing.
use Rattle.std.specs.Prelude.{ℕ, ◌^◌, min}

-- the last bit of a word of sixteen; whatever is larger shares it, and it is no position's
abbrev pub last_bit : ℕ
last_bit = 15

-- the word with the bit of p alone
abbrev pub bit_word : ℕ → ℕ
bit_word p = 2 ^ min p last_bit
