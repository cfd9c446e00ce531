-- What a code byte and 8 bytes say, and which floats are bad.
-- Assumes nothing.
use Rattle.std.specs.Prelude.{false, ℕ, ◌<◌, ℤ, Float}
use Rattle.std.specs.Float.{fin, binary64}
use Rattle.std.specs.Float.Ieee.{of_bits}
use Rattle.settings_entry.specs.declared.Setting.{Setting}
use Rattle.settings_entry.specs.declared.Setting.TheVariants.{Margin, Feed, Count}

-- a code byte, and the setting of the number in the 8 bytes after it; a byte with no line here is no code
pub data CodeOf : ℕ → (ℕ → Setting) → Type 0 where
  -- "Code 1 is a margin in millimetres, 2 a feed rate in millimetres per second, both binary64;
  a_margin : CodeOf 1 (λ n. Margin (of_bits binary64 n))
  a_feed : CodeOf 2 (λ n. Feed (of_bits binary64 n))
  -- code 3 is a count in 64 bits."
  a_count : CodeOf 3 (λ n. Count n)

-- "finite and above zero": m * 2 ^ e with no minus sign and an m above 0
pub data FiniteAboveZero : Float → Type 0 where
  finite : {m : ℕ} {e : ℤ} → 0 < m → FiniteAboveZero (fin false m e)

-- "Margin and feed must be finite and above zero."; a setting that is not so is a bad float
pub data Good : Setting → Type 0 where
  good_margin : {x : Float} → FiniteAboveZero x → Good (Margin x)
  good_feed : {x : Float} → FiniteAboveZero x → Good (Feed x)
  any_count : {n : ℕ} → Good (Count n)
