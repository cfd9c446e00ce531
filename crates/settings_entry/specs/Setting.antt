-- A setting's value: which are bad, and which values a machine holds.
-- Assumes nothing.
use Rattle.std.specs.Prelude.{cond, ℕ, T}
use Rattle.std.specs.Float.{binary64}
use Rattle.std.specs.Float.Ieee.{fits}
use Rattle.byte_format.specs.Number.{Wide}
use Rattle.settings_float.specs.AboveZero.{above_zero}
use Rattle.settings_entry.specs.declared.Setting.{Setting}
use Rattle.settings_entry.specs.declared.Setting.TheVariants.{Margin, Feed, Count}

-- "Margin and feed must be finite and above zero", else "26 bad float"; 0 is none
abbrev pub float_fault : Setting → ℕ
float_fault (Margin x) = cond (above_zero x) 0 26
float_fault (Feed x) = cond (above_zero x) 0 26
float_fault (Count n) = 0

-- a setting as the machine holds it: a float is a value of binary64, a count one of 64 bits
abbrev pub Held : Setting → Type 0
Held (Margin x) = T (fits binary64 x)
Held (Feed x) = T (fits binary64 x)
Held (Count n) = Wide 8 n
