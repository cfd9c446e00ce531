-- An entry: "a code byte and 8 bytes, little-endian".
-- Assumes nothing.
use Rattle.std.specs.Prelude.{cond, List, ◌∷◌, ℕ, ◌+◌, eqb}
use Rattle.std.specs.Float.{binary64}
use Rattle.std.specs.Float.Ieee.{of_bits, to_bits}
use Rattle.byte_format.specs.Number.{bytes_of, number_at, Wide}
use Rattle.byte_format.specs.Format.{Got, got, stop, Format}
use Rattle.byte_format.specs.Kinded.{Kinds, record_at}
use Rattle.settings_entry.specs.declared.Setting.{Setting}
use Rattle.settings_entry.specs.declared.Setting.TheVariants.{Margin, Feed, Count}
use Rattle.settings_entry.specs.declared.code.Code.{Code}
use Rattle.settings_entry.specs.declared.code.Code.TheVariants as code

-- a code and the number in its 8 bytes
pub record Entry : Type 0 where
  pub kind : Code
  pub bits : ℕ

-- "Code 1 is a margin .., 2 a feed rate .., code 3 is a count"
abbrev pub byte_of : Code → ℕ
byte_of code.Margin = 1
byte_of code.Feed = 2
byte_of code.Count = 3

-- "a code byte and 8 bytes, little-endian"
abbrev pub encode_entry : Entry → List ℕ
encode_entry e = byte_of e.kind ∷ bytes_of 8 e.bits

-- "unknown code": 11, "either a known kind or the refusal, never a stand-in"
abbrev pub code_of : ℕ → ℕ → Got Code
code_of b q = cond (eqb b 1) (got code.Margin q) (cond (eqb b 2) (got code.Feed q) (cond (eqb b 3) (got code.Count q) (stop 11)))

-- the three kinds of entries
abbrev pub codes : Kinds Code Entry
codes = record { says = code_of; size = λ k. 9; body = λ k s p. record { kind = k; bits = number_at 8 s (p + 1) } }

-- "a count byte .., then entries"
abbrev pub entries : Format Entry
entries = record { width = 1; encode = encode_entry; Fits = λ e. Wide 8 e.bits; read = record_at codes }

-- the setting that a code and 8 bytes say: "both binary64", "a count in 64 bits"
abbrev pub setting_made : Code → ℕ → Setting
setting_made code.Margin n = Margin (of_bits binary64 n)
setting_made code.Feed n = Feed (of_bits binary64 n)
setting_made code.Count n = Count n

-- the setting of an entry
abbrev pub setting_of : Entry → Setting
setting_of e = setting_made e.kind e.bits

-- and the entry of a setting
abbrev pub entry_of : Setting → Entry
entry_of (Margin x) = record { kind = code.Margin; bits = to_bits binary64 x }
entry_of (Feed x) = record { kind = code.Feed; bits = to_bits binary64 x }
entry_of (Count n) = record { kind = code.Count; bits = n }
