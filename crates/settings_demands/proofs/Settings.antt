-- A setting and its entry: each says the other.
-- Assumes nothing.
use mathlib.Core.Path.{◌≡◌, refl, ap}
use Prim.Native.Nat.{ℕ}
use lib.Ieee.{binary64}
use lib.Ieee.Bits.{of_bits-to_bits, to_bits-lt}
use Rattle.byte_format.specs.Number.{Wide}
use Rattle.settings_entry.specs.declared.Setting.{Setting}
use Rattle.settings_entry.specs.declared.Setting.TheVariants.{Margin, Feed, Count}
use Rattle.settings_entry.specs.declared.code.Code.{Code}
use Rattle.settings_entry.specs.declared.code.Code.TheVariants as code
use Rattle.settings_entry.specs.Setting.{Held}
use Rattle.settings_entry.specs.Entry.{Entry, setting_made, setting_of, entry_of}
use Rattle.settings_float.proofs.Floats.{bits_kept}
use Rattle.settings_demands.specs.Values.{Good, good_margin, good_feed}
use Rattle.settings_demands.proofs.Values.{above_zero_lem}

-- "Accepted floats keep their bits": an entry whose setting is good is that of its setting
pub entry_kept : (e : Entry) → Wide 8 e.bits → Good (setting_of e) → entry_of (setting_of e) ≡ e
entry_kept e w g = go e.kind e.bits w g
  where
    entry : Code → ℕ → Entry
    entry k n = record { kind = k; bits = n }

    go : (k : Code) (n : ℕ) → Wide 8 n → Good (setting_made k n) → entry_of (setting_made k n) ≡ entry k n
    go code.Margin n w (good_margin f) = ap (entry code.Margin) (bits_kept n w (above_zero_lem f))
    go code.Feed n w (good_feed f) = ap (entry code.Feed) (bits_kept n w (above_zero_lem f))
    go code.Count n w g = refl

-- and a setting is that of its entry
pub setting_kept : (x : Setting) → Held x → setting_of (entry_of x) ≡ x
setting_kept (Margin x) h = ap Margin (of_bits-to_bits binary64 x h)
setting_kept (Feed x) h = ap Feed (of_bits-to_bits binary64 x h)
setting_kept (Count n) h = refl

-- its bits fit 8 bytes
pub entry_wide : (x : Setting) → Held x → Wide 8 (entry_of x).bits
entry_wide (Margin x) h = to_bits-lt binary64 x h
entry_wide (Feed x) h = to_bits-lt binary64 x h
entry_wide (Count n) h = h
