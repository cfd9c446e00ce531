-- What the reader of an entry answers with, as the format says it.
-- Assumes nothing.
use Rattle.std.specs.Prelude.{Result, Ok, Err, cond, List, ℕ, eqb}
use Rattle.byte_format.specs.Format.{Got, got, stop, then_read}
use Rattle.byte_format.specs.Kinded.{record_at}
use Rattle.refusals.specs.declared.Refusal.{Refusal}
use Rattle.refusals.specs.Numbers.{number}
use Rattle.settings_entry.specs.declared.Setting.{Setting}
use Rattle.settings_entry.specs.declared.code.Code.{Code}
use Rattle.settings_entry.specs.Setting.{float_fault}
use Rattle.settings_entry.specs.Entry.{codes, setting_made}

-- a code and the place after it, or the refusal
abbrev pub code_found : Result Code Refusal → ℕ → Got Code
code_found (Ok k) q = got k q
code_found (Err r) q = stop (number r)

-- a setting and the place after its entry, or the refusal
abbrev pub next_of : Result Setting Refusal → ℕ → Got Setting
next_of (Ok x) q = got x q
next_of (Err r) q = stop (number r)

-- the setting of a code and 8 bytes that end at q, judged
unfoldable pub setting_judged : Code → ℕ → ℕ → Got Setting
setting_judged k n q = cond (eqb (float_fault (setting_made k n)) 0) (got (setting_made k n) q) (stop (float_fault (setting_made k n)))

-- the setting of the entry at a place, read and judged
unfoldable pub setting_taken : List ℕ → ℕ → Got Setting
setting_taken s p = then_read (record_at codes s p) (λ e q. setting_judged e.kind e.bits q)
