-- The entry of a setting, put into lent bytes.
-- Assumes nothing.
use Rattle.std.specs.Prelude.{cond, ◌&&◌, List, ℕ, ◌-◌, eqb, leb, length}
use Rattle.lent_bytes.specs.Put.{put_at}
use Rattle.settings_entry.specs.declared.Setting.{Setting}
use Rattle.settings_entry.specs.Setting.{float_fault}
use Rattle.settings_entry.specs.Entry.{encode_entry, entry_of}

-- the entry at a place, where there is room for its 9 bytes and the setting is not a bad float; else no byte changes
unfoldable pub entry_put : List ℕ → ℕ → Setting → List ℕ
entry_put old at x = cond (leb 9 (length old - at) && eqb (float_fault x) 0) (put_at old at (encode_entry (entry_of x))) old
