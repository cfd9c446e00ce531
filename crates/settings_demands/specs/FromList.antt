-- The sentence for the phone: a setting comes from its own entry of the list, and from nowhere else.
-- Assumes nothing.
use Rattle.std.specs.Prelude.{◌≡◌, List, ℕ, ◌+◌, ◌*◌, get_or}
use Rattle.byte_format.specs.Number.{number_at}
use Rattle.byte_format.specs.Stands.{Stands}
use Rattle.settings_entry.specs.declared.Setting.{Setting}
use Rattle.settings_entry.specs.Entry.{encode_entry, entry_of}
use Rattle.settings_demands.specs.Values.{CodeOf}

-- x is what entry i of the list s says
pub record FromEntry (s : List ℕ) (i : ℕ) (x : Setting) : Type 0 where
  -- "entries of a code byte and 8 bytes": the bytes of entry i are those of x
  pub entry : Stands s (1 + 9 * i) (encode_entry (entry_of x)) (1 + 9 * (i + 1))
  -- "a margin, a feed rate or a count, each carrying its own value": its code byte says which, its 8 bytes say the value
  pub say : ℕ → Setting
  pub code : CodeOf (get_or s (1 + 9 * i) 0) say
  pub value : x ≡ say (number_at 8 s (1 + 9 * i + 1))
