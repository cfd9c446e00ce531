-- Settings written back and migrated again.
-- Assumes nothing.
use Rattle.std.specs.Prelude.{List, map, ℕ, take}
use Rattle.settings_list.specs.declared.Slot.{Slot}
use Rattle.settings_list.specs.declared.Migration.{Migration}
use Rattle.settings_list.specs.Migration.{slots}
use Rattle.settings.specs.Writing.{list_size}

-- the answer to the list of the first n of these settings: they are the same ones
abbrev pub same_settings : List Slot → ℕ → Migration
same_settings ss n = record { refusal = 0; place = list_size n; number = n; settings = slots (map (λ s. s.setting) (take n ss)) }
