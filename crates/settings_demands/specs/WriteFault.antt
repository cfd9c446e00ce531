-- Why a writing is refused, and where.
-- Assumes nothing.
use Rattle.std.specs.Prelude.{◌≡◌, ◌⊎◌, List, ℕ, ◌≤◌, ◌<◌}
use Rattle.settings_list.specs.declared.Slot.{Slot}
use Rattle.settings.specs.Writing.{setting_at, list_size}
use Rattle.settings_demands.specs.Values.{Good}

-- the first n of these settings are 1 to 64, and none is a bad float
pub record MayStand (ss : List Slot) (n : ℕ) : Type 0 where
  pub few : (1 ≤ n) × (n ≤ 64)
  pub good : (i : ℕ) → i < n → Good (setting_at ss i)

-- `WriteFault ss n room r p`: writing n of these settings into a buffer of so many bytes is answered r at the place p
pub data WriteFault (ss : List Slot) (n room : ℕ) : ℕ → ℕ → Type 0 where
  -- "a wrong number of settings (2),
  wrong_number : (n ≡ 0) ⊎ (64 < n) → WriteFault ss n room 2 0
  -- then a bad float (26),": the first one, at the place of its entry in the list as it would be written
  first_bad_float : (1 ≤ n) × (n ≤ 64) → (i : ℕ) → i < n → ((j : ℕ) → j < i → Good (setting_at ss j)) → (Good (setting_at ss i) → ⊥) →
      WriteFault ss n room 26 (list_size i)
  -- "then a short buffer (18)": "with the whole length as place"
  short_buffer : MayStand ss n → room < list_size n → WriteFault ss n room 18 (list_size n)
  -- 0: the place is how many bytes are written
  room_enough : MayStand ss n → list_size n ≤ room → WriteFault ss n room 0 (list_size n)
