-- Writing settings back: the answer, and the lent buffer.
-- Assumes nothing.
use Rattle.std.specs.Prelude.{◌≡◌, Result, Ok, Err, Bool, cond, List, ◌++◌, map, ℕ, ◌+◌, ◌*◌, ◌<◌, eqb, ltb, length, take, drop, get_or}
use Rattle.lists.specs.Lists.{first}
use Rattle.byte_format.specs.Format.{encode_section}
use Rattle.refusals.specs.declared.Refused.{Refused}
use Rattle.refusals.specs.Numbers.{number}
use Rattle.settings_entry.specs.declared.Setting.{Setting}
use Rattle.settings_entry.specs.declared.Setting.TheVariants.{Count}
use Rattle.settings_list.specs.declared.Slot.{Slot}
use Rattle.settings.specs.declared.Written.{Written}
use Rattle.settings_entry.specs.Setting.{float_fault, Held}
use Rattle.settings_entry.specs.Entry.{Entry, entries, entry_of}
use Rattle.settings_list.specs.Migration.{count_limit, slot}

-- the setting in a slot
abbrev pub setting_at : List Slot → ℕ → Setting
setting_at ss i = (get_or ss i (slot (Count 0))).setting

-- whether it may stand in a list
abbrev pub good_at : List Slot → ℕ → Bool
good_at ss i = eqb (float_fault (setting_at ss i)) 0

-- the first of n settings that is a bad float, and n where none is
abbrev pub first_bad : List Slot → ℕ → ℕ
first_bad ss n = first (good_at ss) n 0

-- none of the first n is
abbrev pub AllGood : List Slot → ℕ → Type 0
AllGood ss n = (i : ℕ) → i < n → float_fault (setting_at ss i) ≡ 0

-- 64 slots, the first n settings as the machine holds them
pub record HeldSlots (ss : List Slot) (n : ℕ) : Type 0 where
  pub many : length ss ≡ 64
  pub each : (i : ℕ) → i < n → Held (setting_at ss i)

-- the entries of the first n settings
abbrev pub entries_of : List Slot → ℕ → List Entry
entries_of ss n = map (λ s. entry_of s.setting) (take n ss)

-- the list of the first n settings
unfoldable pub list_of : List Slot → ℕ → List ℕ
list_of ss n = encode_section entries (entries_of ss n)

-- how long a list of n settings is
abbrev pub list_size : ℕ → ℕ
list_size n = 1 + 9 * n

-- an answer with these two
abbrev pub answer : ℕ → ℕ → Written
answer r p = record { refusal = r; place = p }

-- the answer of judging: how long the list is, or the refusal
abbrev pub written_of : Result ℕ Refused → Written
written_of (Ok p) = answer 0 p
written_of (Err r) = answer (number r.refusal) r.place

-- "it refuses a wrong number of settings (2), then a bad float (26), then a short buffer (18)"; the place is that in the list as it would be written
unfoldable pub written : List Slot → ℕ → ℕ → Written
written ss n room =
    cond (eqb (count_limit n) 0)
    (cond (ltb (first_bad ss n) n) (answer 26 (list_size (first_bad ss n))) (cond (ltb room (list_size n)) (answer 18 (list_size n)) (answer 0 (list_size n))))
    (answer 2 0)

-- a refusal leaves the buffer as it was; else the list stands at its start, and no byte after that changes
unfoldable pub back_buffer : List Slot → ℕ → List ℕ → List ℕ
back_buffer ss n old = cond (eqb (written ss n (length old)).refusal 0) (list_of ss n ++ drop (list_size n) old) old
