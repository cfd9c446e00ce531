-- The answer to any bytes: the list judged from the left, and its settings.
-- Assumes nothing.
use Rattle.std.specs.Prelude.{cond, ◌||◌, List, [], ◌∷◌, ◌++◌, map, ℕ, ◌-◌, eqb, ltb, length, replicate}
use Rattle.byte_format.specs.Play.{Verdict}
use Rattle.byte_format.specs.Section.{section}
use Rattle.byte_format.specs.End.{no_last, ended}
use Rattle.settings_entry.specs.declared.Setting.{Setting}
use Rattle.settings_entry.specs.declared.Setting.TheVariants.{Count}
use Rattle.settings_list.specs.declared.Slot.{Slot}
use Rattle.settings_list.specs.declared.Migration.{Migration}
use Rattle.settings_entry.specs.Setting.{float_fault}
use Rattle.settings_entry.specs.Entry.{Entry, entries, setting_of}

-- "a count byte, 1 to 64", else "2 count"; 0 is none
abbrev pub count_limit : ℕ → ℕ
count_limit n = cond (eqb n 0 || ltb 64 n) 2 0

-- an entry is judged by its setting: "26 bad float"
abbrev pub bad_float : List Setting → Entry → ℕ
bad_float xs e = float_fault (setting_of e)

-- the settings read so far, and one more
abbrev pub and_setting : List Setting → Entry → List Setting
and_setting xs e = xs ++ (setting_of e ∷ [])

-- the list judged from the left, "Order and places are as for document 01's events"; there is no last step
unfoldable pub list_read : List ℕ → Verdict (List Setting)
list_read s = ended no_last s (section entries count_limit bad_float and_setting [] [] s 0)

-- a setting in its slot
abbrev pub slot : Setting → Slot
slot x = record { setting = x }

-- 64 slots with these settings: "those past that number are a count of 0"
unfoldable pub slots : List Setting → List Slot
slots xs = map slot xs ++ replicate (64 - length xs) (slot (Count 0))

-- the answer to a list that is refused: "on a refusal it is 0"
abbrev pub refused_at : ℕ → ℕ → Migration
refused_at r p = record { refusal = r; place = p; number = 0; settings = slots [] }

-- "The answer holds the settings and how many there are"
abbrev pub migration_answer : Verdict (List Setting) → Migration
migration_answer r =
    cond (eqb r.refusal 0)
    (record { refusal = 0; place = r.place; number = length r.state; settings = slots r.state })
    (refused_at r.refusal r.place)

-- the answer to any bytes
abbrev pub migration : List ℕ → Migration
migration s = migration_answer (list_read s)
