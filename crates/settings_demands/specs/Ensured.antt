-- What the migrator's two functions ensure.
-- Assumes nothing.
use Rattle.std.specs.Prelude.{◌≡◌, List, ℕ, length}
use Rattle.byte_format.specs.Number.{Bytes}
use Rattle.settings_list.specs.declared.Slot.{Slot}
use Rattle.settings_list.specs.declared.Migration.{Migration}
use Rattle.settings.specs.declared.Written.{Written}
use Rattle.settings_list.specs.Migration.{migration}
use Rattle.settings.specs.Writing.{HeldSlots, written, back_buffer}

-- the two clauses of `settings::migrate`, for the bytes s: it answers m
pub record Migrates (s : List ℕ) (m : Migration) : Type 0 where
  pub answer : m ≡ migration s
  pub bytes : Bytes s

-- the three clauses of `settings::write_back`, for n of these slots and a buffer that held `old`: it answers w and leaves `new`
pub record WritesBack (ss : List Slot) (n : ℕ) (old : List ℕ) (w : Written) (new : List ℕ) : Type 0 where
  pub answer : w ≡ written ss n (length old)
  pub buffer : new ≡ back_buffer ss n old
  pub held : w.refusal ≡ 0 → HeldSlots ss n
