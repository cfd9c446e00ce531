-- Request 2026-13, a field for each sentence, over what the contracts of `settings` ensure: `Migrates s m` and `WritesBack ss n old w new` are what a caller
-- learns of a call (`MigratorTells`). Here a reader begins; proofs/Migrator.antt has `migrator`.
-- "Demands 2 and 3 read nothing of it.": the crate `demands` does not stand on this one, nor on `settings`.
-- Assumes nothing.
use Rattle.std.specs.Prelude.{◌≡◌, ◌≢◌, ◌↔◌, List, ◌++◌, ℕ, ◌+◌, ◌*◌, ◌≤◌, ◌<◌, length, take, drop}
use Rattle.byte_format.specs.Number.{number_at}
use Rattle.settings_entry.specs.declared.Setting.TheVariants.{Count}
use Rattle.settings_list.specs.declared.Slot.{Slot}
use Rattle.settings_list.specs.declared.Migration.{Migration}
use Rattle.settings.specs.declared.Written.{Written}
use Rattle.settings_entry.specs.Entry.{Entry, entry_of}
use Rattle.settings.specs.Writing.{setting_at, entries_of, answer}
use Rattle.settings_demands.specs.Ensured.{Migrates, WritesBack}
use Rattle.settings_demands.specs.Border.{MigratorAsks, MigratorTells}
use Rattle.settings_demands.specs.Values.{Good}
use Rattle.settings_demands.specs.OldList.{OldList, holding, ListExplained}
use Rattle.settings_demands.specs.FromList.{FromEntry}
use Rattle.settings_demands.specs.WriteFault.{WriteFault}
use Rattle.settings_demands.specs.Again.{same_settings}

pub record Migrator : Type 0 where
  -- whatever bytes, settings, number and buffer are handed over, an answer comes back, and this is what is said of it
  pub asks : MigratorAsks
  pub tells : MigratorTells
  -- "An old station's list is a count byte, 1 to 64, then entries of a code byte and 8 bytes, little-endian.": these bytes are accepted, and no others;
  -- they fix the entries
  pub list : {s : List ℕ} {m : Migration} → Migrates s m → (m.refusal ≡ 0) ↔ ((es : List Entry) × OldList s es)
  pub one_reading : {s : List ℕ} {es es' : List Entry} → OldList s es → OldList s es' → es ≡ es'
  -- "Code 1 is a margin in millimetres, 2 a feed rate in millimetres per second, both binary64; code 3 is a count in 64 bits.": `CodeOf`.
  -- "A migrated setting is a margin, a feed rate or a count, each carrying its own value.": that of its own entry of the list, and of nothing else
  pub from_the_list : {s : List ℕ} {m : Migration} → Migrates s m → (i : ℕ) → i < m.number → FromEntry s i (setting_at m.settings i)
  -- "Margin and feed must be finite and above zero."
  pub good : {s : List ℕ} {m : Migration} → Migrates s m → (i : ℕ) → i < m.number → Good (setting_at m.settings i)
  -- "Refusals: 1 cut short, 2 count, 11 unknown code, 26 bad float, 17 extra bytes. Order and places are as for document 01's events.": every answer is that of
  -- the first fault of the bytes, or of there being none; and no other answer is
  pub place : {s : List ℕ} {m : Migration} → Migrates s m → ListExplained s m
  pub only : {s : List ℕ} {m m' : Migration} → ListExplained s m → ListExplained s m' → m ≡ m'
  -- "The answer holds the settings and how many there are;
  pub holds : {s : List ℕ} {m : Migration} {es : List Entry} → Migrates s m → OldList s es → m ≡ holding es (length s)
  -- those past that number are a count of 0,
  pub past_the_number : {s : List ℕ} {m : Migration} → Migrates s m → (i : ℕ) → m.number ≤ i → setting_at m.settings i ≡ Count 0
  -- and on a refusal it is 0."
  pub refused_empty : {s : List ℕ} {m : Migration} → Migrates s m → m.refusal ≢ 0 → m.number ≡ 0
  -- "Accepted floats keep their bits."
  pub bits : {s : List ℕ} {m : Migration} → Migrates s m → (i : ℕ) → i < m.number → (entry_of (setting_at m.settings i)).bits ≡ number_at 8 s (1 + 9 * i + 1)
  -- "Writing settings back into a lent buffer gives the old list exactly;": what was migrated, where the buffer has room for the bytes that it came from;
  pub old_list_again : {s old new : List ℕ} {m : Migration} {w : Written} → Migrates s m → m.refusal ≡ 0 →
      WritesBack m.settings m.number old w new → length s ≤ length old → (w ≡ answer 0 (length s)) × (new ≡ s ++ drop (length s) old)
  -- and what else is written is an old list too, and is migrated to the same settings
  pub old_list : {ss : List Slot} {n : ℕ} {old new : List ℕ} {w : Written} → WritesBack ss n old w new → w.refusal ≡ 0 →
      OldList (take w.place new) (entries_of ss n)
  pub same_settings_again : {ss : List Slot} {n : ℕ} {old new : List ℕ} {w : Written} {m : Migration} → WritesBack ss n old w new → w.refusal ≡ 0 →
      Migrates (take w.place new) m → m ≡ same_settings ss n
  -- "it refuses a wrong number of settings (2), then a bad float (26), then a short buffer (18)."
  pub writing : {ss : List Slot} {n : ℕ} {old new : List ℕ} {w : Written} → WritesBack ss n old w new →
      (r p : ℕ) → (w ≡ answer r p) ↔ WriteFault ss n (length old) r p
  -- document 01: "A call that writes into a lent byte buffer leaves it untouched when it refuses, and never touches bytes past what it wrote."
  pub untouched : {ss : List Slot} {n : ℕ} {old new : List ℕ} {w : Written} → WritesBack ss n old w new → w.refusal ≢ 0 → new ≡ old
  pub rest_untouched : {ss : List Slot} {n : ℕ} {old new : List ℕ} {w : Written} → WritesBack ss n old w new → w.refusal ≡ 0 →
      drop w.place new ≡ drop w.place old
  -- "two answers allowed for one input are equal"
  pub one_answer : {s : List ℕ} {m m' : Migration} → Migrates s m → Migrates s m' → m ≡ m'
  pub one_writing : {ss : List Slot} {n : ℕ} {old new new' : List ℕ} {w w' : Written} → WritesBack ss n old w new → WritesBack ss n old w' new' →
      (w ≡ w') × (new ≡ new')
