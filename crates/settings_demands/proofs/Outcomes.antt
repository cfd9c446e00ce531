-- What the reader finds in any bytes: the first fault, with its number and its place; and where the outcome is known, the answer is known.
-- Assumes nothing.
use mathlib.Core.Path.{◌≡◌, refl, sym, ap, ◌∙◌}
use mathlib.Core.Logic.{◌≢◌}
use mathlib.Core.Bool.{Bool, true, false}
use mathlib.Core.List.{List, [], ◌∷◌, ◌++◌, map, append_assoc, append-nil}
use Prim.Native.Nat.{ℕ, ◌≤◌, ◌<◌}
use native.Mathlib.Omega.{arith}
use borrow.Author.Tests.{ltb-true, ltb-false}
use lib.Dec.{ltb}
use lib.ListN.{length, length-map}
use Rattle.byte_format.specs.Number.{Bytes}
use Rattle.byte_format.specs.Format.{stop}
use Rattle.byte_format.specs.Play.{Verdict, verdict, finally}
use Rattle.byte_format.specs.Section.{section, count_at, Whole, Faulty}
use Rattle.byte_format.specs.End.{no_last, ended}
use Rattle.byte_format.proofs.Sections.{Answered, count_refused, record_refused, whole_section, section_answered, section_refused, whole_section_lem, faulty_section}
use Rattle.settings_entry.specs.declared.Setting.{Setting}
use Rattle.settings_list.specs.declared.Migration.{Migration}
use Rattle.settings_entry.specs.Entry.{Entry, entries, setting_of}
use Rattle.settings_list.specs.Migration.{count_limit, bad_float, and_setting, list_read, migration_answer, migration, refused_at}
use Rattle.settings_entry.proofs.Records.{entries_lawful}
use Rattle.settings_list.proofs.Answers.{refused_answer, extra_answer, whole_answer}
use Rattle.settings_demands.specs.OldList.{holding}

-- these entries stand in s after their count, up to m: 1 to 64 of them, and none a bad float
abbrev pub ListTo : List ℕ → List Entry → ℕ → Type 0
ListTo s es m = Whole entries count_limit bad_float and_setting s [] 0 es m

-- these entries stand there so, and one more is due at m, whose refusal is r
abbrev pub FaultAt : List ℕ → List Entry → ℕ → ℕ → Type 0
FaultAt s es r m = Faulty entries count_limit bad_float and_setting s [] 0 es r m

-- where the reader finds the first fault, or that there is none; what stands before it is right
pub data MigrationOutcome (s : List ℕ) (m : Migration) : Type 0 where
  -- at the count
  bad_count : (r : ℕ) → r ≢ 0 → count_at 1 count_limit s 0 ≡ stop r → m ≡ refused_at r 0 → MigrationOutcome s m
  -- at an entry
  bad_entry : (es : List Entry) (r p : ℕ) → r ≢ 0 → FaultAt s es r p → m ≡ refused_at r p → MigrationOutcome s m
  -- bytes after the last entry
  extra_bytes : (es : List Entry) (p : ℕ) → ListTo s es p → p < length s → m ≡ refused_at 17 p → MigrationOutcome s m
  -- none
  accepted : (es : List Entry) → ListTo s es (length s) → m ≡ holding es (length s) → MigrationOutcome s m

-- entries that are taken one after the other are their settings
settings_taken : (xs : List Setting) (es : List Entry) → finally and_setting xs es ≡ xs ++ map setting_of es
unfolding finally
settings_taken xs [] = sym (append-nil xs)
settings_taken xs (e ∷ es) = settings_taken (xs ++ (setting_of e ∷ [])) es ∙ append_assoc xs (setting_of e ∷ []) (map setting_of es)

taken_all : (es : List Entry) → finally and_setting [] es ≡ map setting_of es
taken_all es = settings_taken [] es

-- the reply of the section, and the answer made of it
module _ (s : List ℕ) where
  read : Verdict (List Setting)
  read = section entries count_limit bad_float and_setting [] [] s 0

  answer_is : migration s ≡ migration_answer (ended no_last s read)
  unfolding list_read read
  answer_is = refl

  refused : {r p : ℕ} {xs : List Setting} → r ≢ 0 → read ≡ verdict r p xs → migration s ≡ refused_at r p
  refused {r} {p} {xs} z e = answer_is ∙ sym (refused_answer s p xs z (sym e))

  extra : {p : ℕ} {xs : List Setting} → p < length s → read ≡ verdict 0 p xs → migration s ≡ refused_at 17 p
  extra {p} {xs} h e = answer_is ∙ sym (extra_answer s p xs h (sym e))

  all : (es : List Entry) {p : ℕ} → length s ≤ p → read ≡ verdict 0 p (finally and_setting [] es) → migration s ≡ holding es p
  all es {p} h e =
      let xs = map setting_of es in
      answer_is ∙ sym (whole_answer s p xs h (sym (length-map es setting_of)) refl (sym (e ∙ ap (verdict 0 p) (taken_all es))))

  -- for any bytes
  pub migration_outcome : Bytes s → MigrationOutcome s (migration s)
  unfolding read
  migration_outcome b = go (section_answered entries count_limit bad_float and_setting entries_lawful [] s [] 0 b (omega arith))
    where
      ends : (es : List Entry) (p : ℕ) → ListTo s es p → read ≡ verdict 0 p (finally and_setting [] es) → (t : Bool) → ltb p (length s) ≡ t → MigrationOutcome s (migration s)
      ends es p w e true t = let l = ltb-true p (length s) t in extra_bytes es p w l (extra l e)
      ends es p w e false t =
          let l = ltb-false p (length s) t in
          let z : p ≡ length s = omega (arith, w.bytes.within) in
          accepted es (rw z at w) (rw z at (all es l e))

      go : Answered entries count_limit bad_float and_setting [] s [] 0 read → MigrationOutcome s (migration s)
      go (count_refused r z u e) = bad_count r z u (refused z e)
      go (record_refused es r p z f e) = bad_entry es r p z f (refused z e)
      go (whole_section es p w e) = ends es p w e (ltb p (length s)) refl

  -- an answer whose outcome holds of the bytes is the answer to them
  pub outcome_is : {m : Migration} → MigrationOutcome s m → m ≡ migration s
  unfolding read
  outcome_is (bad_count r z u e) = e ∙ sym (refused z (section_refused entries count_limit bad_float and_setting [] [] s 0 u))
  outcome_is (bad_entry es r p z f e) = e ∙ sym (refused z (faulty_section entries count_limit bad_float and_setting entries_lawful [] s [] 0 es r p z f))
  outcome_is (extra_bytes es p w h e) = e ∙ sym (extra h (whole_section_lem entries count_limit bad_float and_setting entries_lawful [] s [] 0 es p w))
  outcome_is (accepted es w e) = e ∙ sym (all es (omega arith) (whole_section_lem entries count_limit bad_float and_setting entries_lawful [] s [] 0 es (length s) w))
