-- The slots filled one by one, and the answer at the end of the list.
-- Assumes nothing.
use mathlib.Core.Path.{◌≡◌, refl, sym, ap, ◌∙◌}
use mathlib.Core.Logic.{◌≢◌}
use mathlib.Core.List.{List, [], ◌∷◌, ◌++◌, map}
use Prim.Native.Nat.{ℕ, suc, ◌+◌, ◌-◌, ◌≤◌, ◌<◌}
use native.Mathlib.Omega.{arith}
use borrow.Author.Tests.{le-ltb, ne_eqb}
use lib.ListN.{length, set, replicate, length-map, length-append}
use lib.Seq.{set_at, append_snoc}
use Rattle.byte_format.specs.Format.{got, stop}
use Rattle.byte_format.specs.Play.{Verdict, verdict, play}
use Rattle.byte_format.specs.Section.{count_at}
use Rattle.byte_format.specs.End.{no_last, ended}
use Rattle.byte_format.proofs.Sections.{section_counted, section_refused}
use Rattle.byte_format.proofs.Ended.{ended_refused, ended_extra}
use Rattle.settings_entry.specs.declared.Setting.{Setting}
use Rattle.settings_entry.specs.declared.Setting.TheVariants.{Count}
use Rattle.settings_list.specs.declared.Slot.{Slot}
use Rattle.settings_list.specs.declared.Migration.{Migration}
use Rattle.settings_entry.specs.Entry.{entries}
use Rattle.settings_list.specs.Migration.{count_limit, bad_float, and_setting, list_read, slot, slots, refused_at, migration_answer, migration}

-- a map of lists joined
pub map_join : {A B : Type 0} (f : A → B) (xs ys : List A) → map f (xs ++ ys) ≡ map f xs ++ map f ys
map_join f [] ys = refl
map_join {B = B} f (x ∷ xs) ys = ap (λ (l : List B). f x ∷ l) (map_join f xs ys)

-- no settings are 64 slots
pub no_slots : length (slots []) ≡ 64
unfolding slots
no_slots = refl

-- one setting more goes into the next slot
pub slots_more : (xs : List Setting) (x : Setting) → length xs < 64 → set (slots xs) (length xs) (slot x) ≡ slots (xs ++ (x ∷ []))
unfolding slots
slots_more xs x h =
    let k = 64 - (length xs + 1) in
    let rest = replicate k (slot (Count 0)) in
    let a : 64 - length xs ≡ suc k = omega arith in
    let b : 64 - length (xs ++ (x ∷ [])) ≡ k = omega (arith, length-append xs (x ∷ [])) in
    let left : set (map slot xs ++ replicate (64 - length xs) (slot (Count 0))) (length xs) (slot x) ≡ map slot xs ++ (slot x ∷ rest) =
    rw a (set_at (map slot xs) (slot (Count 0)) rest (slot x) (length xs) (length-map xs slot)) in
    let right : map slot (xs ++ (x ∷ [])) ++ replicate (64 - length (xs ++ (x ∷ []))) (slot (Count 0)) ≡ map slot xs ++ (slot x ∷ rest) =
    rw (b, map_join slot xs (x ∷ [])) (append_snoc (map slot xs) (slot x) rest) in
    left ∙ sym right

-- w is the reply of the entries
module _ (s : List ℕ) (p : ℕ) (xs : List Setting) {w : Verdict (List Setting)} where
  -- an entry is refused
  pub refused_answer : {r : ℕ} → r ≢ 0 → verdict r p xs ≡ w → refused_at r p ≡ migration_answer (ended no_last s w)
  refused_answer {r} n e = let a : refused_at r p ≡ migration_answer (verdict r p xs) = sym (rw (ne_eqb r 0 n)) in a ∙ ap migration_answer (sym (ended_refused no_last s n (sym e)))

  -- bytes are left
  pub extra_answer : p < length s → verdict 0 p xs ≡ w → refused_at 17 p ≡ migration_answer (ended no_last s w)
  extra_answer h e = ap migration_answer (sym (ended_extra no_last s h (sym e)))

  -- none are
  pub whole_answer :
      {n : ℕ} {ss : List Slot} → length s ≤ p → n ≡ length xs → ss ≡ slots xs → verdict 0 p xs ≡ w →
      record { refusal = 0; place = p; number = n; settings = ss } ≡ migration_answer (ended no_last s w)
  whole_answer h a b e = sym (rw (← e, le-ltb p (length s) h, a, b))

-- the whole answer: after the count the entries and the end
pub list_counted : (s : List ℕ) {n : ℕ} {a : Migration} → got n 1 ≡ count_at 1 count_limit s 0 → a ≡ migration_answer (ended no_last s (play entries bad_float and_setting n [] s 1)) → a ≡ migration s
unfolding list_read
list_counted s e f = f ∙ ap (λ (w : Verdict (List Setting)). migration_answer (ended no_last s w)) (sym (section_counted entries count_limit bad_float and_setting [] [] s 0 (sym e)))

-- or the count's refusal
pub list_uncounted : (s : List ℕ) {r : ℕ} → r ≢ 0 → stop r ≡ count_at 1 count_limit s 0 → refused_at r 0 ≡ migration s
unfolding list_read
list_uncounted s z e = refused_answer s 0 [] z (sym (section_refused entries count_limit bad_float and_setting [] [] s 0 (sym e)))
