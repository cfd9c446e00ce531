-- Settings in their slots, and the list of them as it is written: entry behind entry.
-- Assumes nothing.
use mathlib.Core.Path.{◌≡◌, refl, sym, ap, ◌∙◌, subst}
use mathlib.Core.Bool.{Bool, true, false}
use mathlib.Core.List.{List, [], ◌∷◌, ◌++◌, append_assoc, append-nil}
use Prim.Native.Nat.{ℕ, zero, suc, ◌+◌, ◌*◌, ◌≤◌, ◌<◌}
use native.Mathlib.Nat.{le_of_suc-le-suc}
use native.Mathlib.Numerals.{add-one}
use native.Mathlib.Omega.{arith}
use borrow.Author.Tests.{ltb-true, ltb-false}
use lib.Dec.{eqb, ltb}
use lib.ListN.{length, get_or, take, drop, length-map, length-append}
use Rattle.std.proofs.lemmas.List.{get_or-take}
use lib.Seq.{take-suc, drop_at, drop-drop, length-take-le}
use Rattle.byte_format.specs.Number.{bytes_of}
use Rattle.byte_format.specs.Format.{encodes}
use Rattle.byte_format.proofs.Numbers.{length_bytes}
use Rattle.byte_format.proofs.Lengths.{length_fixed, encodes_join}
use Rattle.lent_bytes.specs.Put.{put_at}
use Rattle.lent_bytes.proofs.Puts.{put_whole, put_behind}
use Rattle.settings_entry.specs.declared.Setting.{Setting}
use Rattle.settings_entry.specs.declared.Setting.TheVariants.{Count}
use Rattle.settings_list.specs.declared.Slot.{Slot}
use Rattle.settings_entry.specs.Setting.{float_fault, Held}
use Rattle.settings_entry.specs.Entry.{encode_entry, entries, entry_of}
use Rattle.settings_list.specs.Migration.{slot}
use Rattle.settings_put.specs.Put.{entry_put}
use Rattle.settings_put.proofs.Puts.{entry_put_lem}
use Rattle.settings.specs.Writing.{setting_at, good_at, entries_of, list_of, list_size}
use Rattle.settings_entry.proofs.Records.{length_entry}
use Rattle.settings_list.proofs.Answers.{map_join}

-- what stands in a list does not depend on what would stand past its end
within : {A : Type 0} (l : List A) (i : ℕ) (d e : A) → i < length l → get_or l i d ≡ get_or l i e
within [] i d e h = absurd (omega arith)
within (x ∷ l) zero d e h = refl
within (x ∷ l) (suc i) d e h = within l i d e (le_of_suc-le-suc h)

-- the setting in a slot that is there
pub slot_there : (ss : List Slot) (i : ℕ) (d : Slot) → length ss ≡ 64 → i < 64 → (get_or ss i d).setting ≡ setting_at ss i
slot_there ss i d l h = ap (λ (s : Slot). s.setting) (within ss i d (slot (Count 0)) (omega arith))

-- and whether it is good
pub good_there : (ss : List Slot) (i : ℕ) (d : Slot) {b : Bool} → length ss ≡ 64 → i < 64 → b ≡ eqb (float_fault (get_or ss i d).setting) 0 → b ≡ good_at ss i
good_there ss i d l h e = e ∙ ap (λ (x : Setting). eqb (float_fault x) 0) (slot_there ss i d l h)

-- and that the machine holds it
pub held_there : (ss : List Slot) (i : ℕ) (d : Slot) → length ss ≡ 64 → i < 64 → Held (get_or ss i d).setting → Held (setting_at ss i)
held_there ss i d l h e = subst Held (slot_there ss i d l h) e

-- the setting in a slot among the first n
pub slot_taken : (ss : List Slot) (n i : ℕ) (d : Slot) → length ss ≡ 64 → n ≤ 64 → i < n → (get_or (take n ss) i d).setting ≡ setting_at ss i
slot_taken ss n i d l m h = ap (λ (s : Slot). s.setting) (get_or-take n ss i d h) ∙ slot_there ss i d l (omega arith)

-- and whether it is good
pub good_taken : (ss : List Slot) (n i : ℕ) (d : Slot) {b : Bool} → length ss ≡ 64 → n ≤ 64 → i < n → b ≡ eqb (float_fault (get_or (take n ss) i d).setting) 0 → b ≡ good_at ss i
good_taken ss n i d l m h e = e ∙ ap (λ (x : Setting). eqb (float_fault x) 0) (slot_taken ss n i d l m h)

-- and that the machine holds it
pub held_taken : (ss : List Slot) (n i : ℕ) (d : Slot) → length ss ≡ 64 → n ≤ 64 → i < n → Held (get_or (take n ss) i d).setting → Held (setting_at ss i)
held_taken ss n i d l m h e = subst Held (slot_taken ss n i d l m h) e

-- one more that it holds
pub held_more : (ss : List Slot) (i : ℕ) → ((k : ℕ) → k < i → Held (setting_at ss k)) → Held (setting_at ss i) → (k : ℕ) → k < i + 1 → Held (setting_at ss k)
held_more ss i h e k l = go (ltb k i) refl
  where
    go : (t : Bool) → ltb k i ≡ t → Held (setting_at ss k)
    go true t = h k (ltb-true k i t)
    go false t =
        let g : i ≤ k = ltb-false k i t in
        let z : i ≡ k = omega arith in
        subst (λ (j : ℕ). Held (setting_at ss j)) z e

-- the count and the first i entries
pub begun : List Slot → ℕ → ℕ → List ℕ
begun ss n i = bytes_of 1 n ++ encodes entries (entries_of ss i)

module _ (ss : List Slot) (l : length ss ≡ 64) where
  length_entries : (i : ℕ) → i ≤ 64 → length (entries_of ss i) ≡ i
  length_entries i h = length-map (take i ss) (λ s. entry_of s.setting) ∙ length-take-le i ss (omega arith)

  length_begun : (n i : ℕ) → i ≤ 64 → length (begun ss n i) ≡ 1 + 9 * i
  unfolding begun
  length_begun n i h =
      omega (
        arith,
        length-append (bytes_of 1 n) (encodes entries (entries_of ss i)),
        length_bytes 1 n,
        length_fixed entries 9 length_entry (entries_of ss i),
        length_entries i h,
      )

  -- one entry more
  begun_more : (n i : ℕ) → i < 64 → begun ss n i ++ encode_entry (entry_of (setting_at ss i)) ≡ begun ss n (i + 1)
  unfolding begun encodes
  begun_more n i h =
      let x = entry_of (setting_at ss i) in
      let t : take (i + 1) ss ≡ take i ss ++ (get_or ss i (slot (Count 0)) ∷ []) = rw (add-one i) (take-suc ss i (slot (Count 0)) (omega arith)) in
      let e : entries_of ss (i + 1) ≡ entries_of ss i ++ (x ∷ []) = rw t (map_join (λ s. entry_of s.setting) (take i ss) (get_or ss i (slot (Count 0)) ∷ [])) in
      let z : encodes entries (x ∷ []) ≡ encode_entry x = append-nil (encode_entry x) in
      append_assoc (bytes_of 1 n) (encodes entries (entries_of ss i)) (encode_entry x)
      ∙ sym (rw (e, encodes_join entries (entries_of ss i) (x ∷ []), z))

  -- all of them are the list, and its length
  pub list_begun : (n : ℕ) → n ≤ 64 → begun ss n n ≡ list_of ss n
  unfolding begun list_of
  list_begun n h = rw (length_entries n h)

  pub length_list : (n : ℕ) → n ≤ 64 → length (list_of ss n) ≡ list_size n
  length_list n h = rw (← list_begun n h) (length_begun n n h)

  -- the count is put first
  pub count_first : (n : ℕ) (old : List ℕ) {new : List ℕ} → 1 ≤ length old → new ≡ put_at old 0 (bytes_of 1 n) → (new ≡ begun ss n 0 ++ drop 1 new) × (drop 1 new ≡ drop 1 old)
  unfolding begun encodes
  count_first n old {new} h e =
      let a : new ≡ bytes_of 1 n ++ drop 1 old = e ∙ put_whole old 0 (bytes_of 1 n) (omega (arith, length_bytes 1 n)) ∙ rw (length_bytes 1 n) in
      let b : drop 1 new ≡ drop 1 old = rw a (drop_at (bytes_of 1 n) (drop 1 old) 1 (length_bytes 1 n)) in
      (a ∙ ap (λ (r : List ℕ). r ++ drop 1 old) (sym (append-nil (bytes_of 1 n))) ∙ rw b, b)

  -- a turn of the loop puts the next entry behind those before it
  pub entry_behind :
      (n i : ℕ) (d : Slot) (old : List ℕ) {out new : List ℕ} → n ≤ 64 → i < n → 1 + 9 * i + 9 ≤ length old → length out ≡ length old → out ≡ begun ss n i ++ drop (1 + 9 * i) old →
      float_fault (setting_at ss i) ≡ 0 → new ≡ entry_put out (1 + 9 * i) (get_or (take n ss) i d).setting → new ≡ begun ss n (i + 1) ++ drop (1 + 9 * (i + 1)) old
  entry_behind n i d old {out} m h g o e z f =
      let b = begun ss n i in
      let x = encode_entry (entry_of (setting_at ss i)) in
      let u : 1 + 9 * i ≡ length b = sym (length_begun n i (omega arith)) in
      let v : length (b ++ x) ≡ 1 + 9 * (i + 1) = omega (arith, length-append b x, length_entry (entry_of (setting_at ss i))) in
      let p : put_at (b ++ drop (length b) old) (length b) x ≡ (b ++ x) ++ drop (length (b ++ x)) old = put_behind old b x (omega (arith, length_entry (entry_of (setting_at ss i)))) in
      let q : put_at (b ++ drop (1 + 9 * i) old) (1 + 9 * i) x ≡ (b ++ x) ++ drop (1 + 9 * (i + 1)) old = rw (u, ← v) p in
      entry_put_lem out (1 + 9 * i) (setting_at ss i) (omega arith) z (f ∙ ap (entry_put out (1 + 9 * i)) (slot_taken ss n i d l m h))
      ∙ rw (e, ← begun_more n i (omega arith)) q

  -- and after the last the list stands there
  pub all_behind : (n : ℕ) (old out₀ : List ℕ) {out : List ℕ} → n ≤ 64 → drop 1 out₀ ≡ drop 1 old → out ≡ begun ss n n ++ drop (1 + 9 * n) out₀ → out ≡ list_of ss n ++ drop (1 + 9 * n) old
  all_behind n old out₀ h d e =
      let a : drop (1 + 9 * n) out₀ ≡ drop (1 + 9 * n) old = sym (drop-drop (9 * n) 1 out₀) ∙ ap (drop (9 * n)) d ∙ drop-drop (9 * n) 1 old in
      e ∙ rw (a, list_begun n h)
