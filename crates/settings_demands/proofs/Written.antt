-- What was written is the old list of the entries of its settings.
-- Assumes nothing.
use mathlib.Core.Path.{◌≡◌, refl, ap, ◌∙◌}
use mathlib.Core.List.{List, [], ◌∷◌, map}
use Prim.Native.Nat.{ℕ, suc, ◌<◌}
use native.Mathlib.Omega.{arith}
use lib.ListN.{length, take, drop, length-map}
use lib.Seq.{take_at, drop_at, length-take-le, get_or-take}
use Rattle.byte_format.specs.Format.{FitEach}
use Rattle.settings_entry.specs.declared.Setting.TheVariants.{Count}
use Rattle.settings_list.specs.declared.Slot.{Slot}
use Rattle.settings.specs.declared.Written.{Written}
use Rattle.settings_entry.specs.Setting.{Held}
use Rattle.settings_entry.specs.Entry.{Entry, entries, setting_of, entry_of}
use Rattle.settings_list.specs.Migration.{slot}
use Rattle.settings.specs.Writing.{setting_at, HeldSlots, entries_of, list_of, list_size}
use Rattle.settings.proofs.Writing.{length_list}
use Rattle.settings_demands.specs.Ensured.{WritesBack}
use Rattle.settings_demands.specs.Values.{Good}
use Rattle.settings_demands.specs.OldList.{GoodEach, OldList}
use Rattle.settings_demands.specs.WriteFault.{MayStand}
use Rattle.settings_demands.proofs.Settings.{setting_kept, entry_wide}
use Rattle.settings_demands.proofs.Writing.{wrote}

-- settings that a machine holds, none a bad float: their entries fit, are good, and say these settings
module _ (ss : List Slot) where
  HeldGood : ℕ → Type 0
  HeldGood i = Held (setting_at ss i) × Good (setting_at ss i)

entry_in : Slot → Entry
entry_in s = entry_of s.setting

fit_each : (ss : List Slot) → ((i : ℕ) → i < length ss → HeldGood ss i) → FitEach entries (map entry_in ss)
unfolding FitEach HeldGood entry_in
fit_each [] h = tt
fit_each (s ∷ ss) h = (entry_wide s.setting (h 0 (omega arith)).0, fit_each ss (λ i l. h (suc i) (omega arith)))

good_each : (ss : List Slot) → ((i : ℕ) → i < length ss → HeldGood ss i) → GoodEach (map entry_in ss)
unfolding GoodEach HeldGood entry_in
good_each [] h = tt
good_each (s ∷ ss) h = (rw (setting_kept s.setting (h 0 (omega arith)).0) (h 0 (omega arith)).1, good_each ss (λ i l. h (suc i) (omega arith)))

same_each : (ss : List Slot) → ((i : ℕ) → i < length ss → HeldGood ss i) → map setting_of (map entry_in ss) ≡ map (λ s. s.setting) ss
unfolding HeldGood entry_in
same_each [] h = refl
same_each (s ∷ ss) h =
    let u : setting_of (entry_of s.setting) ≡ s.setting = setting_kept s.setting (h 0 (omega arith)).0 in
    let v = same_each ss (λ i l. h (suc i) (omega arith)) in
    cc

module _ (ss : List Slot) (n : ℕ) (held : HeldSlots ss n) (may : MayStand ss n) where
  first_long : length (take n ss) ≡ n
  first_long = length-take-le n ss (omega (arith, held.many, may.few.1))

  each : (i : ℕ) → i < length (take n ss) → HeldGood (take n ss) i
  unfolding HeldGood
  each i h =
      let l : i < n = omega (arith, first_long) in
      let e : setting_at (take n ss) i ≡ setting_at ss i = ap (λ (s : Slot). s.setting) (get_or-take n ss i (slot (Count 0)) l) in
      rw e (held.each i l, may.good i l)

  many : length (entries_of ss n) ≡ n
  unfolding entry_in
  many = length-map (take n ss) entry_in ∙ first_long

  list_is_old : OldList (list_of ss n) (entries_of ss n)
  unfolding list_of entry_in
  list_is_old = record { few = rw many may.few; bytes = refl; fits = fit_each (take n ss) each; good = good_each (take n ss) each }

  says_these : map setting_of (entries_of ss n) ≡ map (λ s. s.setting) (take n ss)
  unfolding entry_in
  says_these = same_each (take n ss) each

  long : length (list_of ss n) ≡ list_size n
  long = length_list ss held.many n may.few.1

-- over the contract
pub record OldAgain (ss : List Slot) (n : ℕ) (old : List ℕ) (w : Written) (new : List ℕ) : Type 0 where
  pub list : OldList (take w.place new) (entries_of ss n)
  pub number : length (entries_of ss n) ≡ n
  pub settings : map setting_of (entries_of ss n) ≡ map (λ s. s.setting) (take n ss)
  pub size : length (take w.place new) ≡ list_size n
  pub rest : drop w.place new ≡ drop w.place old

pub old_again : {ss : List Slot} {n : ℕ} {old new : List ℕ} {w : Written} → WritesBack ss n old w new → w.refusal ≡ 0 → OldAgain ss n old w new
old_again {ss} {n} {old} {new} {w} said z =
    let k = wrote said z in
    let held = said.held z in
    let size = long ss n held k.may in
    let l : take w.place new ≡ list_of ss n = rw (k.place, k.buffer) (take_at (list_of ss n) (drop (list_size n) old) (list_size n) size) in
    let r : drop w.place new ≡ drop w.place old = rw (k.place, k.buffer) (drop_at (list_of ss n) (drop (list_size n) old) (list_size n) size) in
    record {
      list = rw l (list_is_old ss n held k.may);
      number = many ss n held k.may;
      settings = says_these ss n held k.may;
      size = ap length l ∙ size;
      rest = r;
    }
