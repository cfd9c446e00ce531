-- The slots of an answer: which setting stands in each, and the entries they came from.
-- Assumes nothing.
use mathlib.Core.Path.{◌≡◌, refl, ap, ◌∙◌}
use mathlib.Core.List.{List, [], ◌∷◌, ◌++◌, map}
use Prim.Native.Nat.{ℕ, zero, suc, ◌+◌, ◌-◌, ◌≤◌, ◌<◌}
use native.Mathlib.Nat.{le_of_suc-le-suc}
use native.Mathlib.Omega.{arith}
use lib.ListN.{length, get_or, replicate, length-map, length-append, length-replicate, get_or-append, get_or-map}
use lib.Seq.{take_at}
use Rattle.byte_format.specs.Format.{FitEach}
use Rattle.settings_entry.specs.declared.Setting.{Setting}
use Rattle.settings_entry.specs.declared.Setting.TheVariants.{Count}
use Rattle.settings_list.specs.declared.Slot.{Slot}
use Rattle.settings_entry.specs.Entry.{Entry, entries, setting_of, entry_of}
use Rattle.settings_list.specs.Migration.{slot, slots}
use Rattle.settings.specs.Writing.{setting_at, entries_of}
use Rattle.settings_demands.specs.OldList.{GoodEach}
use Rattle.settings_demands.proofs.Settings.{entry_kept}

-- an element of the second of two lists
get_d_second : {A : Type 0} (p q : List A) (i : ℕ) (d : A) → get_or (p ++ q) (length p + i) d ≡ get_or q i d
get_d_second [] q i d = let z : 0 + i ≡ i = omega arith in rw z
get_d_second (x ∷ p) q i d = let z : suc (length p) + i ≡ suc (length p + i) = omega arith in rw z (get_d_second p q i d)

-- an element of a repeated one is that one, past its end too where that stands there
get_d_same : {A : Type 0} (n i : ℕ) (a : A) → get_or (replicate n a) i a ≡ a
get_d_same zero i a = refl
get_d_same (suc n) zero a = refl
get_d_same (suc n) (suc i) a = get_d_same n i a

-- the slots hold the settings in their order
pub slot_holds : (xs : List Setting) (i : ℕ) → i < length xs → setting_at (slots xs) i ≡ get_or xs i (Count 0)
unfolding slots
slot_holds xs i h =
    let z = slot (Count 0) in
    ap (λ (s : Slot). s.setting)
    (get_or-append (map slot xs) (replicate (64 - length xs) z) z i (omega (arith, length-map xs slot)) ∙ get_or-map slot xs i (Count 0))

-- "those past that number are a count of 0"
pub slot_past : (xs : List Setting) (i : ℕ) → length xs ≤ i → setting_at (slots xs) i ≡ Count 0
unfolding slots
slot_past xs i h =
    let z = slot (Count 0) in
    let p = map slot xs in
    let e : i ≡ length p + (i - length p) = omega (arith, length-map xs slot) in
    ap (λ (s : Slot). s.setting)
    (ap (λ (k : ℕ). get_or (p ++ replicate (64 - length xs) z) k z) e
    ∙ get_d_second p (replicate (64 - length xs) z) (i - length p) z
    ∙ get_d_same (64 - length xs) (i - length p) z)

-- there are 64 of them
pub slots_many : (xs : List Setting) → length xs ≤ 64 → length (slots xs) ≡ 64
unfolding slots
slots_many xs h =
    omega (
      arith,
      length-append (map slot xs) (replicate (64 - length xs) (slot (Count 0))),
      length-map xs slot,
      length-replicate (64 - length xs) (slot (Count 0)),
    )

-- the settings of good entries have these entries
entries_again : (es : List Entry) → FitEach entries es → GoodEach es → map (λ s. entry_of s.setting) (map slot (map setting_of es)) ≡ es
unfolding FitEach GoodEach
entries_again [] f g = refl
entries_again (e ∷ es) f g =
    let u : entry_of (setting_of e) ≡ e = entry_kept e f.0 g.0 in
    let v = entries_again es f.1 g.1 in
    cc

-- and so have the slots
pub entries_of_slots : (es : List Entry) → FitEach entries es → GoodEach es → entries_of (slots (map setting_of es)) (length es) ≡ es
unfolding slots
entries_of_slots es f g =
    let xs = map setting_of es in
    let l : length (map slot xs) ≡ length es = omega (arith, length-map xs slot, length-map es setting_of) in
    rw (take_at (map slot xs) (replicate (64 - length xs) (slot (Count 0))) (length es) l) (entries_again es f g)

-- of records that fit, each one does
pub fit_at : (es : List Entry) (i : ℕ) (d : Entry) → FitEach entries es → i < length es → entries.Fits (get_or es i d)
unfolding FitEach
fit_at [] i d f h = absurd (omega arith)
fit_at (e ∷ es) zero d f h = f.0
fit_at (e ∷ es) (suc i) d f h = fit_at es i d f.1 (le_of_suc-le-suc h)
