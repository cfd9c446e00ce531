-- The first bad float of some settings is the one that the writer finds.
-- Assumes nothing.
use mathlib.Core.Path.{◌≡◌, refl, sym, ◌∙◌}
use mathlib.Core.Logic.{⊎_elim}
use mathlib.Core.Bool.{Bool, true, false, true≢false}
use mathlib.Core.List.{List}
use Prim.Native.Nat.{ℕ, ◌+◌, ◌≤◌, ◌<◌}
use native.Mathlib.Omega.{arith}
use borrow.Author.Tests.{eqb-true, eq-eqb, ne_eqb, ltb-true, ltb-false}
use lib.Dec.{ltb}
use Rattle.lists.proofs.Search.{first_least, first_stops, first_below}
use Rattle.settings_list.specs.declared.Slot.{Slot}
use Rattle.settings.specs.Writing.{setting_at, good_at, first_bad}
use Rattle.settings_demands.specs.Values.{Good}
use Rattle.settings_demands.proofs.Values.{good_fine, fine_good}

module _ (ss : List Slot) (n : ℕ) where
  -- those before the one that is found are good
  pub before_good : (j : ℕ) → j < first_bad ss n → Good (setting_at ss j)
  before_good j h = fine_good _ (eqb-true _ 0 (first_least (good_at ss) n 0 j (omega arith) h))

  -- and it is bad
  pub found_bad : first_bad ss n < n → Good (setting_at ss (first_bad ss n)) → ⊥
  found_bad l g =
      ⊎_elim (λ (f : good_at ss (first_bad ss n) ≡ false). true≢false (sym (eq-eqb _ 0 (good_fine g)) ∙ f))
      (λ (e : first_bad ss n ≡ 0 + n). omega arith)
      (first_stops (good_at ss) n 0)

  -- good ones are passed
  pub past_good : (i : ℕ) → i ≤ n → ((j : ℕ) → j < i → Good (setting_at ss j)) → i ≤ first_bad ss n
  past_good i h g = go (ltb (first_bad ss n) i) refl
    where
      go : (t : Bool) → ltb (first_bad ss n) i ≡ t → i ≤ first_bad ss n
      go true t = let l = ltb-true (first_bad ss n) i t in absurd (found_bad (omega arith) (g (first_bad ss n) l))
      go false t = ltb-false _ _ t

  -- so a bad one after good ones is it
  pub bad_found : (i : ℕ) → i < n → ((j : ℕ) → j < i → Good (setting_at ss j)) → (Good (setting_at ss i) → ⊥) → i ≡ first_bad ss n
  bad_found i l g b =
      let f : good_at ss i ≡ false = ne_eqb _ 0 (λ z. b (fine_good _ z)) in
      omega (arith, first_below (good_at ss) n 0 i (omega arith) f, past_good i (omega arith) g)
