-- What else an answer holds: counts of 0 past the number, no setting on a refusal, 64 settings at most.
-- Assumes nothing.
use mathlib.Core.Path.{◌≡◌, ap, ◌∙◌}
use mathlib.Core.Logic.{◌≢◌}
use mathlib.Core.List.{List, [], map}
use Prim.Native.Nat.{ℕ, ◌≤◌}
use native.Mathlib.Omega.{arith}
use lib.ListN.{length-map}
use Rattle.settings_entry.specs.declared.Setting.TheVariants.{Count}
use Rattle.settings_list.specs.declared.Migration.{Migration}
use Rattle.settings_entry.specs.Entry.{setting_of}
use Rattle.settings.specs.Writing.{setting_at, AllGood}
use Rattle.settings_demands.specs.Ensured.{Migrates}
use Rattle.settings_demands.specs.OldList.{ListExplained, refused, accepted}
use Rattle.settings_demands.proofs.Values.{good_fine}
use Rattle.settings_demands.proofs.Slots.{slot_past}
use Rattle.settings_demands.proofs.Explained.{every_answer}
use Rattle.settings_demands.proofs.OwnEntry.{good}

module _ {s : List ℕ} {m : Migration} (said : Migrates s m) where
  -- past the number stand counts of 0
  pub past_the_number : (i : ℕ) → m.number ≤ i → setting_at m.settings i ≡ Count 0
  past_the_number i h = go (every_answer said)
    where
      go : ListExplained s m → setting_at m.settings i ≡ Count 0
      go (refused f e) = ap (λ (y : Migration). setting_at y.settings i) e ∙ slot_past [] i (omega arith)
      go (accepted {es} o e) =
          let z = ap (λ (x : Migration). x.number) e in
          ap (λ (y : Migration). setting_at y.settings i) e ∙ slot_past (map setting_of es) i (omega (arith, length-map es setting_of))

  -- on a refusal there is no setting
  pub refused_empty : m.refusal ≢ 0 → m.number ≡ 0
  refused_empty z = go (every_answer said)
    where
      go : ListExplained s m → m.number ≡ 0
      go (refused f e) = ap (λ (x : Migration). x.number) e
      go (accepted o e) = absurd (z (ap (λ (x : Migration). x.refusal) e))

  -- at most 64 settings, and none of them is a bad float
  pub few_and_good : (m.number ≤ 64) × AllGood m.settings m.number
  few_and_good = (few (every_answer said), λ i h. good_fine (good said i h))
    where
      few : ListExplained s m → m.number ≤ 64
      few (refused f e) = let z = ap (λ (x : Migration). x.number) e in omega arith
      few (accepted o e) = let z = ap (λ (x : Migration). x.number) e in omega (arith, o.few.1)
