-- Every answer is explained by the first fault of the bytes, or by there being none; and no other answer is.
-- Assumes nothing.
use mathlib.Core.Path.{◌≡◌, refl, sym, ap, subst, ◌∙◌}
use mathlib.Core.Logic.{◌↔◌}
use mathlib.Core.List.{List}
use Prim.Native.Nat.{ℕ}
use lib.ListN.{length}
use Rattle.settings_list.specs.declared.Migration.{Migration}
use Rattle.settings_entry.specs.Entry.{Entry}
use Rattle.settings_list.specs.Migration.{migration}
use Rattle.settings_demands.specs.Ensured.{Migrates}
use Rattle.settings_demands.specs.OldList.{OldList, extra_bytes, holding, ListExplained, refused, accepted}
use Rattle.settings_demands.proofs.Outcomes.{MigrationOutcome, migration_outcome, outcome_is}
use Rattle.settings_demands.proofs.Outcomes as found
use Rattle.settings_demands.proofs.Lists.{whole_begun, whole_old, old_whole}
use Rattle.settings_demands.proofs.Faults.{fault_number, count_fault, entry_fault, fault_found}

-- what the reader finds is an explanation
found_explained : {s : List ℕ} {m : Migration} → MigrationOutcome s m → ListExplained s m
found_explained (found.bad_count r z u e) = refused (count_fault u) e
found_explained (found.bad_entry es r p z f e) = refused (entry_fault z f) e
found_explained (found.extra_bytes es p w h e) = refused (extra_bytes (whole_begun w) h) e
found_explained (found.accepted es w e) = accepted (whole_old w) e

-- an answer that the bytes explain is the one that the reader's definition gives
explained_is : {s : List ℕ} {m : Migration} → ListExplained s m → m ≡ migration s
explained_is {s} (refused f e) = e ∙ outcome_is s (fault_found f)
explained_is {s} (accepted {es} o e) = outcome_is s (found.accepted es (old_whole o) e)

pub only : {s : List ℕ} {m m' : Migration} → ListExplained s m → ListExplained s m' → m ≡ m'
only x x' = explained_is x ∙ sym (explained_is x')

module _ {s : List ℕ} {m : Migration} (said : Migrates s m) where
  pub every_answer : ListExplained s m
  every_answer = subst (ListExplained s) (sym said.answer) (found_explained (migration_outcome s said.bytes))

  -- the answer to an old list
  pub holds : {es : List Entry} → OldList s es → m ≡ holding es (length s)
  holds o = only every_answer (accepted o refl)

  -- accepted are the old lists, and no other bytes
  pub exactly : (m.refusal ≡ 0) ↔ ((es : List Entry) × OldList s es)
  exactly = (λ z. go every_answer z, λ o. ap (λ (x : Migration). x.refusal) (holds o.1))
    where
      go : ListExplained s m → m.refusal ≡ 0 → (es : List Entry) × OldList s es
      go (refused f e) z = absurd (fault_number f (sym (ap (λ (x : Migration). x.refusal) e) ∙ z))
      go (accepted {es} o e) z = (es, o)
