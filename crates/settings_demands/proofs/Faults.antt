-- Faults of a list: in words, and as the reader finds them.
-- Assumes nothing.
use mathlib.Core.Path.{◌≡◌, refl, sym, ap, subst, ◌∙◌}
use mathlib.Core.Logic.{◌≢◌, inl, inr}
use mathlib.Core.Bool.{Bool, true, false}
use mathlib.Core.List.{List, []}
use Prim.Native.Nat.{ℕ, ◌+◌}
use native.Mathlib.Omega.{arith}
use borrow.Author.Tests.{eqb-true, eqb-false, ltb-true, ltb-false}
use lib.Dec.{eqb, ltb}
use lib.ListN.{length, get_or}
use Rattle.byte_format.specs.Number.{number_at}
use Rattle.byte_format.specs.Format.{Got, got, stop}
use Rattle.byte_format.specs.Kinded.{record_at}
use Rattle.byte_format.specs.Play.{finally, refusal_of}
use Rattle.byte_format.specs.Section.{count_at}
use Rattle.byte_format.proofs.Kinded.{Case, missing, strange, short, whole, which, kind_missing, kind_unknown, rest_missing, record_whole}
use Rattle.settings_entry.specs.Setting.{float_fault}
use Rattle.settings_entry.specs.Entry.{Entry, byte_of, codes, setting_made}
use Rattle.settings_list.specs.Migration.{count_limit, bad_float, and_setting, refused_at}
use Rattle.settings_list.proofs.Counting.{no_count_lem, count_none, count_many, count_right}
use Rattle.settings_entry.proofs.Records.{codes_told, code_unknown}
use Rattle.settings_demands.specs.OldList.{EntriesBegun, ListFault, no_count, bad_count, no_code, unknown_code, cut_entry, a_bad_float, extra_bytes}
use Rattle.settings_demands.proofs.Values.{code_known, coded, bad_fault, fault_bad}
use Rattle.settings_demands.proofs.Outcomes.{FaultAt, MigrationOutcome}
use Rattle.settings_demands.proofs.Outcomes as found
use Rattle.settings_demands.proofs.Lists.{fault_begun, begun_fault, begun_whole}

-- no fault has the number 0
pub fault_number : {s : List ℕ} {r p : ℕ} → ListFault s r p → r ≢ 0
fault_number (no_count z) e = omega arith
fault_number (bad_count h o) e = omega arith
fault_number (no_code b more h) e = omega arith
fault_number (unknown_code b more h n) e = omega arith
fault_number (cut_entry b more h c l) e = omega arith
fault_number (a_bad_float b more c h n) e = omega arith
fault_number (extra_bytes b h) e = omega arith

module _ {s : List ℕ} where
  -- the number of a fault as it is given
  given : {r k p : ℕ} → k ≡ r → ListFault s k p → ListFault s r p
  given {p = p} e f = subst (λ (n : ℕ). ListFault s n p) e f

  -- ---- from what the reader finds to the words
  pub count_fault : {r : ℕ} → count_at 1 count_limit s 0 ≡ stop r → ListFault s r 0
  count_fault {r} e = go (eqb (length s) 0) refl
    where
      -- the number of the stop that it is
      is : {k : ℕ} → stop k ≡ count_at 1 count_limit s 0 → k ≡ r
      is u = cc

      there : length s ≢ 0 → (a : Bool) → eqb (get_or s 0 0) 0 ≡ a → (b : Bool) → ltb 64 (get_or s 0 0) ≡ b → ListFault s r 0
      there h true a b o = let z = eqb-true _ 0 a in given (is (count_none s h z)) (bad_count (omega arith) (inl z))
      there h false a true o = let l = ltb-true 64 _ o in given (is (count_many s h l)) (bad_count (omega arith) (inr l))
      there h false a false o =
          let u : got (get_or s 0 0) 1 ≡ count_at 1 count_limit s 0 = count_right s h (eqb-false _ 0 a) (ltb-false 64 _ o) in
          let y : ◌≡◌ {A = ℕ} 0 1 = cc in
          absurd (omega arith)

      go : (b : Bool) → eqb (length s) 0 ≡ b → ListFault s r 0
      go true i = let z = eqb-true _ 0 i in given (is (no_count_lem s z)) (no_count z)
      go false i = there (eqb-false _ 0 i) (eqb (get_or s 0 0) 0) refl (ltb 64 (get_or s 0 0)) refl

  pub entry_fault : {es : List Entry} {r p : ℕ} → r ≢ 0 → FaultAt s es r p → ListFault s r p
  entry_fault {es} {r} {p} z f = go (which codes byte_of codes_told s p)
    where
      begun : EntriesBegun s f.total es p
      begun = fault_begun f

      -- its number is that of what is read there
      number : {x : Got Entry} {k : ℕ} → record_at codes s p ≡ x → refusal_of x (bad_float (finally and_setting [] es)) ≡ k → k ≡ r
      number v e = sym (f.fault ∙ ap (λ (g : Got Entry). refusal_of g (bad_float (finally and_setting [] es))) v ∙ e)

      go : Case codes byte_of codes_told s p → ListFault s r p
      go (missing h v) = given (number v refl) (no_code begun f.more (omega (arith, begun.bytes.within)))
      go (strange h n v) = given (number v refl) (unknown_code begun f.more h (λ say c. let k = coded c in n k.kind k.byte))
      go (short k h e l v) = given (number v refl) (cut_entry begun f.more h (code_known k e) l)
      go (whole k e h v) =
          let x = setting_made k (number_at 8 s (p + 1)) in
          let u : float_fault x ≡ r = number v refl in
          let b = fault_bad x (λ y. z (sym u ∙ y)) in
          given (sym b.0 ∙ u) (a_bad_float begun f.more (code_known k e) (omega arith) b.1)

  -- ---- and back
  pub fault_found : {r p : ℕ} → ListFault s r p → MigrationOutcome s (refused_at r p)
  fault_found (no_count z) = found.bad_count 1 (λ y. omega arith) (sym (no_count_lem s z)) refl
  fault_found (bad_count h (inl e)) = found.bad_count 2 (λ y. omega arith) (sym (count_none s (λ z. omega arith) e)) refl
  fault_found (bad_count h (inr l)) = found.bad_count 2 (λ y. omega arith) (sym (count_many s (λ z. omega arith) l)) refl
  fault_found (no_code {p = p} {es = es} b more h) =
      found.bad_entry es 1 p (λ y. omega arith) (begun_fault b more (sym (rw (kind_missing codes byte_of codes_told s p (omega arith))))) refl
  fault_found (unknown_code {p = p} {es = es} b more h n) =
      let u = code_unknown (get_or s p 0) (λ k e. n (λ i. setting_made k i) (code_known k e)) in
      found.bad_entry es 11 p (λ y. omega arith) (begun_fault b more (sym (rw (kind_unknown codes byte_of codes_told s p h u)))) refl
  fault_found (cut_entry {p = p} {es = es} b more h c l) =
      let k = coded c in
      found.bad_entry es 1 p (λ y. omega arith) (begun_fault b more (sym (rw (rest_missing codes byte_of codes_told s p k.kind h k.byte l)))) refl
  fault_found (a_bad_float {p = p} {es = es} b more c h n) =
      let k = coded c in
      let x = setting_made k.kind (number_at 8 s (p + 1)) in
      let e : float_fault x ≡ 26 = bad_fault x (rw (k.says (number_at 8 s (p + 1))) at n) in
      found.bad_entry es 26 p (λ y. omega arith) (begun_fault b more (sym (rw (record_whole codes byte_of codes_told s p k.kind k.byte h) e))) refl
  fault_found (extra_bytes {p = p} {es = es} b h) = found.extra_bytes es p (begun_whole b) h refl
