-- The first 578 bytes decide: whoever reads no more of a longer input has the answer to all of it.
-- Assumes nothing.
use mathlib.Core.Path.{◌≡◌, refl, sym, ap, ◌∙◌}
use mathlib.Core.Bool.{Bool, true, false}
use mathlib.Core.List.{List, []}
use Prim.Native.Nat.{ℕ, ◌+◌, ◌≤◌, ◌<◌}
use native.Mathlib.Omega.{arith}
use borrow.Author.Tests.{ltb-true, ltb-false, lt-ltb}
use lib.Dec.{ltb}
use lib.ListN.{length, take}
use lib.Seq.{take_all, length-take-le, get_or-take}
use Rattle.byte_format.specs.Number.{Bytes}
use Rattle.byte_format.specs.Format.{Got, got, stop, then_read, sized}
use Rattle.byte_format.specs.Kinded.{first_byte, record_at}
use Rattle.byte_format.specs.Play.{finally, refusal_of}
use Rattle.byte_format.specs.Section.{count_at}
use Rattle.byte_format.proofs.Standing.{stands_prefix, number_prefix}
use Rattle.byte_format.proofs.Numbers.{length_bytes}
use Rattle.byte_format.proofs.Sized.{sized_reads}
use Rattle.byte_format.proofs.Counts.{count_limited}
use Rattle.byte_format.proofs.Sections.{section_records, faulty_records}
use Rattle.byte_format.proofs.Lengths.{length_fixed}
use Rattle.settings_list.specs.declared.Migration.{Migration}
use Rattle.settings_entry.specs.declared.code.Code.{Code}
use Rattle.settings_entry.specs.Entry.{Entry, code_of, codes, entries}
use Rattle.settings_list.specs.Migration.{count_limit, bad_float, and_setting, migration}
use Rattle.settings_entry.proofs.Records.{length_entry}
use Rattle.settings_list.proofs.Counting.{count_range}
use Rattle.settings_demands.proofs.Outcomes.{ListTo, FaultAt, MigrationOutcome, bad_count, bad_entry, extra_bytes, accepted, migration_outcome, outcome_is}

module _ (s : List ℕ) (k : ℕ) (h : 577 < k) (l : k < length s) where
  -- the first k bytes, of which there are more
  long : length (take k s) ≡ k
  long = length-take-le k s (omega arith)

  -- the count is the same
  same_count : count_at 1 count_limit (take k s) 0 ≡ count_at 1 count_limit s 0
  same_count =
      count_limited 1 count_limit (take k s) 0 refl (omega (arith, long))
      ∙ rw (number_prefix 1 s 0 k (omega arith)) (sym (count_limited 1 count_limit s 0 refl (omega arith)))

  -- and so is an entry that ends before
  same_entry : (p : ℕ) → p + 9 ≤ k → record_at codes (take k s) p ≡ record_at codes s p
  unfolding first_byte
  same_entry p g = ap (λ (x : Got Code). then_read x (λ c q. sized 9 (codes.body c (take k s) p) (take k s) p)) first ∙ rest (first_byte code_of s p)
    where
      first : first_byte code_of (take k s) p ≡ first_byte code_of s p
      first = rw (lt-ltb p (length (take k s)) (omega (arith, long)), lt-ltb p (length s) (omega arith), get_or-take k s p 0 (omega arith))

      body : (c : Code) → codes.body c (take k s) p ≡ codes.body c s p
      body c = ap (λ (n : ℕ). record { kind = c; bits = n }) (number_prefix 8 s (p + 1) k (omega arith))

      rest : (x : Got Code) → then_read x (λ c q. sized 9 (codes.body c (take k s) p) (take k s) p) ≡ then_read x (λ c q. sized 9 (codes.body c s p) s p)
      rest (got c q) =
          sized_reads 9 (codes.body c (take k s) p) (take k s) p (omega (arith, long))
          ∙ ap (λ (e : Entry). got e (p + 9)) (body c)
          ∙ sym (sized_reads 9 (codes.body c s p) s p (omega arith))
      rest (stop r) = refl

  -- how far the entries of a list reach
  list_end : (es : List Entry) {p : ℕ} → ListTo s es p → p ≤ 577
  list_end es w =
      let n = (count_range (length es) w.kept.few).1 in
      omega (arith, (section_records entries es w.bytes).next, length_fixed entries 9 length_entry es)

  -- and of the entries before one at fault, which ends before 577 too
  fault_end : (es : List Entry) {r p : ℕ} → FaultAt s es r p → p + 9 ≤ 577
  fault_end es f =
      let n = (count_range f.total f.few).1 in
      omega (arith, f.more, (faulty_records entries count_limit bad_float and_setting f).next, length_fixed entries 9 length_entry es)

  prefix_outcome : {m : Migration} → MigrationOutcome s m → MigrationOutcome (take k s) m
  prefix_outcome (bad_count r z u e) = bad_count r z (same_count ∙ u) e
  prefix_outcome (bad_entry es r p z f e) =
      let g = fault_end es f in
      bad_entry es r p z
      (record {
        total = f.total;
        counted = f.counted;
        few = f.few;
        first = f.first;
        count = stands_prefix k (omega (arith, f.count.next, length_bytes 1 f.total)) (omega arith) f.count;
        played = record { fits = f.played.fits; allowed = f.played.allowed; bytes = stands_prefix k (omega arith) (omega arith) f.played.bytes };
        more = f.more;
        fault = f.fault ∙ ap (λ (x : Got Entry). refusal_of x (bad_float (finally and_setting [] es))) (sym (same_entry p (omega arith)));
      })
      e
  prefix_outcome (extra_bytes es p w g e) =
      let j = list_end es w in
      extra_bytes es p (record { kept = w.kept; bytes = stands_prefix k (omega arith) (omega arith) w.bytes }) (omega (arith, long)) e
  prefix_outcome (accepted es w e) = absurd (omega (arith, list_end es w))

-- for any bytes and any number of them from 578 on
pub first_bytes_decide : (s : List ℕ) → Bytes s → (k : ℕ) → 577 < k → migration (take k s) ≡ migration s
first_bytes_decide s b k h = go (ltb k (length s)) refl
  where
    go : (t : Bool) → ltb k (length s) ≡ t → migration (take k s) ≡ migration s
    go true t = sym (outcome_is (take k s) (prefix_outcome s k h (ltb-true _ _ t) (migration_outcome s b)))
    go false t = ap migration (take_all k s (ltb-false _ _ t))
