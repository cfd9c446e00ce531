-- The count: 1 to 64, and what its byte says.
-- Assumes nothing.
use mathlib.Core.Path.{◌≡◌, refl, sym, ◌∙◌}
use mathlib.Core.Logic.{◌≢◌}
use mathlib.Core.Bool.{◌||◌}
use mathlib.Core.List.{List}
use Prim.Native.Nat.{ℕ, ◌≤◌, ◌<◌}
use native.Mathlib.Omega.{arith}
use borrow.Author.Tests.{eqb-false, ne_eqb, lt-ltb, le-ltb, ltb-false}
use lib.Dec.{eqb, ltb}
use lib.ListN.{length, get_or}
use Rattle.lists.proofs.Bools.{or_left, or_right, cond_zero}
use Rattle.byte_format.specs.Number.{Bytes}
use Rattle.byte_format.specs.Format.{got, stop}
use Rattle.byte_format.specs.Section.{limited, count_at}
use Rattle.byte_format.proofs.Counts.{count_missing, count_limited, Counted, refused, counts, counted}
use Rattle.byte_format.proofs.Numbers.{number_one}
use Rattle.settings_list.specs.Migration.{count_limit}

-- a count from 1 to 64 has no fault
pub count_fine : (n : ℕ) → n ≢ 0 → n ≤ 64 → count_limit n ≡ 0
count_fine n z h = rw (ne_eqb n 0 z, le-ltb 64 n h)

-- a count without a fault is from 1 to 64
pub count_range : (n : ℕ) → count_limit n ≡ 0 → (n ≢ 0) × (n ≤ 64)
count_range n e =
    let k = (cond_zero (eqb n 0 || ltb 64 n) 2 0 (λ (y : ◌≡◌ {A = ℕ} 2 0). omega arith) e).0 in
    (eqb-false n 0 (or_left (eqb n 0) (ltb 64 n) k), ltb-false 64 n (or_right (eqb n 0) (ltb 64 n) k))

-- its byte is missing
pub no_count_lem : (s : List ℕ) → length s ≡ 0 → stop 1 ≡ count_at 1 count_limit s 0
no_count_lem s h = sym (count_missing 1 count_limit s 0 refl (omega arith))

module _ (s : List ℕ) (h : length s ≢ 0) where
  is : count_at 1 count_limit s 0 ≡ limited count_limit (get_or s 0 0) 1
  is = count_limited 1 count_limit s 0 refl (omega arith) ∙ rw (number_one s 0)

  -- it is 0
  pub count_none : get_or s 0 0 ≡ 0 → stop 2 ≡ count_at 1 count_limit s 0
  count_none e = sym (is ∙ rw e)

  -- it is above 64
  pub count_many : 64 < get_or s 0 0 → stop 2 ≡ count_at 1 count_limit s 0
  count_many l = sym (is ∙ rw (ne_eqb (get_or s 0 0) 0 (omega arith), lt-ltb 64 (get_or s 0 0) l))

  -- it is neither
  pub count_right : get_or s 0 0 ≢ 0 → get_or s 0 0 ≤ 64 → got (get_or s 0 0) 1 ≡ count_at 1 count_limit s 0
  count_right n l = sym (is ∙ rw (ne_eqb (get_or s 0 0) 0 n, le-ltb 64 (get_or s 0 0) l))

-- what `count` cites
pub ruleset count_steps = (no_count_lem, count_none, count_many, count_right)

-- a count that was read is from 1 to 64
pub count_said : (s : List ℕ) → Bytes s → {n q : ℕ} → got n q ≡ count_at 1 count_limit s 0 → n ≤ 64
count_said s b {n} e = go (counted 1 count_limit s 0 b (omega arith))
  where
    go : Counted 1 count_limit s 0 → n ≤ 64
    go (refused r z u) = let y : ◌≡◌ {A = ℕ} 0 1 = cc in absurd (omega arith)
    go (counts m w l c u) =
        let i : m ≡ n = cc in
        rw i at (count_range m l).1

-- a count that was refused has a refusal
pub count_stopped : (s : List ℕ) → Bytes s → {r : ℕ} → stop r ≡ count_at 1 count_limit s 0 → r ≢ 0
count_stopped s b {r} e = go (counted 1 count_limit s 0 b (omega arith))
  where
    go : Counted 1 count_limit s 0 → r ≢ 0
    go (refused x z u) = let i : x ≡ r = cc in rw i at z
    go (counts m w l c u) = let y : ◌≡◌ {A = ℕ} 0 1 = cc in absurd (omega arith)
