-- The counts of a history that is one event longer.
-- Assumes nothing.
use mathlib.Core.Path.{◌≡◌, refl}
use mathlib.Core.Bool.{Bool, cond}
use mathlib.Core.List.{List, [], ◌∷◌}
use Prim.Native.Nat.{ℕ, zero, suc, ◌+◌, ◌≤◌, ◌<◌}
use native.Mathlib.Numerals.{add-one}
use native.Mathlib.Omega.{arith}
use native.Mathlib.Decide.{dec_le}
use borrow.Author.Tests.{eq-eqb, ne_eqb}
use lib.Dec.{eqb}
use Rattle.lists.specs.Lists.{sum, count}
use Rattle.lists.proofs.Lists.{sum_count}
use Rattle.protocol.specs.Event.{Event, arrival, start, read, finish, has}
use Rattle.protocol.specs.Table.{Table}
use Rattle.protocol.specs.History.{tick, arrivals, starts, finishes, reads, counts}
use Rattle.protocol.specs.Schedule.{Policy, Possible}
use Rattle.recording_core.specs.Playing.{no_counts, counted_by}

-- a sum in which those that pass a test have one more
sum_tick : (b : ℕ → Bool) (f : ℕ → ℕ) (n : ℕ) → sum (λ t. tick (b t) (f t)) n ≡ sum f n + count b n
sum_tick b f n = sum_count (λ t. tick (b t) (f t)) f b n (λ t. refl)

count_above : (u n : ℕ) → n ≤ u → count (eqb u) n ≡ 0
unfolding count
count_above u zero l = refl
count_above u (suc n) l = rw (ne_eqb u n (λ e. omega arith)) (count_above u n (omega arith))

-- one number below n is u
count_one : (u n : ℕ) → u < n → count (eqb u) n ≡ 1
unfolding count
count_one u zero l = absurd (omega arith)
count_one u (suc n) l = go (dec_le n u) (count_one u n)
  where
    go : Dec (n ≤ u) → (u < n → count (eqb u) n ≡ 1) → cond (eqb u n) (count (eqb u) n + 1) (count (eqb u) n) ≡ 1
    go (yes d) i = let e : u ≡ n = omega arith in rw (eq-eqb u n e) (omega (arith, count_above u n d))
    go (no d) i = rw (ne_eqb u n (λ e. omega arith)) (i (omega arith))

sum_zeros : (n : ℕ) → sum (λ t. 0) n ≡ 0
unfolding sum
sum_zeros zero = refl
sum_zeros (suc n) = omega (arith, sum_zeros n)

-- before any event there is nothing to count
pub counts_none : (T : Table ℕ) → counts T [] ≡ no_counts
unfolding arrivals starts finishes reads
counts_none T = rw (sum_zeros T.tasks)

-- an event that could happen counts as `counted_by` says
pub counts_next : (T : Table ℕ) (may : Policy ℕ) (h : List (Event ℕ)) (e : Event ℕ) → Possible T may h e → counted_by T.tasks (counts T h) e ≡ counts T (e ∷ h)
unfolding Possible arrivals starts finishes reads
counts_next T may h (arrival m) p = rw (sum_tick (has m) (arrivals h) T.tasks)
counts_next T may h (start t) p = rw (sum_tick (eqb t) (starts h) T.tasks, count_one t T.tasks p.0)
counts_next T may h (read l) p = rw (add-one (reads h))
counts_next T may h (finish t v) p = rw (sum_tick (eqb t) (finishes h) T.tasks, count_one t T.tasks p.0)
