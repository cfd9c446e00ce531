-- Lists changed where a test passes, tests that decide, and what an allowed event is.
-- Assumes nothing.
use mathlib.Core.Path.{◌≡◌, refl, sym}
use mathlib.Core.Bool.{Bool, true, false, cond, not, ◌&&◌, ◌||◌, true≢false}
use mathlib.Core.List.{List}
use Prim.Native.Nat.{ℕ, zero, suc, ◌^◌, ◌≤◌, ◌<◌}
use native.Mathlib.Omega.{arith}
use borrow.Author.Tests.{ltb-true, ltb-false, leb-true, leb-false, le-leb}
use lib.Dec.{eqb, ltb, leb}
use lib.ListN.{get_or, length, replicate, get_or-replicate}
use Rattle.lists.specs.Lists.{upto, every, some, count, leading}
use Rattle.lists.proofs.Bools.{and_left, and_right, and_both, or_right, cond_zero, else_zero}
use Rattle.lists.proofs.Lists.{upto_at, upto_past, every_at}
use Rattle.protocol.specs.Event.{has}
use Rattle.protocol_state.specs.Saved.{at, one_to}
use Rattle.protocol_state.specs.Decision.{decided}
use Rattle.protocol_state.specs.Judge.{allows, may_arrive, judged_arrival, preempted, judged_task, judged_read}

-- ---- lists
-- where a list has room, place k below n is changed, if its test passes, and no other; past the end stands d
pub changed : (c : ℕ → Bool) (g : ℕ → ℕ → ℕ) (n : ℕ) (xs : List ℕ) → n ≤ length xs → (k d : ℕ)
    → get_or (upto (λ i x. cond (c i) (g i x) x) n xs) k d ≡ cond (ltb k n && c k) (g k (get_or xs k d)) (get_or xs k d)
changed c g n xs room k d = go (ltb k n) refl where
  go : (b : Bool) → ltb k n ≡ b → get_or (upto (λ i x. cond (c i) (g i x) x) n xs) k d ≡ cond (b && c k) (g k (get_or xs k d)) (get_or xs k d)
  go true e = let l : k < n = ltb-true k n e in upto_at (λ i x. cond (c i) (g i x) x) n xs k d l (omega arith)
  go false e = upto_past (λ i x. cond (c i) (g i x) x) n xs k d (ltb-false k n e)

-- a list of n times a
pub replicated : (n a k : ℕ) → k < n → at (replicate n a) k ≡ a
replicated n a k l = get_or-replicate {A = ℕ} n k a 0 l

-- past its end too, where that is what stands there
pub repeated : (n a k : ℕ) → get_or (replicate n a) k a ≡ a
repeated zero a k = refl
repeated (suc n) a zero = refl
repeated (suc n) a (suc k) = repeated n a k

-- a list of zeros is 0 at every place
pub zeros : (n k : ℕ) → at (replicate n 0) k ≡ 0
zeros n k = repeated n 0 k

-- ---- tests
-- y is one of 1 to m: where the test passes, and where it is so
pub between : (m y : ℕ) → one_to m y ≡ true → (1 ≤ y) × (y ≤ m)
between m y e = (leb-true 1 y (and_left (leb 1 y) _ e), leb-true y m (and_right (leb 1 y) _ e))

pub is_between : (m y : ℕ) → (1 ≤ y) × (y ≤ m) → one_to m y ≡ true
is_between m y h = and_both (le-leb 1 y h.0) (le-leb y m h.1)

-- who is asked passes
pub or_not : (a b : Bool) → (not a || b) ≡ true → a ≡ true → b ≡ true
or_not true b e f = e
or_not false b e f = absurd (true≢false (sym f))

-- two tests that agree below n hold of one, or do not
pub some_same : (f g : ℕ → Bool) (n : ℕ) → ((k : ℕ) → k < n → f k ≡ g k) → some f n ≡ some g n
unfolding some
some_same f g zero h = refl
some_same f g (suc n) h = rw (h n (omega arith), some_same f g n (λ k l. h k (omega arith)))

-- they hold of as many
pub count_same : (f g : ℕ → Bool) (n : ℕ) → ((k : ℕ) → k < n → f k ≡ g k) → count f n ≡ count g n
unfolding count
count_same f g zero h = refl
count_same f g (suc n) h = rw (h n (omega arith), count_same f g n (λ k l. h k (omega arith)))

-- two lists of numbers that agree below n have one first other than 0
pub leading_same : (f g : ℕ → ℕ) (n : ℕ) → ((k : ℕ) → k < n → f k ≡ g k) → leading f n ≡ leading g n
unfolding leading
leading_same f g zero h = refl
leading_same f g (suc n) h = rw (leading_same f g n (λ k l. h k (omega arith)), h n (omega arith))

-- each passes exactly when none fails
pub every_none_fails : (f g : ℕ → Bool) (n : ℕ) → ((k : ℕ) → k < n → f k ≡ not (g k)) → every f n ≡ not (some g n)
unfolding every some
every_none_fails f g zero h = refl
every_none_fails f g (suc n) h = rw (h n (omega arith), every_none_fails f g n (λ k l. h k (omega arith))) (go (g n) (some g n)) where
  go : (a b : Bool) → (not a && not b) ≡ not (a || b)
  go true b = refl
  go false b = refl

-- where each is 0, there is no first other
pub leading_none_other : (f : ℕ → ℕ) (n : ℕ) → ((k : ℕ) → k < n → f k ≡ 0) → leading f n ≡ 0
unfolding leading
leading_none_other f zero h = refl
leading_none_other f (suc n) h = rw (leading_none_other f n (λ k l. h k (omega arith)), h n (omega arith))

-- ---- allowed events
-- an allowed arrival is of a set of tasks that their phases let arrive
pub arrival_allowed : (s T : ℕ) (ph : ℕ → ℕ) → judged_arrival s T ph ≡ 0 → (s < 2 ^ T) × ((t : ℕ) → t < T → has s t ≡ true → allows (decided 0 (ph t)) ≡ true)
unfolding judged_arrival
arrival_allowed s T ph e =
    let a = cond_zero (eqb s 0 || leb (2 ^ T) s) 12 _ (λ z. omega arith) e in
    let b = else_zero (every (may_arrive s ph) T) 13 0 (λ z. omega arith) a.1 in
    (leb-false (2 ^ T) s (or_right (eqb s 0) _ a.0), λ t l m. or_not (has s t) _ (every_at (may_arrive s ph) T t b.0 l) m)

module _ (ahead : ℕ → ℕ → Bool) where
  -- an allowed event of a task is one of the table's tasks, its phase lets it, and none ahead of it is active
  pub task_allowed : (k t T : ℕ) (ph : ℕ → ℕ) → judged_task ahead k t T ph ≡ 0 → (t < T) × (allows (decided k (ph t)) ≡ true) × (preempted ahead t T ph ≡ false)
  unfolding judged_task
  task_allowed k t T ph e =
      let a = cond_zero (leb T t) 12 _ (λ z. omega arith) e in
      let n = go (allows (decided k (ph t))) refl a.1 in
      (leb-false T t a.0, n.0, n.1) where
        go : (b : Bool) → allows (decided k (ph t)) ≡ b → cond b (cond (preempted ahead t T ph) 16 0) (decided k (ph t)) ≡ 0 →
            (allows (decided k (ph t)) ≡ true) × (preempted ahead t T ph ≡ false)
        go true h z = (h, (cond_zero (preempted ahead t T ph) 16 0 (λ y. omega arith) z).0)
        go false h z = absurd (true≢false (rw z at h))

  -- an allowed read is by one of the table's links
  pub read_allowed : (l T L : ℕ) (R ph : ℕ → ℕ) → judged_read ahead l T L R ph ≡ 0 → (l < L) × (judged_task ahead 2 (R l) T ph ≡ 0)
  unfolding judged_read
  read_allowed l T L R ph e =
      let a = cond_zero (leb L l) 12 _ (λ z. omega arith) e in
      (leb-false L l a.0, a.1)
