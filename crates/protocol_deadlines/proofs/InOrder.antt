-- For any relative deadlines the tasks have an order, most urgent first: each put at its place.
-- Assumes nothing.
use mathlib.Core.Path.{◌≡◌, refl, sym, ◌∙◌}
use mathlib.Core.Bool.{Bool, true, false, cond, ◌||◌, true≢false}
use mathlib.Core.List.{List, [], ◌∷◌}
use Prim.Native.Nat.{ℕ, zero, suc, ◌≤◌, ◌<◌}
use native.Mathlib.Omega.{arith}
use native.Mathlib.Decide.{ℕ_discrete}
use borrow.Author.Tests.{eq-eqb, ne_eqb, eqb-false}
use lib.Dec.{eqb}
use Rattle.lists.proofs.Bools.{or_left, or_right}
use Rattle.protocol.specs.Table.{Table}
use Rattle.protocol.specs.Instant.{mem, Sorted, Order}
use Rattle.protocol_deadlines.specs.Deadline.{ahead_by, Ranks, ByDeadline, place, in_order}
use Rattle.protocol_deadlines.proofs.Orders.{not_both, ahead_order}

-- the first of a list, or one of the others
by_case : (u t : ℕ) (b : Bool) {P : Type 0} → (eqb u t || b) ≡ true → (u ≡ t → P) → (b ≡ true → P) → P
by_case u t b {P} e f g = go (ℕ_discrete u t)
  where
    go : Dec (u ≡ t) → P
    go (yes x) = f x
    go (no x) = g (rw (ne_eqb u t x) at e)

or_true : (a b : Bool) → b ≡ true → (a || b) ≡ true
or_true true b e = refl
or_true false b e = e

-- a list in order is in the same order by any other name
sorted_same : (r s : ℕ → ℕ → Bool) → ((u t : ℕ) → s u t ≡ r u t) → (ts : List ℕ) → Sorted r ts → Sorted s ts
unfolding Sorted
sorted_same r s e [] S = tt
sorted_same r s e (t ∷ ts) S = ((λ u f. e u t ∙ S.0 u f), S.1, sorted_same r s e ts S.2)

module _ (r : ℕ → ℕ → Bool) where
  -- who stands in the list afterwards
  mem_place : (u t : ℕ) (ts : List ℕ) → mem u (place r t ts) ≡ (eqb u t || mem u ts)
  unfolding place mem
  mem_place u t [] = refl
  mem_place u t (s ∷ ts) = go (r t s) (mem_place u t ts)
    where
      swap : (a b c : Bool) → (a || (b || c)) ≡ (b || (a || c))
      swap true true c = refl
      swap true false c = refl
      swap false b c = refl

      go : (b : Bool) → mem u (place r t ts) ≡ (eqb u t || mem u ts) → mem u (cond b (t ∷ s ∷ ts) (s ∷ place r t ts)) ≡ (eqb u t || (eqb u s || mem u ts))
      go true i = refl
      go false i = rw i (swap (eqb u s) (eqb u t) (mem u ts))

  -- the first n tasks stand in it, and no others
  mem_in : (u n : ℕ) → u < n → mem u (in_order r n) ≡ true
  unfolding in_order
  mem_in u zero q = absurd (omega arith)
  mem_in u (suc n) q = mem_place u n (in_order r n) ∙ go (ℕ_discrete u n) (mem_in u n)
    where
      go : Dec (u ≡ n) → (u < n → mem u (in_order r n) ≡ true) → (eqb u n || mem u (in_order r n)) ≡ true
      go (yes x) i = rw (eq-eqb u n x)
      go (no x) i = rw (ne_eqb u n x) (i (omega arith))

  mem_out : (u n : ℕ) → n ≤ u → mem u (in_order r n) ≡ false
  unfolding in_order mem
  mem_out u zero q = refl
  mem_out u (suc n) q = mem_place u n (in_order r n) ∙ rw (ne_eqb u n (omega arith)) (mem_out u n (omega arith))

  module _ (O : Ranks r) where
    -- a task at its place keeps the order
    place_sorted : (t : ℕ) (ts : List ℕ) → mem t ts ≡ false → Sorted r ts → Sorted r (place r t ts)
    unfolding place Sorted mem
    place_sorted t [] n S = ((λ u e. by_case u t false e (λ x. rw x (O.itself t)) (λ f. absurd (true≢false (sym f)))), refl, tt)
    place_sorted t (s ∷ ts) n S = go (r t s) refl (place_sorted t ts (or_right (eqb t s) (mem t ts) n) S.2)
      where
        -- t goes before s, so before all that follow
        follows : r t s ≡ true → (u : ℕ) → mem u (s ∷ ts) ≡ true → Dec (u ≡ s) → r u t ≡ false
        follows e u f (yes x) = rw x (not_both O t s e)
        follows e u f (no x) = not_both O t u (O.onward t s u e (O.either u s x (S.0 u f)))

        go : (b : Bool) → r t s ≡ b → Sorted r (place r t ts) → Sorted r (cond b (t ∷ s ∷ ts) (s ∷ place r t ts))
        go true e i = ((λ u f. by_case u t (mem u (s ∷ ts)) f (λ x. rw x (O.itself t)) (λ g. follows e u g (ℕ_discrete u s))), n, S)
        go false e i = (
          λ u f. by_case u s (mem u (place r t ts)) f (λ x. rw x (O.itself s))
              (λ g. by_case u t (mem u ts) (sym (mem_place u t ts) ∙ g) (λ x. rw x e) (λ k. S.0 u (or_true (eqb u s) (mem u ts) k))),
          mem_place s t ts ∙ rw (ne_eqb s t (λ x. eqb-false t s (or_left (eqb t s) (mem t ts) n) (sym x))) S.1,
          i,
        )

    -- so all are in order
    in_order_sorted : (n : ℕ) → Sorted r (in_order r n)
    unfolding in_order Sorted
    in_order_sorted zero = tt
    in_order_sorted (suc n) = place_sorted n (in_order r n) (mem_out n n (omega arith)) (in_order_sorted n)

-- the tasks of a table in their order by deadlines
pub in_order_lem : {Val : Type 0} (T : Table Val) → ByDeadline T → Order T (in_order (ahead_by T.deadline) T.tasks)
in_order_lem T B = record {
  sorted = sorted_same (ahead_by T.deadline) T.ahead B (in_order (ahead_by T.deadline) T.tasks) (in_order_sorted (ahead_by T.deadline) (ahead_order T.deadline) T.tasks);
  all = λ t q. mem_in (ahead_by T.deadline) t T.tasks q;
}
