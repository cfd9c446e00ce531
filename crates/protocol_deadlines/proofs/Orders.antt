-- The order of tasks and the order of jobs are orders: a number first, ties by an order.
-- Assumes nothing.
use mathlib.Core.Path.{◌≡◌, refl, sym, ◌∙◌}
use mathlib.Core.Bool.{Bool, true, false, true≢false}
use mathlib.Core.List.{List}
use Prim.Native.Nat.{ℕ, ◌≤◌, ◌<◌}
use native.Mathlib.Omega.{arith}
use native.Mathlib.Decide.{dec_le}
use borrow.Author.Tests.{ltb-true, ltb-false, lt-ltb, le-ltb, eq-eqb, ne_eqb}
use lib.Dec.{ltb}
use Rattle.protocol.specs.Event.{Event}
use Rattle.protocol.specs.Table.{Table}
use Rattle.protocol_deadlines.specs.Deadline.{smaller, ahead_by, Ranks, ByDeadline, sooner}

-- ---- one number, then the tie
pub smaller_lt : (a b : ℕ) (c : Bool) → a < b → smaller a b c ≡ true
unfolding smaller
smaller_lt a b c q = rw (lt-ltb a b q)

pub smaller_tie : (a b : ℕ) (c : Bool) → a ≡ b → smaller a b c ≡ c
unfolding smaller
smaller_tie a b c q = rw (le-ltb a b (omega arith), eq-eqb a b q)

pub smaller_gt : (a b : ℕ) (c : Bool) → b < a → smaller a b c ≡ false
unfolding smaller
smaller_gt a b c q = rw (le-ltb a b (omega arith), ne_eqb a b (omega arith))

-- where the one is no larger and the tie is decided for it, it is smaller
pub smaller_le : (a b : ℕ) (c : Bool) → a ≤ b → c ≡ true → smaller a b c ≡ true
smaller_le a b c q e = go (dec_le b a)
  where
    go : Dec (b ≤ a) → smaller a b c ≡ true
    go (yes p) = smaller_tie a b c (omega arith) ∙ e
    go (no p) = smaller_lt a b c (omega arith)

-- what is smaller is no larger
pub le_smaller : (a b : ℕ) (c : Bool) → smaller a b c ≡ true → a ≤ b
le_smaller a b c e = go (dec_le a b)
  where
    go : Dec (a ≤ b) → a ≤ b
    go (yes p) = p
    go (no p) = absurd (true≢false (sym e ∙ smaller_gt a b c (omega arith)))

-- numbers first, ties by an order: an order
pub then_order : (f : ℕ → ℕ) (r : ℕ → ℕ → Bool) → Ranks r → Ranks (λ u t. smaller (f u) (f t) (r u t))
then_order f r O = record {
  itself = λ t. smaller_tie (f t) (f t) (r t t) refl ∙ O.itself t;
  either = one;
  onward = chain;
}
  where
    one : (u t : ℕ) → (u ≡ t → ⊥) → smaller (f u) (f t) (r u t) ≡ false → smaller (f t) (f u) (r t u) ≡ true
    one u t n e = go (dec_le (f u) (f t)) (dec_le (f t) (f u))
      where
        go : Dec (f u ≤ f t) → Dec (f t ≤ f u) → smaller (f t) (f u) (r t u) ≡ true
        go (yes p) (yes q) = smaller_tie (f t) (f u) (r t u) (omega arith) ∙ O.either u t n (sym (smaller_tie (f u) (f t) (r u t) (omega arith)) ∙ e)
        go (yes p) (no q) = absurd (true≢false (sym (smaller_lt (f u) (f t) (r u t) (omega arith)) ∙ e))
        go (no p) q = smaller_lt (f t) (f u) (r t u) (omega arith)

    chain : (u t s : ℕ) → smaller (f u) (f t) (r u t) ≡ true → smaller (f t) (f s) (r t s) ≡ true → smaller (f u) (f s) (r u s) ≡ true
    chain u t s d e = go (dec_le (f s) (f u)) (le_smaller (f u) (f t) (r u t) d) (le_smaller (f t) (f s) (r t s) e)
      where
        go : Dec (f s ≤ f u) → f u ≤ f t → f t ≤ f s → smaller (f u) (f s) (r u s) ≡ true
        go (yes p) i j =
            smaller_tie (f u) (f s) (r u s) (omega arith)
            ∙ O.onward u t s (sym (smaller_tie (f u) (f t) (r u t) (omega arith)) ∙ d) (sym (smaller_tie (f t) (f s) (r t s) (omega arith)) ∙ e)
        go (no p) i j = smaller_lt (f u) (f s) (r u s) (omega arith)

-- two of them are not ahead of each other
pub not_both : {r : ℕ → ℕ → Bool} → Ranks r → (u t : ℕ) → r u t ≡ true → r t u ≡ false
not_both {r} O u t e = go (r t u) refl
  where
    go : (b : Bool) → r t u ≡ b → r t u ≡ false
    go true f = absurd (true≢false (sym (O.onward u t u e f) ∙ O.itself u))
    go false f = f

-- an order is one by any other name
pub same_order : (r s : ℕ → ℕ → Bool) → ((u t : ℕ) → s u t ≡ r u t) → Ranks r → Ranks s
same_order r s e O = record {
  itself = λ t. e t t ∙ O.itself t;
  either = λ u t n f. e t u ∙ O.either u t n (sym (e u t) ∙ f);
  onward = λ u t v f g. e u v ∙ O.onward u t v (sym (e u t) ∙ f) (sym (e t v) ∙ g);
}

-- ---- earlier in the table
pub earlier_order : Ranks ltb
earlier_order = record {
  itself = λ t. le-ltb t t (omega arith);
  either = λ u t n e. lt-ltb t u (omega (arith, ltb-false u t e));
  onward = λ u t s d e. lt-ltb u s (omega (arith, ltb-true u t d, ltb-true t s e));
}

-- the order of tasks by their deadlines is one
pub ahead_order : (D : ℕ → ℕ) → Ranks (ahead_by D)
unfolding ahead_by
ahead_order D = then_order D ltb earlier_order

-- who is ahead has no larger deadline
pub ahead_le : (D : ℕ → ℕ) (u t : ℕ) → ahead_by D u t ≡ true → D u ≤ D t
unfolding ahead_by
ahead_le D u t e = le_smaller (D u) (D t) (ltb u t) e

module _ {Val : Type 0} (T : Table Val) (B : ByDeadline T) where
  -- so the table's order is
  pub table_order : Ranks T.ahead
  table_order = same_order (ahead_by T.deadline) T.ahead B (ahead_order T.deadline)

  -- and the order of jobs
  pub sooner_order : (τ : ℕ → ℕ) (h : List (Event Val)) → Ranks (sooner T τ h)
  sooner_order τ h = then_order _ T.ahead table_order
