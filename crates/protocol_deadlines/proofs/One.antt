-- One processor: of the active jobs exactly one may run.
-- Assumes nothing.
use mathlib.Core.Path.{◌≡◌, refl, ap, sym, ◌∙◌}
use mathlib.Core.Bool.{Bool, true, false, not, ◌&&◌, true≢false}
use mathlib.Core.Logic.{◌⊎◌, inl, inr}
use mathlib.Core.List.{List}
use Prim.Native.Nat.{ℕ, zero, suc, ◌<◌}
use native.Mathlib.Omega.{arith}
use native.Mathlib.Decide.{ℕ_discrete}
use Rattle.lists.proofs.Lists.{some_of_none}
use Rattle.protocol.specs.Event.{Event}
use Rattle.protocol.specs.Table.{Table}
use Rattle.protocol.specs.History.{active}
use Rattle.protocol_deadlines.specs.Deadline.{Ranks, ByDeadline, sooner, earliest}
use Rattle.protocol_deadlines.proofs.Orders.{not_both, sooner_order}
use Rattle.protocol_deadlines.proofs.Turn.{earliest_first}

and_none : (a b : Bool) → (b ≡ true → a ≡ false) → (a && b) ≡ false
and_none true true i = i refl
and_none true false i = refl
and_none false b i = refl

-- of the numbers below n for which the test holds, one goes before every other, if there is any
module _ (r : ℕ → ℕ → Bool) (O : Ranks r) (on : ℕ → Bool) where
  record First (n t : ℕ) : Type 0 where
    below : t < n
    holds : on t ≡ true
    first : (u : ℕ) → u < n → on u ≡ true → r u t ≡ false

  -- one more number, which is not among them, or is and goes before the first, or does not
  step : (n t : ℕ) (b : Bool) → on n ≡ b → First n t → (s : ℕ) × First (suc n) s
  step n t false e f = (t, record { below = omega (arith, f.below); holds = f.holds; first = others })
    where
      others : (u : ℕ) → u < suc n → on u ≡ true → r u t ≡ false
      others u q a = go (ℕ_discrete u n)
        where
          go : Dec (u ≡ n) → r u t ≡ false
          go (yes x) = absurd (true≢false (sym a ∙ ap on x ∙ e))
          go (no x) = f.first u (omega arith) a
  step n t true e f = by (r n t) refl
    where
      by : (b : Bool) → r n t ≡ b → (s : ℕ) × First (suc n) s
      by true x = (n, record { below = omega arith; holds = e; first = others })
        where
          others : (u : ℕ) → u < suc n → on u ≡ true → r u n ≡ false
          others u q a = go (ℕ_discrete u n) (ℕ_discrete u t)
            where
              go : Dec (u ≡ n) → Dec (u ≡ t) → r u n ≡ false
              go (yes y) z = rw y (O.itself n)
              go (no y) (yes z) = rw z (not_both O n t x)
              go (no y) (no z) = not_both O n u (O.onward n t u x (O.either u t z (f.first u (omega arith) a)))
      by false x = (t, record { below = omega (arith, f.below); holds = f.holds; first = others })
        where
          others : (u : ℕ) → u < suc n → on u ≡ true → r u t ≡ false
          others u q a = go (ℕ_discrete u n)
            where
              go : Dec (u ≡ n) → r u t ≡ false
              go (yes y) = rw y x
              go (no y) = f.first u (omega arith) a

  -- so there is a first, or none at all
  found : (n : ℕ) → ((u : ℕ) → u < n → on u ≡ false) ⊎ ((t : ℕ) × First n t)
  found zero = inl (λ u q. absurd (omega arith))
  found (suc n) = go (on n) refl (found n)
    where
      go : (b : Bool) → on n ≡ b → ((u : ℕ) → u < n → on u ≡ false) ⊎ ((t : ℕ) × First n t) → ((u : ℕ) → u < suc n → on u ≡ false) ⊎ ((t : ℕ) × First (suc n) t)
      go b e (inr (t, f)) = inr (step n t b e f)
      go true e (inl z) = inr (n, record { below = omega arith; holds = e; first = alone })
        where
          alone : (u : ℕ) → u < suc n → on u ≡ true → r u n ≡ false
          alone u q a = by (ℕ_discrete u n)
            where
              by : Dec (u ≡ n) → r u n ≡ false
              by (yes x) = rw x (O.itself n)
              by (no x) = absurd (true≢false (sym a ∙ z u (omega arith)))
      go false e (inl z) = inl none
        where
          none : (u : ℕ) → u < suc n → on u ≡ false
          none u q = by (ℕ_discrete u n)
            where
              by : Dec (u ≡ n) → on u ≡ false
              by (yes x) = rw x e
              by (no x) = z u (omega arith)

  some_first : (n k : ℕ) → k < n → on k ≡ true → (t : ℕ) × First n t
  some_first n k q a = go (found n)
    where
      go : ((u : ℕ) → u < n → on u ≡ false) ⊎ ((t : ℕ) × First n t) → (t : ℕ) × First n t
      go (inl z) = absurd (true≢false (sym a ∙ z k q))
      go (inr f) = f

module _ {Val : Type 0} (T : Table Val) (τ : ℕ → ℕ) (B : ByDeadline T) (h : List (Event Val)) where
  -- at most one
  pub one_at_most : (u t : ℕ) → u < T.tasks → t < T.tasks → active h u ≡ true → active h t ≡ true → earliest T τ h u ≡ true → earliest T τ h t ≡ true → u ≡ t
  one_at_most u t p q a b e f = go (ℕ_discrete u t) (sooner T τ h u t) refl
    where
      go : Dec (u ≡ t) → (c : Bool) → sooner T τ h u t ≡ c → u ≡ t
      go (yes x) c i = x
      go (no x) true i = absurd (true≢false (sym a ∙ earliest_first T τ h t u f p i))
      go (no x) false i = absurd (true≢false (sym b ∙ earliest_first T τ h u t e q ((sooner_order T B τ h).either u t x i)))

  -- and one, if any is active
  pub one_at_least : (u : ℕ) → u < T.tasks → active h u ≡ true → (t : ℕ) × (t < T.tasks) × (active h t ≡ true) × (earliest T τ h t ≡ true)
  one_at_least u q a =
      let (t, f) = some_first (sooner T τ h) (sooner_order T B τ h) (active h) T.tasks u q a in
      (t, f.below, f.holds, ap not (some_of_none (λ u. sooner T τ h u t && active h u) T.tasks (λ u k. and_none (sooner T τ h u t) (active h u) (f.first u k))))
