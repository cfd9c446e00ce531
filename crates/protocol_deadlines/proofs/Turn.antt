-- Earliest deadline first lets a task run in its turn only; and it reads the ticks of the arrivals so far alone.
-- Assumes nothing.
use mathlib.Core.Path.{◌≡◌, refl, ap, sym, ◌∙◌}
use mathlib.Core.Bool.{Bool, true, false, not, ◌&&◌, true≢false}
use mathlib.Core.List.{List}
use Prim.Native.Nat.{ℕ, zero, suc, ◌+◌, ◌≤◌, ◌<◌}
use native.Mathlib.Omega.{arith}
use borrow.Author.Tests.{not-true}
use Rattle.lists.specs.Lists.{some}
use Rattle.lists.proofs.Bools.{and_not}
use Rattle.lists.proofs.Lists.{some_not}
use Rattle.protocol.specs.Event.{Event, arrival, start, read, finish}
use Rattle.protocol.specs.Table.{Table}
use Rattle.protocol.specs.History.{active, clock, stamp}
use Rattle.protocol.specs.Schedule.{Policy, Turn, Fair, Possible, judged}
use Rattle.protocol.proofs.Counts.{stamp_clock}
use Rattle.protocol_deadlines.specs.Deadline.{smaller, ByDeadline, RisesTo, AgreeTo, due_tick, sooner, earliest}
use Rattle.protocol_deadlines.proofs.Orders.{smaller_le, ahead_le}

-- tests that agree find the same
pub some_same : (f g : ℕ → Bool) (n : ℕ) → ((k : ℕ) → f k ≡ g k) → some f n ≡ some g n
unfolding some
some_same f g zero e = refl
some_same f g (suc n) e = rw (e n, some_same f g n e)

and_no : (b : Bool) → (b && false) ≡ false
and_no true = refl
and_no false = refl

module _ {Val : Type 0} (T : Table Val) (τ : ℕ → ℕ) where
  -- no active job goes before that of a task that may run
  pub earliest_first : (h : List (Event Val)) (t u : ℕ) → earliest T τ h t ≡ true → u < T.tasks → sooner T τ h u t ≡ true → active h u ≡ false
  earliest_first h t u e k b =
      and_not (sooner T τ h u t) (active h u) (some_not (λ u. sooner T τ h u t && active h u) T.tasks u (not-true _ e) k) b

  module _ (B : ByDeadline T) where
    -- where ticks never fell so far, it is that task's turn
    pub earliest_turn : (h : List (Event Val)) (t : ℕ) → RisesTo (clock h) τ → earliest T τ h t ≡ true → Turn T h t
    earliest_turn h t R e u k a c s =
        let r : τ (stamp h u) ≤ τ (stamp h t) = R (stamp h u) (stamp h t) s (stamp_clock h t) in
        let d : due_tick T τ h u ≤ due_tick T τ h t = omega (arith, ahead_le T.deadline u t (sym (B u t) ∙ a)) in
        true≢false (sym c ∙ earliest_first h t u e k (smaller_le (due_tick T τ h u) (due_tick T τ h t) (T.ahead u t) d a))

    -- the policy owes nothing more
    pub earliest_fair : ((n : ℕ) → RisesTo n τ) → Fair T (earliest T τ)
    earliest_fair R h t e = earliest_turn h t (R (clock h)) e

-- policies that agree after a history allow the same events, and refuse with the same numbers
module _ {Val : Type 0} (T : Table Val) (may may' : Policy Val) (h : List (Event Val)) (s : (t : ℕ) → may h t ≡ may' h t) where
  pub possible_same : (e : Event Val) → Possible T may h e → Possible T may' h e
  unfolding Possible
  possible_same (arrival m) p = p
  possible_same (start t) p = (p.0, p.1, sym (s t) ∙ p.2)
  possible_same (read l) p = (p.0, p.1, sym (s (T.reader l)) ∙ p.2)
  possible_same (finish t v) p = (p.0, p.1, sym (s t) ∙ p.2)

  pub judged_same : (e : Event Val) → judged T may h e ≡ judged T may' h e
  unfolding judged
  judged_same (arrival m) = refl
  judged_same (start t) = rw (s t)
  judged_same (read l) = rw (s (T.reader l))
  judged_same (finish t v) = rw (s t)

-- the policy reads the ticks of the arrivals so far, and no others
pub earliest_same : {Val : Type 0} (T : Table Val) (τ σ : ℕ → ℕ) (h : List (Event Val)) → AgreeTo (clock h) τ σ → (t : ℕ) → earliest T τ h t ≡ earliest T σ h t
earliest_same T τ σ h s t = ap not (some_same (λ u. sooner T τ h u t && active h u) (λ u. sooner T σ h u t && active h u) T.tasks
    (λ u. rw (s (stamp h u) (stamp_clock h u), s (stamp h t) (stamp_clock h t))))

-- what a saved state must keep: the arrival ticks of active jobs, and no others. a u: the tick kept for task u
pub earliest_active : {Val : Type 0} (T : Table Val) (τ : ℕ → ℕ) (h : List (Event Val)) (a : ℕ → ℕ) → ((u : ℕ) → active h u ≡ true → τ (stamp h u) ≡ a u) → (t : ℕ) → active h t ≡ true
    → earliest T τ h t ≡ not (some (λ u. smaller (a u + T.deadline u) (a t + T.deadline t) (T.ahead u t) && active h u) T.tasks)
earliest_active T τ h a k t e = ap not (some_same (λ u. sooner T τ h u t && active h u) (λ u. smaller (a u + T.deadline u) (a t + T.deadline t) (T.ahead u t) && active h u) T.tasks
    (λ u. go u (active h u) refl))
  where
    go : (u : ℕ) (b : Bool) → active h u ≡ b → (sooner T τ h u t && b) ≡ (smaller (a u + T.deadline u) (a t + T.deadline t) (T.ahead u t) && b)
    go u true f = rw (k u f, k t e)
    go u false f = and_no (sooner T τ h u t) ∙ sym (and_no (smaller (a u + T.deadline u) (a t + T.deadline t) (T.ahead u t)))
