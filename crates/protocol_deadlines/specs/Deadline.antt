-- Earliest deadline first: the order of tasks, the order of jobs, and who may run. τ n is the tick of arrival event number n.
-- Assumes nothing.
use Rattle.std.specs.Prelude.{◌≡◌, ◌≢◌, Bool, true, false, cond, not, ◌&&◌, ◌||◌, List, [], ◌∷◌, ℕ, zero, suc, ◌+◌, ◌≤◌, eqb, ltb}
use Rattle.lists.specs.Lists.{some}
use Rattle.protocol.specs.Event.{Event}
use Rattle.protocol.specs.Table.{Table}
use Rattle.protocol.specs.History.{active, stamp}
use Rattle.protocol.specs.Schedule.{Policy}

-- a is smaller than b, or they are the same and the tie is decided so
unfoldable pub smaller : ℕ → ℕ → Bool → Bool
smaller a b tie = ltb a b || (eqb a b && tie)

-- the order of tasks with the relative deadlines D: "smaller relative deadline, then earlier in the table"
unfoldable pub ahead_by : (ℕ → ℕ) → ℕ → ℕ → Bool
ahead_by D u t = smaller (D u) (D t) (ltb u t)

-- the table's order is that one
abbrev pub ByDeadline : {Val : Type 0} → Table Val → Type 0
ByDeadline T = (u t : ℕ) → T.ahead u t ≡ ahead_by T.deadline u t

-- fixed priorities: no task has a relative deadline, so that the earlier one in the table is ahead (`ahead_fixed`)
abbrev pub Fixed : {Val : Type 0} → Table Val → Type 0
Fixed T = (t : ℕ) → T.deadline t ≡ 0

-- what an order is: nobody is ahead of himself, of two tasks one is ahead of the other, and who is ahead of one that is ahead is ahead
pub record Ranks (ahead : ℕ → ℕ → Bool) : Type 0 where
  pub itself : (t : ℕ) → ahead t t ≡ false
  pub either : (u t : ℕ) → u ≢ t → ahead u t ≡ false → ahead t u ≡ true
  pub onward : (u t s : ℕ) → ahead u t ≡ true → ahead t s ≡ true → ahead u s ≡ true

-- ticks never fall, up to arrival event number n
abbrev pub RisesTo : ℕ → (ℕ → ℕ) → Type 0
RisesTo n τ = (i j : ℕ) → i ≤ j → j ≤ n → τ i ≤ τ j

-- the same ticks, up to arrival event number n
abbrev pub AgreeTo : ℕ → (ℕ → ℕ) → (ℕ → ℕ) → Type 0
AgreeTo n τ σ = (i : ℕ) → i ≤ n → τ i ≡ σ i

module _ {Val : Type 0} (T : Table Val) (τ : ℕ → ℕ) where
  -- when task t's last job is due: the tick of its arrival, and its relative deadline
  abbrev pub due_tick : List (Event Val) → ℕ → ℕ
  due_tick h t = τ (stamp h t) + T.deadline t

  -- the order of jobs: u's job is due earlier than t's, "ties by that order of tasks"
  abbrev pub sooner : List (Event Val) → ℕ → ℕ → Bool
  sooner h u t = smaller (due_tick h u) (due_tick h t) (T.ahead u t)

  -- the active job that is due first alone may run: no active job goes before t's
  abbrev pub earliest : Policy Val
  earliest h t = not (some (λ u. sooner h u t && active h u) T.tasks)

-- task t at its place among tasks that are in order
unfoldable pub place : (ℕ → ℕ → Bool) → ℕ → List ℕ → List ℕ
place ahead t [] = t ∷ []
place ahead t (u ∷ us) = cond (ahead t u) (t ∷ u ∷ us) (u ∷ place ahead t us)

-- the first n tasks in order
unfoldable pub in_order : (ℕ → ℕ → Bool) → ℕ → List ℕ
in_order ahead zero = []
in_order ahead (suc n) = place ahead n (in_order ahead n)
