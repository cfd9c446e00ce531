-- What may be asked of any function that answers events at ticks, under both policies: no machine stands here. `RefusesRightly` is the heart of demand 1,
-- `FollowsProtocol` of demand 2, `ReadsZeroTime` of demand 3 (the demands themselves, over the calls, are in the crate `demands`).
-- Assumes nothing.
use Rattle.std.specs.Prelude.{◌≡◌, ◌≢◌, List, [], ◌∷◌, ℕ}
use Rattle.protocol.specs.Event.{Event, arrival, start, read, finish}
use Rattle.protocol.specs.Table.{Table, Lawful}
use Rattle.protocol.specs.Published.{Boxes, Same, Fresh, Lowest, Step}
use Rattle.protocol.specs.Published as published
use Rattle.protocol.specs.Instant.{Order, zero_run, looked, theres}
use Rattle.protocol_deadlines.specs.Deadline.{ByDeadline}
use Rattle.protocol_deadlines.specs.Timed.{Timed, timed, untimed, PossibleAt, AllPossibleAt, judged_at}

-- the answer to one event: the refusal (0: accepted), the value, and the boxes afterwards
pub record Response (Val : Type 0) : Type 0 where
  pub refusal : ℕ
  pub value : Val
  pub boxes : Boxes Val

-- responses that nobody can tell apart
pub record SameResponse {Val : Type 0} (a b : Response Val) : Type 0 where
  pub refusal : a.refusal ≡ b.refusal
  pub value : a.value ≡ b.value
  pub boxes : Same a.boxes b.boxes

-- an answer function: the fresh boxes of a table, and the answer to one event at a tick after a history of accepted ones
pub record Answerer (Val : Type 0) : Type 0 where
  pub fresh : Table Val → Boxes Val
  pub reply : Table Val → List (Timed Val) → ℕ → Event Val → Response Val

-- the event is no read
unfoldable pub ReadsNothing : {Val : Type 0} → Event Val → Type 0
ReadsNothing (arrival m) = Unit {0}
ReadsNothing (start t) = Unit {0}
ReadsNothing (read l) = ⊥
ReadsNothing (finish t v) = Unit {0}

-- what is supposed: a lawful table in the order by deadlines, and a history that could happen. Under fixed priorities deadlines and ticks are 0
abbrev pub Supposing : {Val : Type 0} → (Table Val → List (Timed Val) → Type 0) → Type 0
Supposing {Val} P = (T : Table Val) → Lawful T → ByDeadline T → (H : List (Timed Val)) → AllPossibleAt T H → P T H

module _ {Val : Type 0} (A : Answerer Val) where
  -- the boxes after a history
  unfoldable pub boxes_after : Table Val → List (Timed Val) → Boxes Val
  boxes_after T [] = A.fresh T
  boxes_after T (timed x e ∷ H) = (A.reply T H x e).boxes

  -- the numbers that its reads gave, the last one first
  unfoldable pub numbers_read : Table Val → List (Timed Val) → List Val
  numbers_read T [] = []
  numbers_read T (timed x (arrival m) ∷ H) = numbers_read T H
  numbers_read T (timed x (start u) ∷ H) = numbers_read T H
  numbers_read T (timed x (read l) ∷ H) = (A.reply T H x (read l)).value ∷ numbers_read T H
  numbers_read T (timed x (finish u v) ∷ H) = numbers_read T H

  -- each refusal has its number, a refused event changes nothing, and only an accepted read gives another value than `zero`
  pub record RefusesRightly (zero : Val) : Type 0 where
    pub number : Supposing (λ T H. (x : ℕ) (e : Event Val) → (A.reply T H x e).refusal ≡ judged_at T H x e)
    pub unchanged : Supposing (λ T H. (x : ℕ) (e : Event Val) → (A.reply T H x e).refusal ≢ 0 → ((A.reply T H x e).boxes ≡ boxes_after T H) × ((A.reply T H x e).value ≡ zero))
    pub silent : Supposing (λ T H. (x : ℕ) (e : Event Val) → ReadsNothing e → (A.reply T H x e).value ≡ zero)

  -- accepted exactly when it could happen, and then every pointer, mailbox and number read is the published protocol's, the lowest free position taken
  pub record FollowsProtocol : Type 0 where
    pub fresh : (T : Table Val) → Lawful T → Fresh T (A.fresh T)
    pub only : Supposing (λ T H. (x : ℕ) (e : Event Val) → (A.reply T H x e).refusal ≡ 0 → PossibleAt T H x e)
    pub all : Supposing (λ T H. (x : ℕ) (e : Event Val) → PossibleAt T H x e → (A.reply T H x e).refusal ≡ 0)
    pub step : Supposing (λ T H. (x : ℕ) (e : Event Val) → PossibleAt T H x e → Step T (Lowest T) e (boxes_after T H) (A.reply T H x e).boxes)
    pub number : Supposing (λ T H. (x l : ℕ) → PossibleAt T H x (read l) → (A.reply T H x (read l)).value ≡ published.number T (boxes_after T H) l)

  -- each number read is the one from the run where tasks take no time, which takes the arrival events in recorded order, and within one the order of tasks
  abbrev pub ReadsZeroTime : Type 0
  ReadsZeroTime = Supposing (λ T H. (order : List ℕ) → Order T order → theres (numbers_read T H) ≡ looked T (zero_run T order (untimed H)) (untimed H))
