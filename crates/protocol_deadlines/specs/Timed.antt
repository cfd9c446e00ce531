-- Histories with ticks, the last event first: which events could happen, and the refusals 21 to 23. Under fixed priorities every tick is 0.
-- Assumes nothing.
use Rattle.std.specs.Prelude.{cond, List, [], ◌∷◌, ℕ, ◌≤◌, eqb, ltb}
use Rattle.protocol.specs.Event.{Event, arrival, start, read, finish}
use Rattle.protocol.specs.Table.{Table}
use Rattle.protocol.specs.History.{clock, stamp}
use Rattle.protocol.specs.Schedule.{Policy, Possible, judged}
use Rattle.protocol_deadlines.specs.Deadline.{due_tick, earliest}

-- an event at a tick
pub data Timed (Val : Type 0) : Type 0 where
  timed : ℕ → Event Val → Timed Val

-- the largest tick: "at most 4,000,000,000"
abbrev pub limit : ℕ
limit = 4000000000

module _ {Val : Type 0} where
  -- the events without their ticks
  unfoldable pub untimed : List (Timed Val) → List (Event Val)
  untimed [] = []
  untimed (timed x e ∷ H) = e ∷ untimed H

  -- events without ticks, each at tick 0: so they are under fixed priorities
  unfoldable pub still : List (Event Val) → List (Timed Val)
  still [] = []
  still (e ∷ h) = timed 0 e ∷ still h

  -- the last event's tick, "0 when fresh"
  unfoldable pub last : List (Timed Val) → ℕ
  last [] = 0
  last (timed x e ∷ H) = x

  -- the tick of arrival event number n; past the last one, the last one's
  unfoldable pub ticks : List (Timed Val) → ℕ → ℕ
  ticks [] n = 0
  ticks (timed x (arrival m) ∷ H) n = cond (ltb (clock (untimed H)) n) x (ticks H n)
  ticks (timed x (start u) ∷ H) n = ticks H n
  ticks (timed x (read l) ∷ H) n = ticks H n
  ticks (timed x (finish u v) ∷ H) n = ticks H n

  -- the tick of task t's last arrival
  abbrev pub since : List (Timed Val) → ℕ → ℕ
  since H t = ticks H (stamp (untimed H) t)

  -- "ticks that never fall and keep their limit"
  unfoldable pub Rising : List (Timed Val) → Type 0
  Rising [] = Unit {0}
  Rising (timed x e ∷ H) = (last H ≤ x) × (x ≤ limit) × Rising H

-- refusals in the order in which they are tried: 12, 22, 21, then 13 to 16, then 23; 0 is none. r: the refusal without ticks; before: the last tick; late: 23 or 0
abbrev pub tried : ℕ → ℕ → ℕ → ℕ → ℕ
tried r before x late = cond (eqb r 12) 12 (cond (ltb limit x) 22 (cond (ltb x before) 21 (cond (eqb r 0) late r)))

module _ {Val : Type 0} (T : Table Val) where
  -- a finish at tick x, after the history h whose arrivals have the ticks τ, comes by its deadline
  unfoldable pub InTime : (τ : ℕ → ℕ) → List (Event Val) → ℕ → Event Val → Type 0
  InTime τ h x (arrival m) = Unit {0}
  InTime τ h x (start t) = Unit {0}
  InTime τ h x (read l) = Unit {0}
  InTime τ h x (finish t v) = x ≤ due_tick T τ h t

  -- "every finish by its deadline"
  unfoldable pub AllInTime : (τ : ℕ → ℕ) → List (Timed Val) → Type 0
  AllInTime τ [] = Unit {0}
  AllInTime τ (timed x e ∷ H) = InTime τ (untimed H) x e × AllInTime τ H

  -- 23 where it comes after it
  unfoldable pub late : (τ : ℕ → ℕ) → List (Event Val) → ℕ → Event Val → ℕ
  late τ h x (arrival m) = 0
  late τ h x (start t) = 0
  late τ h x (read l) = 0
  late τ h x (finish t v) = cond (ltb (due_tick T τ h t) x) 23 0

  -- who may run after a history with ticks
  abbrev pub earliest_at : List (Timed Val) → Policy Val
  earliest_at H = earliest T (ticks H)

  -- the event could happen next, at tick x
  pub record PossibleAt (H : List (Timed Val)) (x : ℕ) (e : Event Val) : Type 0 where
    pub possible : Possible T (earliest_at H) (untimed H) e
    pub rises : last H ≤ x
    pub small : x ≤ limit
    pub in_time : InTime (ticks H) (untimed H) x e

  -- each event of the history could happen in its turn
  unfoldable pub AllPossibleAt : List (Timed Val) → Type 0
  AllPossibleAt [] = Unit {0}
  AllPossibleAt (timed x e ∷ H) = PossibleAt H x e × AllPossibleAt H

  -- the refusal of an event at tick x
  unfoldable pub judged_at : List (Timed Val) → ℕ → Event Val → ℕ
  judged_at H x e = tried (judged T (earliest_at H) (untimed H) e) (last H) x (late (ticks H) (untimed H) x e)
