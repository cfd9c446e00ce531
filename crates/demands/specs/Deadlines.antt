-- Request 2026-07, earliest deadline first: a field for each sentence that no field of the demands says already. proofs/Deadlines.antt has `deadlines`. The demands
-- are those of both policies: what could happen is `PossibleAt`, and fixed priorities are its case of zeros.
-- Assumes nothing.
use Rattle.std.specs.Prelude.{◌≡◌, ◌↔◌, true, false, List, ℕ, ◌+◌, ◌≤◌, ◌<◌, ltb}
use Rattle.protocol.specs.Event.{Event}
use Rattle.protocol.specs.Table.{Table}
use Rattle.protocol.specs.History.{active}
use Rattle.protocol.specs.Schedule.{urgent, Possible, AllPossible}
use Rattle.protocol_deadlines.specs.Deadline.{smaller, ByDeadline, Fixed}
use Rattle.protocol_deadlines.specs.Timed.{Timed, untimed, still, ticks, since, Rising, AllInTime, earliest_at, PossibleAt, AllPossibleAt}
use Rattle.mailbox.specs.declared.State.{State}
use Rattle.demands.specs.States.{policy_in}
use Rattle.demands.specs.Calls.{Calls}

pub record Deadlines : Type 0 where
  -- ""Ahead" for links means smaller relative deadline, then earlier in the table."
  pub order : {T : Table ℕ} {es : List (Timed ℕ)} {ns : List ℕ} {q : State} → Calls T es ns q → ByDeadline T
  pub ahead : (T : Table ℕ) → ByDeadline T → (u t : ℕ) → T.ahead u t ≡ smaller (T.deadline u) (T.deadline t) (ltb u t)
  -- "The active job with the earliest arrival tick plus relative deadline alone may run, ties by that order of tasks.": one of the active jobs may run,
  pub one : (T : Table ℕ) → ByDeadline T → (H : List (Timed ℕ)) (u : ℕ) → u < T.tasks → active (untimed H) u ≡ true →
      (t : ℕ) × (t < T.tasks) × (active (untimed H) t ≡ true) × (earliest_at T H (untimed H) t ≡ true)
  -- no other,
  pub alone : (T : Table ℕ) → ByDeadline T → (H : List (Timed ℕ)) (u t : ℕ) → u < T.tasks → t < T.tasks → active (untimed H) u ≡ true → active (untimed H) t ≡ true →
      earliest_at T H (untimed H) u ≡ true → earliest_at T H (untimed H) t ≡ true → u ≡ t
  -- and it is due no later than any other
  pub first : (T : Table ℕ) (H : List (Timed ℕ)) (t u : ℕ) → earliest_at T H (untimed H) t ≡ true → u < T.tasks → active (untimed H) u ≡ true →
      since H t + T.deadline t ≤ since H u + T.deadline u
  -- "ties by that order of tasks": no active job that is due at the same tick is of a task ahead
  pub tie : (T : Table ℕ) (H : List (Timed ℕ)) (t u : ℕ) → earliest_at T H (untimed H) t ≡ true → u < T.tasks → active (untimed H) u ≡ true →
      since H u + T.deadline u ≡ since H t + T.deadline t → T.ahead u t ≡ false
  -- "ticks that never fall and keep their limit, every finish by its deadline": with the events that could happen under their ticks, that is all
  pub gained : (T : Table ℕ) (H : List (Timed ℕ)) → AllPossibleAt T H ↔ (AllPossible T (earliest_at T H) (untimed H) × Rising H × AllInTime T (ticks H) H)
  -- "Demands 2 and 3 hold for both policies": under fixed priorities no task has a deadline and every event comes at tick 0,
  pub fixed : {T : Table ℕ} {es : List (Timed ℕ)} {ns : List ℕ} {q : State} → Calls T es ns q → policy_in q ≡ 0 → Fixed T × (es ≡ still (untimed es))
  -- and what could happen is what the user wrote, "the most urgent unfinished task alone may run"
  pub plain : (T : Table ℕ) → Fixed T → (h : List (Event ℕ)) → AllPossibleAt T (still h) ↔ AllPossible T (urgent T) h
  pub plain_next : (T : Table ℕ) → Fixed T → (h : List (Event ℕ)) (e : Event ℕ) → PossibleAt T (still h) 0 e ↔ Possible T (urgent T) h e
