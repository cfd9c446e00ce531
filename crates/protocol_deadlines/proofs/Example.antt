-- Two tasks, judged event by event: the second has the smaller relative deadline and writes for the first.
-- Assumes nothing.
use mathlib.Core.Path.{◌≡◌, refl}
use mathlib.Core.Bool.{false}
use mathlib.Core.List.{List, [], ◌∷◌}
use Prim.Native.Nat.{ℕ, zero, suc}
use Rattle.lists.specs.Lists.{some}
use Rattle.protocol.specs.Event.{Event, arrival, start, finish, has}
use Rattle.protocol.specs.Table.{Table}
use Rattle.protocol.specs.History.{arrivals, starts, finishes, clock, up_to}
use Rattle.protocol.specs.Schedule.{judged}
use Rattle.protocol_deadlines.specs.Deadline.{smaller, ahead_by, place, in_order}
use Rattle.protocol_deadlines.specs.Timed.{Timed, timed, untimed, last, ticks, late, tried, judged_at}

unfoldable pub deadlines : ℕ → ℕ
deadlines zero = 10
deadlines (suc t) = 5

unfoldable pub two : Table ℕ
two = record { tasks = 2; links = 1; default = λ t. 0; deadline = deadlines; start_value = λ l. 0; writer = λ l. 1; reader = λ l. 0; delayed = λ l. false; ahead = ahead_by deadlines }

unfoldable pub answer : List (Timed ℕ) → ℕ → Event ℕ → ℕ
answer H x e = judged_at two H x e

-- task 0 arrives at tick 0, task 1 at tick x
unfoldable pub came : ℕ → List (Timed ℕ)
came x = timed x (arrival 2) ∷ timed 0 (arrival 1) ∷ []

-- the second is ahead
pub example_order : in_order (ahead_by deadlines) 2 ≡ 1 ∷ 0 ∷ []
unfolding in_order place ahead_by smaller deadlines
example_order = refl

-- due at 10 and 11: the first goes first. Due at 10 and 10: the second does. Due at 10 and 9: the second does
pub example_first : answer (came 6) 6 (start 0) ∷ answer (came 6) 6 (start 1) ∷ answer (came 5) 6 (start 0) ∷ answer (came 5) 6 (start 1) ∷ answer (came 4) 6 (start 0) ∷ answer (came 4) 6 (start 1) ∷ []
    ≡ 0 ∷ 16 ∷ 16 ∷ 0 ∷ 16 ∷ 0 ∷ []
unfolding answer came two deadlines ahead_by smaller judged_at judged late untimed last ticks some arrivals starts finishes has clock up_to
example_first = refl

-- 12 before 22, 22 before 13, 21 before 13, 13; 21 before 15, 15
pub example_ticks : answer (came 6) 4000000001 (arrival 4) ∷ answer (came 6) 4000000001 (arrival 1) ∷ answer (came 6) 5 (arrival 1) ∷ answer (came 6) 6 (arrival 1) ∷ answer (came 6) 5 (finish 0 7) ∷ answer (came 6) 6 (finish 0 7) ∷ []
    ≡ 12 ∷ 22 ∷ 21 ∷ 13 ∷ 21 ∷ 15 ∷ []
unfolding answer came two deadlines ahead_by smaller judged_at judged late untimed last ticks some arrivals starts finishes has clock up_to
example_ticks = refl

-- 22 before 21, where both fit: after a last tick above the limit, which no history that could happen has
pub example_both : tried 0 4000000002 4000000001 0 ≡ 22
example_both = refl

-- a finish at its deadline, and after it; 16 before 23
pub example_late : answer (timed 6 (start 0) ∷ came 6) 10 (finish 0 7) ∷ answer (timed 6 (start 0) ∷ came 6) 11 (finish 0 7) ∷ answer (timed 5 (arrival 2) ∷ timed 3 (start 0) ∷ timed 0 (arrival 1) ∷ []) 11 (finish 0 7) ∷ []
    ≡ 0 ∷ 23 ∷ 16 ∷ []
unfolding answer came two deadlines ahead_by smaller judged_at judged late untimed last ticks some arrivals starts finishes has clock up_to
example_late = refl
