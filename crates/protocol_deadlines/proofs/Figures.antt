-- What source document 001 shows of this policy, with numbers: the scenarios of its figures 11 to 13, in which the job that is due first is not interrupted by a task
-- with a smaller relative deadline, and the sequence that its figure 22 allows and fixed priorities do not.
-- Assumes nothing.
use mathlib.Core.Path.{◌≡◌, refl}
use mathlib.Core.Bool.{Bool, true, false}
use mathlib.Core.List.{List, [], ◌∷◌}
use Prim.Native.Nat.{ℕ, zero, suc}
use Rattle.lists.specs.Lists.{some, count, first}
use Rattle.protocol.specs.Event.{arrival, start, read, finish, has}
use Rattle.protocol.specs.Table.{Table}
use Rattle.protocol.specs.History.{arrivals, starts, finishes, clock, up_to}
use Rattle.protocol.specs.Schedule.{judged}
use Rattle.protocol.specs.Lowest.{boxes_of, numbers_of}
use Rattle.protocol_deadlines.specs.Deadline.{smaller, ahead_by}
use Rattle.protocol_deadlines.specs.Timed.{Timed, timed, untimed, last, ticks, late, judged_at}

-- task 0 writes for task 1; their relative deadlines are d and e
abbrev pair_deadlines : ℕ → ℕ → ℕ → ℕ
pair_deadlines d e zero = d
pair_deadlines d e (suc t) = e

unfoldable pub pair : ℕ → ℕ → Bool → Table ℕ
pair d e k = record {
  tasks = 2;
  links = 1;
  default = λ t. 0;
  deadline = pair_deadlines d e;
  start_value = λ l. 90;
  writer = λ l. 0;
  reader = λ l. 1;
  delayed = λ l. k;
  ahead = ahead_by (pair_deadlines d e);
}

-- the refusal of each event of a history, after those before it; the last event stands first
unfoldable pub judged_each : Table ℕ → List (Timed ℕ) → List ℕ
judged_each T [] = []
judged_each T (timed x e ∷ H) = judged_at T H x e ∷ judged_each T H

-- figure 11, the writer has the larger deadline and the link is delayed: the reader comes while the writer's second job runs, which is due earlier, at 20
-- against 21, and is not interrupted; the reader gets the output of the run before it
unfoldable pub eleven : List (Timed ℕ)
eleven =
    timed 19 (finish 1 7) ∷ timed 18 (read 0) ∷ timed 17 (start 1) ∷ timed 17 (finish 0 102) ∷ timed 15 (arrival 2) ∷ timed 10 (start 0) ∷ timed 10 (arrival 1)
    ∷ timed 3 (finish 0 101) ∷ timed 0 (start 0) ∷ timed 0 (arrival 1) ∷ []

pub figure_11 :
    (judged_each (pair 10 6 true) eleven ≡ 0 ∷ 0 ∷ 0 ∷ 0 ∷ 0 ∷ 0 ∷ 0 ∷ 0 ∷ 0 ∷ 0 ∷ []) × (numbers_of (pair 10 6 true) (untimed eleven) ≡ 101 ∷ [])
unfolding judged_each pair eleven ahead_by smaller judged_at judged late untimed last ticks some arrivals starts finishes has clock up_to numbers_of boxes_of count first
figure_11 = (refl, refl)

-- figure 12, the writer has the smaller deadline and the link is direct: the writer comes while the reader's job runs, due at 13 against 14, and does not
-- interrupt it; the reader gets the output of the writer's last arrival before its own
unfoldable pub twelve : List (Timed ℕ)
twelve =
    timed 14 (finish 0 102) ∷ timed 12 (start 0) ∷ timed 12 (finish 1 7) ∷ timed 9 (read 0) ∷ timed 8 (arrival 1) ∷ timed 3 (start 1) ∷ timed 3 (arrival 2)
    ∷ timed 2 (finish 0 101) ∷ timed 0 (start 0) ∷ timed 0 (arrival 1) ∷ []

pub figure_12 :
    (judged_each (pair 6 10 false) twelve ≡ 0 ∷ 0 ∷ 0 ∷ 0 ∷ 0 ∷ 0 ∷ 0 ∷ 0 ∷ 0 ∷ 0 ∷ []) × (numbers_of (pair 6 10 false) (untimed twelve) ≡ 101 ∷ [])
unfolding judged_each pair twelve ahead_by smaller judged_at judged late untimed last ticks some arrivals starts finishes has clock up_to numbers_of boxes_of count first
figure_12 = (refl, refl)

-- figure 13, the same by a delayed link: the output of the run before
unfoldable pub thirteen : List (Timed ℕ)
thirteen =
    timed 15 (finish 0 103) ∷ timed 12 (start 0) ∷ timed 12 (finish 1 7) ∷ timed 10 (read 0) ∷ timed 9 (arrival 1) ∷ timed 4 (start 1) ∷ timed 4 (arrival 2)
    ∷ timed 3 (finish 0 102) ∷ timed 2 (start 0) ∷ timed 2 (arrival 1) ∷ timed 1 (finish 0 101) ∷ timed 0 (start 0) ∷ timed 0 (arrival 1) ∷ []

pub figure_13 :
    (judged_each (pair 6 10 true) thirteen ≡ 0 ∷ 0 ∷ 0 ∷ 0 ∷ 0 ∷ 0 ∷ 0 ∷ 0 ∷ 0 ∷ 0 ∷ 0 ∷ 0 ∷ 0 ∷ []) × (numbers_of (pair 6 10 true) (untimed thirteen) ≡ 101 ∷ [])
unfolding judged_each pair thirteen ahead_by smaller judged_at judged late untimed last ticks some arrivals starts finishes has clock up_to numbers_of boxes_of count first
figure_13 = (refl, refl)

-- figure 22, of two tasks the first with the smaller deadline: release of the second, release of the first, the second runs whole, then the first. It could
-- happen where the second is due earlier, at 8 against 9; without deadlines and ticks the second may not start while the first waits
unfoldable pub second_first : List (Timed ℕ)
second_first = timed 9 (finish 0 1) ∷ timed 6 (start 0) ∷ timed 6 (finish 1 7) ∷ timed 4 (start 1) ∷ timed 4 (arrival 1) ∷ timed 0 (arrival 2) ∷ []

pub figure_22 : judged_each (pair 5 8 false) second_first ≡ 0 ∷ 0 ∷ 0 ∷ 0 ∷ 0 ∷ 0 ∷ []
unfolding judged_each pair second_first ahead_by smaller judged_at judged late untimed last ticks some arrivals starts finishes has clock up_to
figure_22 = refl

pub figure_21 : judged_each (pair 0 0 false) (timed 0 (start 1) ∷ timed 0 (arrival 1) ∷ timed 0 (arrival 2) ∷ []) ≡ 16 ∷ 0 ∷ 0 ∷ []
unfolding judged_each pair ahead_by smaller judged_at judged late untimed last ticks some arrivals starts finishes has clock up_to
figure_21 = refl
