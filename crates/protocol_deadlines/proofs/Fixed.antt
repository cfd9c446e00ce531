-- Fixed priorities are the case of no deadlines and no ticks: every relative deadline and every tick is 0.
-- Assumes nothing.
use mathlib.Core.Path.{◌≡◌, refl, ap, sym, ◌∙◌}
use mathlib.Core.Logic.{◌↔◌}
use mathlib.Core.Bool.{Bool, true, false, cond, not, ◌&&◌}
use mathlib.Core.List.{List, [], ◌∷◌}
use Prim.Native.Nat.{ℕ}
use native.Mathlib.Omega.{arith}
use borrow.Author.Tests.{eqb-true}
use lib.Dec.{eqb, ltb}
use Rattle.protocol.specs.Event.{Event, arrival, start, read, finish}
use Rattle.protocol.specs.Table.{Table}
use Rattle.protocol.specs.History.{active, clock, stamp}
use Rattle.protocol.specs.Schedule.{urgent, AllPossible, judged}
use Rattle.protocol_deadlines.specs.Deadline.{ahead_by, ByDeadline, Fixed, sooner}
use Rattle.protocol_deadlines.specs.Timed.{untimed, still, last, ticks, InTime, earliest_at, AllPossibleAt, judged_at}
use Rattle.protocol_deadlines.proofs.Orders.{smaller_tie}
use Rattle.protocol_deadlines.proofs.Turn.{some_same, possible_same, judged_same}
use Rattle.protocol_deadlines.proofs.Timed.{in_time_late}

-- ahead is then who is earlier in the table
pub ahead_fixed : {Val : Type 0} (T : Table Val) → ByDeadline T → Fixed T → (u t : ℕ) → T.ahead u t ≡ ltb u t
unfolding ahead_by
ahead_fixed T B F u t = B u t ∙ smaller_tie (T.deadline u) (T.deadline t) (ltb u t) (F u ∙ sym (F t))

module _ {Val : Type 0} where
  pub untimed_still : (h : List (Event Val)) → untimed (still h) ≡ h
  unfolding untimed still
  untimed_still [] = refl
  untimed_still (e ∷ h) = ap (λ k. e ∷ k) (untimed_still h)

  ticks_still : (h : List (Event Val)) (n : ℕ) → ticks (still h) n ≡ 0
  unfolding ticks still
  ticks_still [] n = refl
  ticks_still (arrival m ∷ h) n = go (ltb (clock (untimed (still h))) n) (ticks_still h n)
    where
      go : (b : Bool) → ticks (still h) n ≡ 0 → cond b 0 (ticks (still h) n) ≡ 0
      go true i = refl
      go false i = i
  ticks_still (start u ∷ h) n = ticks_still h n
  ticks_still (read l ∷ h) n = ticks_still h n
  ticks_still (finish u v ∷ h) n = ticks_still h n

  last_still : (h : List (Event Val)) → last (still h) ≡ 0
  unfolding last still
  last_still [] = refl
  last_still (e ∷ h) = refl

  in_time_zero : (T : Table Val) (τ : ℕ → ℕ) (h : List (Event Val)) (e : Event Val) → InTime T τ h 0 e
  unfolding InTime
  in_time_zero T τ h (arrival m) = tt
  in_time_zero T τ h (start t) = tt
  in_time_zero T τ h (read l) = tt
  in_time_zero T τ h (finish t v) = omega arith

module _ {Val : Type 0} (T : Table Val) (F : Fixed T) where
  -- who goes before whom is then who is ahead of whom
  sooner_fixed : (h k : List (Event Val)) (u t : ℕ) → sooner T (ticks (still h)) k u t ≡ T.ahead u t
  sooner_fixed h k u t =
      let i = ticks_still h (stamp k u) in
      let j = ticks_still h (stamp k t) in
      let f = F u in
      let g = F t in
      smaller_tie _ _ (T.ahead u t) (omega arith)

  -- and the policy says what the user wrote, "the most urgent unfinished task alone may run"
  pub still_fixed : (h k : List (Event Val)) (t : ℕ) → earliest_at T (still h) k t ≡ urgent T k t
  still_fixed h k t =
      ap not (some_same (λ u. sooner T (ticks (still h)) k u t && active k u) (λ u. T.ahead u t && active k u) T.tasks (λ u. ap (λ b. b && active k u) (sooner_fixed h k u t)))

  fixed_to : (h : List (Event Val)) → AllPossibleAt T (still h) → AllPossible T (urgent T) h
  unfolding AllPossibleAt AllPossible still
  fixed_to [] P = tt
  fixed_to (e ∷ h) P = (possible_same T (earliest_at T (still h)) (urgent T) h (still_fixed h h) e (rw (untimed_still h) at P.0.possible), fixed_to h P.1)

  fixed_from : (h : List (Event Val)) → AllPossible T (urgent T) h → AllPossibleAt T (still h)
  unfolding AllPossibleAt AllPossible still
  fixed_from [] P = tt
  fixed_from (e ∷ h) P = (
    record {
      possible = rw (untimed_still h) (possible_same T (urgent T) (earliest_at T (still h)) h (λ t. sym (still_fixed h h t)) e P.0);
      rises = omega (arith, last_still h);
      small = omega arith;
      in_time = in_time_zero T (ticks (still h)) (untimed (still h)) e;
    },
    fixed_from h P.1,
  )

  -- so the plain histories that could happen under fixed priorities are those that could happen with all ticks 0
  pub fixed_possible : (h : List (Event Val)) → AllPossibleAt T (still h) ↔ AllPossible T (urgent T) h
  fixed_possible h = (fixed_to h, fixed_from h)

  -- and the refusals are the same
  pub fixed_judged : (h : List (Event Val)) (e : Event Val) → judged_at T (still h) 0 e ≡ judged T (urgent T) h e
  unfolding judged_at
  fixed_judged h e =
      rw (
        last_still h,
        in_time_late T (ticks (still h)) (untimed (still h)) 0 e (in_time_zero T (ticks (still h)) (untimed (still h)) e),
        untimed_still h,
        judged_same T (earliest_at T (still h)) (urgent T) h (still_fixed h h) e,
      )
      (go (judged T (urgent T) h e) (eqb (judged T (urgent T) h e) 12) refl (eqb (judged T (urgent T) h e) 0) refl)
    where
      go : (r : ℕ) (b : Bool) → eqb r 12 ≡ b → (c : Bool) → eqb r 0 ≡ c → cond b 12 (cond c 0 r) ≡ r
      go r true i c j = sym (eqb-true r 12 i)
      go r false i true j = sym (eqb-true r 0 j)
      go r false i false j = refl
