-- A history with ticks that could happen is a plain one that could happen under its own ticks, all of them known from the beginning; and an event is judged 0 exactly when it could happen.
-- Assumes nothing.
use mathlib.Core.Path.{◌≡◌, refl, sym, ◌∙◌}
use mathlib.Core.Bool.{Bool, true, false, cond}
use mathlib.Core.Logic.{◌↔◌}
use mathlib.Core.List.{List, [], ◌∷◌, ◌++◌}
use Prim.Native.Nat.{ℕ, suc, ◌≤◌}
use native.Mathlib.Omega.{arith}
use native.Mathlib.Decide.{dec_le}
use borrow.Author.Tests.{ltb-false, lt-ltb, le-ltb, eqb-true, eqb-false}
use lib.Dec.{eqb, ltb}
use Rattle.lists.proofs.Bools.{cond_zero}
use Rattle.protocol.specs.Event.{Event, arrival, start, read, finish, has}
use Rattle.protocol.specs.Table.{Table}
use Rattle.protocol.specs.History.{clock, stamp}
use Rattle.protocol.specs.Schedule.{Fair, AllPossible, judged}
use Rattle.protocol.proofs.Counts.{up_to_out, stamp_clock, stamp_in}
use Rattle.protocol.proofs.Schedule.{judged_possible, possible_judged}
use Rattle.protocol_deadlines.specs.Deadline.{ByDeadline, RisesTo, AgreeTo, due_tick, earliest}
use Rattle.protocol_deadlines.specs.Timed.{Timed, timed, limit, untimed, last, ticks, since, Rising, InTime, AllInTime, late, earliest_at, PossibleAt, AllPossibleAt, tried, judged_at}
use Rattle.protocol_deadlines.proofs.Turn.{earliest_fair, earliest_same, possible_same}

module _ {Val : Type 0} where
  -- ---- the ticks of a history
  -- a further event leaves those before it
  ticks_more : (H : List (Timed Val)) (x : ℕ) (e : Event Val) (n : ℕ) → n ≤ clock (untimed H) → ticks (timed x e ∷ H) n ≡ ticks H n
  unfolding ticks
  ticks_more H x (arrival m) n q = rw (le-ltb (clock (untimed H)) n q)
  ticks_more H x (start u) n q = refl
  ticks_more H x (read l) n q = refl
  ticks_more H x (finish u v) n q = refl

  clock_more : (h : List (Event Val)) (e : Event Val) → clock h ≤ clock (e ∷ h)
  unfolding clock
  clock_more h (arrival m) = omega arith
  clock_more h (start u) = omega arith
  clock_more h (read l) = omega arith
  clock_more h (finish u v) = omega arith

  clock_prefix : (K H : List (Timed Val)) → clock (untimed H) ≤ clock (untimed (K ++ H))
  unfolding untimed
  clock_prefix [] H = omega arith
  clock_prefix (timed x e ∷ K) H = omega (arith, clock_prefix K H, clock_more (untimed (K ++ H)) e)

  -- no arrival came after the last event
  pub ticks_last : (H : List (Timed Val)) → Rising H → (n : ℕ) → ticks H n ≤ last H
  unfolding ticks last Rising
  ticks_last [] R n = omega arith
  ticks_last (timed x (arrival m) ∷ H) R n = go (ltb (clock (untimed H)) n) (ticks_last H R.2 n)
    where
      go : (b : Bool) → ticks H n ≤ last H → cond b x (ticks H n) ≤ x
      go true i = let q : x ≤ x = omega arith in q
      go false i = let q : ticks H n ≤ x = omega (arith, R.0) in q
  ticks_last (timed x (start u) ∷ H) R n = omega (arith, ticks_last H R.2 n)
  ticks_last (timed x (read l) ∷ H) R n = omega (arith, ticks_last H R.2 n)
  ticks_last (timed x (finish u v) ∷ H) R n = omega (arith, ticks_last H R.2 n)

  pub last_small : (H : List (Timed Val)) → Rising H → last H ≤ limit
  unfolding last Rising
  last_small [] R = omega arith
  last_small (timed x e ∷ H) R = R.1

  -- ticks that never fall never fall from one arrival to a later one
  pub ticks_rise : (H : List (Timed Val)) → Rising H → (n : ℕ) → RisesTo n (ticks H)
  unfolding ticks Rising
  ticks_rise [] R n i j q b = omega arith
  ticks_rise (timed x (arrival m) ∷ H) R n i j q b = go (dec_le i (clock (untimed H))) (dec_le j (clock (untimed H))) (ticks_rise H R.2 n i j q b)
    where
      go : Dec (i ≤ clock (untimed H)) → Dec (j ≤ clock (untimed H)) → ticks H i ≤ ticks H j → cond (ltb (clock (untimed H)) i) x (ticks H i) ≤ cond (ltb (clock (untimed H)) j) x (ticks H j)
      go (yes c) (yes d) k = rw (le-ltb (clock (untimed H)) i c, le-ltb (clock (untimed H)) j d) k
      go (yes c) (no d) k = rw (le-ltb (clock (untimed H)) i c, lt-ltb (clock (untimed H)) j (omega arith)) (omega (arith, ticks_last H R.2 i))
      go (no c) d k = rw (lt-ltb (clock (untimed H)) i (omega arith), lt-ltb (clock (untimed H)) j (omega arith)) (omega arith)
  ticks_rise (timed x (start u) ∷ H) R n i j q b = ticks_rise H R.2 n i j q b
  ticks_rise (timed x (read l) ∷ H) R n i j q b = ticks_rise H R.2 n i j q b
  ticks_rise (timed x (finish u v) ∷ H) R n i j q b = ticks_rise H R.2 n i j q b

  -- an arrival sets the tick of those who arrive, and of no others
  pub since_in_lem : (H : List (Timed Val)) (x m t : ℕ) → has m t ≡ true → since (timed x (arrival m) ∷ H) t ≡ x
  unfolding ticks untimed
  since_in_lem H x m t e = rw (stamp_in (untimed H) m t e, lt-ltb (clock (untimed H)) (suc (clock (untimed H))) (omega arith))

  pub since_out : (H : List (Timed Val)) (x m t : ℕ) → has m t ≡ false → since (timed x (arrival m) ∷ H) t ≡ since H t
  unfolding untimed
  since_out H x m t e = rw (up_to_out (untimed H) m t e) (ticks_more H x (arrival m) (stamp (untimed H) t) (stamp_clock (untimed H) t))

  -- τ has the ticks of the history's arrivals, whatever comes later
  abbrev Begins : (ℕ → ℕ) → List (Timed Val) → Type 0
  Begins τ H = AgreeTo (clock (untimed H)) τ (ticks H)

  begins_less : (τ : ℕ → ℕ) (H : List (Timed Val)) (x : ℕ) (e : Event Val) → Begins τ (timed x e ∷ H) → Begins τ H
  unfolding untimed
  begins_less τ H x e b n q = b n (omega (arith, clock_more (untimed H) e)) ∙ ticks_more H x e n q

  -- so do those of every longer history
  pub ticks_prefix : (K H : List (Timed Val)) → Begins (ticks (K ++ H)) H
  ticks_prefix [] H n q = refl
  ticks_prefix (timed x e ∷ K) H n q = ticks_more (K ++ H) x e n (omega (arith, clock_prefix K H)) ∙ ticks_prefix K H n q

-- ---- refusals
-- 0 where there is no refusal without ticks and none of theirs
pub tried_zero : (r before x late : ℕ) → tried r before x late ≡ 0 → (r ≡ 0) × (before ≤ x) × (x ≤ limit) × (late ≡ 0)
tried_zero r before x late z =
    let known = cond_zero (eqb r 12) 12 _ (λ y. omega arith) z in
    let small = cond_zero (ltb limit x) 22 _ (λ y. omega arith) known.1 in
    let rises = cond_zero (ltb x before) 21 _ (λ y. omega arith) small.1 in
    let end = go (eqb r 0) refl rises.1 in
    (end.0, ltb-false x before rises.0, ltb-false limit x small.0, end.1)
  where
    go : (b : Bool) → eqb r 0 ≡ b → cond b late r ≡ 0 → (r ≡ 0) × (late ≡ 0)
    go true t y = (eqb-true r 0 t, y)
    go false t y = absurd (eqb-false r 0 t y)

module _ {Val : Type 0} (T : Table Val) where
  -- deadlines read no other ticks
  in_time_same : (τ σ : ℕ → ℕ) (h : List (Event Val)) → AgreeTo (clock h) τ σ → (x : ℕ) (e : Event Val) → InTime T τ h x e → InTime T σ h x e
  unfolding InTime
  in_time_same τ σ h s x (arrival m) i = tt
  in_time_same τ σ h s x (start t) i = tt
  in_time_same τ σ h s x (read l) i = tt
  in_time_same τ σ h s x (finish t v) i = omega (arith, s (stamp h t) (stamp_clock h t))

  -- no 23 where a finish comes by its deadline, and only there
  late_in_time : (τ : ℕ → ℕ) (h : List (Event Val)) (x : ℕ) (e : Event Val) → late T τ h x e ≡ 0 → InTime T τ h x e
  unfolding late InTime
  late_in_time τ h x (arrival m) z = tt
  late_in_time τ h x (start t) z = tt
  late_in_time τ h x (read l) z = tt
  late_in_time τ h x (finish t v) z = ltb-false (due_tick T τ h t) x (cond_zero (ltb (due_tick T τ h t) x) 23 0 (λ y. omega arith) z).0

  pub in_time_late : (τ : ℕ → ℕ) (h : List (Event Val)) (x : ℕ) (e : Event Val) → InTime T τ h x e → late T τ h x e ≡ 0
  unfolding late InTime
  in_time_late τ h x (arrival m) i = refl
  in_time_late τ h x (start t) i = refl
  in_time_late τ h x (read l) i = refl
  in_time_late τ h x (finish t v) i = rw (le-ltb (due_tick T τ h t) x i)

  -- the policy at a prefix of a history does not depend on later ticks
  pub prefix_same : (K H : List (Timed Val)) (t : ℕ) → earliest_at T (K ++ H) (untimed H) t ≡ earliest_at T H (untimed H) t
  prefix_same K H t = earliest_same T (ticks (K ++ H)) (ticks H) (untimed H) (ticks_prefix K H) t

  -- a history that could happen has ticks that never fall and keep their limit
  pub all_rising : (H : List (Timed Val)) → AllPossibleAt T H → Rising H
  unfolding AllPossibleAt Rising
  all_rising [] P = tt
  all_rising (timed x e ∷ H) P = (P.0.rises, P.0.small, all_rising H P.1)

  -- so under them the policy keeps Turn
  pub timed_fair : ByDeadline T → (H : List (Timed Val)) → Rising H → Fair T (earliest_at T H)
  timed_fair B H R = earliest_fair T (ticks H) B (ticks_rise H R)

  -- each event could happen with all ticks known from the beginning
  all_later : (τ : ℕ → ℕ) (H : List (Timed Val)) → Begins τ H → AllPossibleAt T H → AllPossible T (earliest T τ) (untimed H) × AllInTime T τ H
  unfolding AllPossibleAt AllPossible AllInTime untimed
  all_later τ [] b P = (tt, tt)
  all_later τ (timed x e ∷ H) b P =
      let c = begins_less τ H x e b in
      let (p, i) = all_later τ H c P.1 in
      ((possible_same T (earliest_at T H) (earliest T τ) (untimed H) (earliest_same T (ticks H) τ (untimed H) (λ n q. sym (c n q))) e P.0.possible, p), (in_time_same (ticks H) τ (untimed H) (λ n q. sym (c n q)) x e P.0.in_time, i))

  all_now : (τ : ℕ → ℕ) (H : List (Timed Val)) → Begins τ H → AllPossible T (earliest T τ) (untimed H) → Rising H → AllInTime T τ H → AllPossibleAt T H
  unfolding AllPossibleAt AllPossible AllInTime Rising untimed
  all_now τ [] b P R I = tt
  all_now τ (timed x e ∷ H) b P R I =
      let c = begins_less τ H x e b in (
        record { possible = possible_same T (earliest T τ) (earliest_at T H) (untimed H) (earliest_same T τ (ticks H) (untimed H) c) e P.0; rises = R.0; small = R.1; in_time = in_time_same τ (ticks H) (untimed H) c x e I.0 },
        all_now τ H c P.1 R.2 I.1,
      )

  -- a history with ticks could happen: its events could, under its ticks
  pub timed_possible : (H : List (Timed Val)) → AllPossibleAt T H → AllPossible T (earliest_at T H) (untimed H)
  timed_possible H P = (all_later (ticks H) H (λ n q. refl) P).0

  -- nor does it matter how the history goes on
  pub prefix_possible : (K H : List (Timed Val)) → AllPossibleAt T H → AllPossible T (earliest_at T (K ++ H)) (untimed H)
  prefix_possible K H P = (all_later (ticks (K ++ H)) H (ticks_prefix K H) P).0

  -- so under its ticks the policy keeps Turn
  pub possible_fair : ByDeadline T → (H : List (Timed Val)) → AllPossibleAt T H → Fair T (earliest_at T H)
  possible_fair B H P = timed_fair B H (all_rising H P)

  -- and exactly that: its events could, ticks never fall and keep their limit, and every finish comes by its deadline
  pub timed_exactly : (H : List (Timed Val)) → AllPossibleAt T H ↔ (AllPossible T (earliest_at T H) (untimed H) × Rising H × AllInTime T (ticks H) H)
  timed_exactly H = (
    λ P. let (p, i) = all_later (ticks H) H (λ n q. refl) P in (p, all_rising H P, i),
    λ (p, r, i). all_now (ticks H) H (λ n q. refl) p r i,
  )

  -- judged 0 only if it could happen
  pub judged_possible_at : (H : List (Timed Val)) (x : ℕ) (e : Event Val) → judged_at T H x e ≡ 0 → PossibleAt T H x e
  unfolding judged_at
  judged_possible_at H x e z =
      let (r, rises, small, l) = tried_zero (judged T (earliest_at T H) (untimed H) e) (last H) x (late T (ticks H) (untimed H) x e) z in
      record { possible = judged_possible T (earliest_at T H) (untimed H) e r; rises = rises; small = small; in_time = late_in_time (ticks H) (untimed H) x e l }

  -- and always if it could
  pub possible_judged_at : (H : List (Timed Val)) (x : ℕ) (e : Event Val) → PossibleAt T H x e → judged_at T H x e ≡ 0
  unfolding judged_at
  possible_judged_at H x e p =
      rw (possible_judged T (earliest_at T H) (untimed H) e p.possible, le-ltb limit x p.small, le-ltb x (last H) p.rises)
      (in_time_late (ticks H) (untimed H) x e p.in_time)
