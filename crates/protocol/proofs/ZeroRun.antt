-- The closed form and the run: each number of the closed form is what the same run of the reader reads by the same link where tasks take no time,
-- and where every run's output is known, no run there asks for one that is not there yet.
-- Assumes nothing.
use mathlib.Core.Path.{◌≡◌, refl, ap, sym, ◌∙◌}
use mathlib.Core.Logic.{◌≢◌}
use mathlib.Core.Bool.{Bool, true, false, cond}
use mathlib.Core.List.{List, [], ◌∷◌}
use Prim.Native.Nat.{ℕ, suc, ◌≤◌, ◌<◌}
use native.Mathlib.Omega.{arith}
use borrow.Author.Tests.{ltb-true, ne_eqb}
use lib.Dec.{eqb}
use Rattle.protocol.specs.Given.{Given, missing, values}
use Rattle.protocol.specs.Event.{Event, arrival, start, read, finish, has}
use Rattle.protocol.specs.Table.{Table, Lawful}
use Rattle.protocol.specs.History.{tick, Goes, same, more, arrivals, starts, finishes, up_to, output}
use Rattle.protocol.specs.Schedule.{Policy, Fair, Possible, AllPossible}
use Rattle.protocol.specs.ZeroTime.{had, wanted, due, dues, ideals}
use Rattle.protocol.specs.Instant.{Order, sets, carried, zero_run, find, looked, AllThere, theres}
use Rattle.protocol.proofs.Counts.{arrivals_out, up_to_in, up_to_out}
use Rattle.protocol.proofs.Schedule.{has_below, counted}
use Rattle.protocol.proofs.Theorem.{values_theres, finished_then, ideals_there}
use Rattle.protocol.proofs.ClosedForm.{arrivals_in, Known, gives, closed}
use Rattle.protocol.proofs.Instant.{carried_closed, always_there, find_new, find_old}

-- two lists of numbers are the same where what they give is the same
pub theres_same : {Val : Type 0} (xs ys : List Val) → theres xs ≡ theres ys → xs ≡ ys
theres_same xs ys e = sym (values_theres xs) ∙ ap values e ∙ values_theres ys

-- both ways the same
either_way : {A : Type 0} (b : Bool) (x : A) → cond b x x ≡ x
either_way true x = refl
either_way false x = refl

-- a tick never takes away
tick_le : (b : Bool) (n : ℕ) → n ≤ tick b n
tick_le true n = let q : n ≤ suc n = omega arith in q
tick_le false n = let q : n ≤ n = omega arith in q

module _ {Val : Type 0} where
  -- what goes on from an event goes on from before it
  onward : {h H : List (Event Val)} (e : Event Val) → Goes (e ∷ h) H → Goes h H
  onward e same = more e same
  onward e (more f g) = more f (onward e g)

  -- a history's arrivals are those of its sets
  arrivals_in_sets : (h : List (Event Val)) (t : ℕ) → arrivals h t ≡ arrivals_in (sets h) t
  unfolding arrivals sets arrivals_in
  arrivals_in_sets [] t = refl
  arrivals_in_sets (arrival m ∷ h) t = ap (tick (has m t)) (arrivals_in_sets h t)
  arrivals_in_sets (start u ∷ h) t = arrivals_in_sets h t
  arrivals_in_sets (read l ∷ h) t = arrivals_in_sets h t
  arrivals_in_sets (finish u v ∷ h) t = arrivals_in_sets h t

  -- no event lowers a task's arrivals
  arrivals_one : (t : ℕ) (e : Event Val) (h : List (Event Val)) → arrivals h t ≤ arrivals (e ∷ h) t
  unfolding arrivals
  arrivals_one t (arrival m) h = tick_le (has m t) (arrivals h t)
  arrivals_one t (start u) h = omega arith
  arrivals_one t (read k) h = omega arith
  arrivals_one t (finish u v) h = omega arith

  -- nor its finishes
  finishes_one : (w : ℕ) (e : Event Val) (h : List (Event Val)) → finishes h w ≤ finishes (e ∷ h) w
  unfolding finishes
  finishes_one w (arrival m) h = omega arith
  finishes_one w (start u) h = omega arith
  finishes_one w (read l) h = omega arith
  finishes_one w (finish u v) h = tick_le (eqb u w) (finishes h w)

  -- a count that no event lowers is lowered by none of many
  never_falls : (f : List (Event Val) → ℕ) → ((e : Event Val) (h : List (Event Val)) → f h ≤ f (e ∷ h)) → {h H : List (Event Val)} → Goes h H → f h ≤ f H
  never_falls f one same = omega arith
  never_falls f one (more {H = H} e g) = omega (arith, never_falls f one g, one e H)

  -- what was finished stays
  output_one : (e : Event Val) (h : List (Event Val)) (w k : ℕ) → k ≤ finishes h w → output (e ∷ h) w k ≡ output h w k
  unfolding output
  output_one (arrival m) h w k q = refl
  output_one (start u) h w k q = refl
  output_one (read l) h w k q = refl
  output_one (finish u v) h w k q = rw (ne_eqb k (suc (finishes h w)) (λ e. omega arith)) (either_way (eqb u w) (output h w k))

  -- over many events
  output_more : {h H : List (Event Val)} (w k : ℕ) → k ≤ finishes h w → Goes h H → output H w k ≡ output h w k
  output_more w k q same = refl
  output_more w k q (more {H = H} e g) = output_one e H w k (omega (arith, never_falls (λ h. finishes h w) (finishes_one w) g)) ∙ output_more w k q g

module _ {Val : Type 0} (T : Table Val) where
  -- what the closed form gives, with the outputs of all that happened by any later time, is what was due
  gives_due : {h H : List (Event Val)} (l : ℕ) → wanted T h l ≤ finishes h (T.writer l) → Goes h H → gives T (output H) l (had T h l) ≡ due T h l
  gives_due {h} l q g = rw (output_more (T.writer l) (wanted T h l) q g)

  -- a possible history's sets hold tasks of the table only
  sets_known : (may : Policy Val) (h : List (Event Val)) → AllPossible T may h → Known T.tasks (sets h)
  unfolding sets Known AllPossible Possible
  sets_known may [] P = tt
  sets_known may (arrival m ∷ h) P = ((λ t e. has_below m T.tasks t P.0.1 e), sets_known may h P.1)
  sets_known may (start u ∷ h) P = sets_known may h P.1
  sets_known may (read l ∷ h) P = sets_known may h P.1
  sets_known may (finish u v ∷ h) P = sets_known may h P.1

  module _ (out : ℕ → ℕ → Given Val) (order : List ℕ) where
    -- later events leave what was read
    find_one : (e : Event Val) (h : List (Event Val)) (l j : ℕ) → j ≤ arrivals h (T.reader l)
        → find l j (closed T out order (sets (e ∷ h))) ≡ find l j (closed T out order (sets h))
    unfolding sets
    find_one (arrival m) h l j q = find_old T out order m (sets h) l j (omega (arith, arrivals_in_sets h (T.reader l)))
    find_one (start u) h l j q = refl
    find_one (read k) h l j q = refl
    find_one (finish u v) h l j q = refl

    -- over many events
    find_more : {h H : List (Event Val)} (l : ℕ) → Goes h H
        → find l (arrivals h (T.reader l)) (closed T out order (sets H)) ≡ find l (arrivals h (T.reader l)) (closed T out order (sets h))
    find_more l same = refl
    find_more {h} l (more {H = H} e g) = find_one e H l (arrivals h (T.reader l)) (never_falls (λ h. arrivals h (T.reader l)) (arrivals_one (T.reader l)) g) ∙ find_more l g

    -- what the reader's last run reads by link l, for any outputs
    abbrev Last : List (Event Val) → ℕ → Type 0
    Last h l = find l (arrivals h (T.reader l)) (closed T out order (sets h)) ≡ gives T out l (had T h l)

    -- it is what link l gives after the writer's arrivals until then
    last_read : Order T order → (h : List (Event Val)) (l : ℕ) → Known T.tasks (sets h) → l < T.links → 0 < arrivals h (T.reader l) → Last h l
    unfolding sets arrivals up_to Known
    last_read O [] l K q a = absurd (omega arith)
    last_read O (arrival m ∷ h) l K q a = go (has m (T.reader l)) refl (last_read O h l K.1 q)
      where
        go : (b : Bool) → has m (T.reader l) ≡ b → (0 < arrivals h (T.reader l) → Last h l) → Last (arrival m ∷ h) l
        go true e i =
            rw (up_to_in h m (T.reader l) e, arrivals_in_sets (arrival m ∷ h) (T.reader l), arrivals_in_sets (arrival m ∷ h) (T.writer l))
            (find_new T out order m (sets h) l q e (O.all (T.reader l) (K.0 (T.reader l) e)))
        go false e i =
            rw (up_to_out h m (T.reader l) e, arrivals_out h m (T.reader l) e)
            (find_old T out order m (sets h) l (arrivals h (T.reader l)) (omega (arith, arrivals_in_sets h (T.reader l))) ∙ i (omega (arith, arrivals_out h m (T.reader l) e)))
    last_read O (start u ∷ h) l K q a = last_read O h l K q a
    last_read O (read k ∷ h) l K q a = last_read O h l K q a
    last_read O (finish u v ∷ h) l K q a = last_read O h l K q a

module _ {Val : Type 0} (T : Table Val) (may : Policy Val) (L : Lawful T) (F : Fair T may) (order : List ℕ) (O : Order T order) where
  -- the reads of a history's run are the closed form's, with the outputs of the history: those of unfinished runs are missing
  run_closed : (h : List (Event Val)) → AllPossible T may h → zero_run T order h ≡ closed T (output h) order (sets h)
  run_closed h P = (carried_closed T (output h) L order O (sets h) (sets_known T may h P)).log

  -- a read reads what is due, in the run of all that happened by any later time
  read_due : {H : List (Event Val)} (h : List (Event Val)) (l : ℕ) → AllPossible T may (read l ∷ h) → Goes h H → AllPossible T may H
      → find l (arrivals h (T.reader l)) (zero_run T order H) ≡ due T h l
  unfolding AllPossible Possible
  read_due {H} h l P g Q =
      let (q, runs, turn) = P.0 in
      let arrived : 0 < arrivals h (T.reader l) = omega (arith, ltb-true (finishes h (T.reader l)) (starts h (T.reader l)) runs, counted T may h P.1 (T.reader l)) in
      ap (find l (arrivals h (T.reader l))) (run_closed H Q) ∙ find_more T (output H) order l g
      ∙ last_read T (output H) order O h l (sets_known T may h P.1) q arrived
      ∙ gives_due T l (finished_then T may L F h l P.1 q turn) g

  -- the reads of a part of the history, in the run of all of it
  dues_part : {H : List (Event Val)} (h : List (Event Val)) → AllPossible T may h → Goes h H → AllPossible T may H → dues T h ≡ looked T (zero_run T order H) h
  unfolding dues looked AllPossible
  dues_part [] P g Q = refl
  dues_part (arrival m ∷ h) P g Q = dues_part h P.1 (onward (arrival m) g) Q
  dues_part (start t ∷ h) P g Q = dues_part h P.1 (onward (start t) g) Q
  dues_part (read l ∷ h) P g Q = cc (read_due h l P (onward (read l) g) Q, dues_part h P.1 (onward (read l) g) Q)
  dues_part (finish t v ∷ h) P g Q = dues_part h P.1 (onward (finish t v) g) Q

  -- the closed form gives what is read in the run where tasks take no time: numbers, and none is missing
  pub ideals_read : (h : List (Event Val)) → AllPossible T may h → theres (ideals T h) ≡ looked T (zero_run T order h) h
  ideals_read h P = ideals_there T may L F h P ∙ dues_part h P same P

  -- and whatever the runs give, if only each gives something, no run there asks for an output that is not there yet
  pub never_missing : (out : ℕ → ℕ → Given Val) → ((w k : ℕ) → out w k ≢ missing) → (h : List (Event Val)) → AllPossible T may h → AllThere (carried T out order (sets h)).log
  never_missing out known h P = always_there T out known L order O (sets h) (sets_known T may h P)
