-- Demand 3, in closed form: each number read is the one from the run where tasks take no time, and the output of an unfinished run is never read.
-- It holds for every table that is `Lawful`, every free choice, every policy that lets a task run in its turn only, and every type of value.
-- Assumes nothing.
use mathlib.Core.Path.{◌≡◌, refl, sym, ap, ◌∙◌}
use mathlib.Core.Logic.{◌≢◌}
use mathlib.Core.Bool.{Bool, true, false, cond}
use mathlib.Core.List.{List, [], ◌∷◌}
use Prim.Native.Nat.{ℕ, zero, suc, pred, ◌≤◌, ◌<◌}
use native.Mathlib.Omega.{arith}
use native.Mathlib.Decide.{dec_le}
use borrow.Author.Tests.{lt-ltb, le-ltb, le-leb, ne_eqb}
use lib.Dec.{eqb}
use lib.ListN.{length}
use Rattle.protocol.specs.Given.{Given, there, missing, values}
use Rattle.protocol.specs.Event.{Event, arrival, start, read, finish}
use Rattle.protocol.specs.Table.{Table, early, marked, start_of, marks, Lawful}
use Rattle.protocol.specs.History.{arrivals, finishes, reads, up_to, output}
use Rattle.protocol.specs.Schedule.{Policy, Fair, Possible, AllPossible}
use Rattle.protocol.specs.ZeroTime.{run_of, had, wanted, due, dues, ideals, Settled}
use Rattle.protocol.specs.Instant.{theres}
use Rattle.protocol.specs.Ranges.{Ranged}
use Rattle.protocol.specs.Published.{Boxes, Free, Choice, Lowest, OnlyFree, number, Step, Run, fresh, next, numbers}
use Rattle.protocol.proofs.Counts.{there_there, run_of_some, arrivals_up_to, stamp_seen, output_there}
use Rattle.protocol.proofs.Schedule.{counted}
use Rattle.protocol.proofs.Invariant.{unfinished, LinkOk, invariant}
use Rattle.protocol.proofs.Ranges.{ranged}

-- the values of outputs that are there
pub values_theres : {Val : Type 0} (vs : List Val) → values (theres vs) ≡ vs
unfolding values theres
values_theres [] = refl
values_theres (v ∷ vs) = ap (λ us. v ∷ us) (values_theres vs)

-- the lowest free position is a free one
pub lowest_only : {Val : Type 0} (T : Table Val) → OnlyFree T (Lowest T)
lowest_only T s t p c = c.free

module _ {Val : Type 0} (T : Table Val) where
  -- a run with one choice of positions is a run with any choice that allows more
  pub weaken : {choice choice' : Choice Val} → ((s : Boxes Val) (t p : ℕ) → choice s t p → choice' s t p)
      → {s : Boxes Val} {h : List (Event Val)} → Run T choice s h → Run T choice' s h
  unfolding Step
  weaken w (fresh f) = fresh f
  weaken w (next {s = s} {s' = s'} (arrival m) r A) =
      next (arrival m) (weaken w r) (record {
        previous = A.previous;
        chosen = λ t e. w s t (s'.newest t) (A.chosen t e);
        kept = A.kept;
        seen = A.seen;
        pointer = A.pointer;
        mark = A.mark;
        cell = A.cell;
      })
  weaken w (next (start t) r q) = next (start t) (weaken w r) q
  weaken w (next (read l) r q) = next (read l) (weaken w r) q
  weaken w (next (finish t v) r q) = next (finish t v) (weaken w r) q

  module _ (may : Policy Val) (L : Lawful T) (F : Fair T may) where
    -- what a link is to read is finished when its reader may run: were it not, the writer would be ahead, active, and arrived no later
    pub finished_then : (h : List (Event Val)) (l : ℕ) → AllPossible T may h → l < T.links → may h (T.reader l) ≡ true → wanted T h l ≤ finishes h (T.writer l)
    finished_then h l P q turn =
        go (T.delayed l) refl (dec_le seen_then_lem (finishes h (T.writer l))) (arrivals_up_to h (T.reader l) (T.writer l)) (counted T may h P (T.writer l)).2
      where
        seen_then_lem : ℕ
        seen_then_lem = arrivals (up_to h (T.reader l)) (T.writer l)

        go : (b : Bool) → T.delayed l ≡ b → Dec (seen_then_lem ≤ finishes h (T.writer l)) → seen_then_lem ≤ arrivals h (T.writer l) → arrivals h (T.writer l) ≤ suc (finishes h (T.writer l))
            → run_of b seen_then_lem ≤ finishes h (T.writer l)
        go true d x i j = let p : pred seen_then_lem ≤ finishes h (T.writer l) = omega arith in p
        go false d (yes x) i j = x
        go false d (no x) i j =
            absurd (F h (T.reader l) turn (T.writer l) (L.writer l q) (L.direct l q d) (lt-ltb (finishes h (T.writer l)) (arrivals h (T.writer l)) (omega arith))
            (stamp_seen h (T.reader l) (T.writer l) (omega arith)))

    -- so at each read of a possible history the run wanted had finished
    pub settled : (h : List (Event Val)) → AllPossible T may h → Settled T h
    unfolding Settled AllPossible Possible
    settled [] P = tt
    settled (arrival m ∷ h) P = settled h P.1
    settled (start t ∷ h) P = settled h P.1
    settled (read l ∷ h) P = (finished_then h l P.1 P.0.0 P.0.2, settled h P.1)
    settled (finish t v ∷ h) P = settled h P.1

    -- a link's number, by what stands at its pointer and whether it is marked: where the run wanted has finished, it is what is due
    number_due : {s : Boxes Val} {h : List (Event Val)} {l : ℕ} → LinkOk T h s l → s.mark l ≡ marks T l (had T h l) → wanted T h l ≤ finishes h (T.writer l)
        → there (number T s l) ≡ due T h l
    number_due {s} {h} {l} o m q = rw m (go (T.delayed l) (had T h l) (o.have q))
      where
        w : ℕ
        w = T.writer l

        x : Val
        x = s.cell w (s.pointer l)

        -- by the kind and by the writer's arrivals
        go : (b : Bool) (n : ℕ) → there x ≡ cond (eqb (run_of b n) 0) (there (T.default w)) (output h w (run_of b n))
            → there (cond (marked b n) (T.start_value l) x) ≡ cond (early b n) (there (cond b (T.start_value l) (T.default w))) (output h w (run_of b n))
        go true zero e = refl
        go true (suc zero) e = refl
        go true (suc (suc n)) e = rw (le-ltb (suc (suc n)) 2 (omega arith)) (rw (ne_eqb (suc n) 0 (λ z. omega arith)) at e)
        go false zero e = e
        go false (suc n) e = rw (le-ltb (suc n) 1 (omega arith)) (rw (ne_eqb (suc n) 0 (λ z. omega arith)) at e)

    module _ {choice : Choice Val} (free : OnlyFree T choice) where
      -- at each read: the number is the one due, and the run that made it is finished
      pub zero_time : {s : Boxes Val} {h : List (Event Val)} → Run T choice s h → AllPossible T may h → (l : ℕ) → Possible T may h (read l)
          → (there (number T s l) ≡ due T h l) × (wanted T h l ≤ finishes h (T.writer l))
      unfolding Possible
      zero_time {s} {h} r P l p =
          let d = finished_then h l P p.0 p.2 in
          let w : Run T (Free T) s h = weaken free r in
          let a : finishes h (T.reader l) < arrivals h (T.reader l) = omega (arith, unfinished T may h P (T.reader l) p.1) in
          let g : Ranged T h s = ranged T may w P in
          let m : s.mark l ≡ marks T l (had T h l) = g.mark l p.0 ∙ rw (le-leb 1 (s.pointer l) (g.present l p.0 (lt-ltb _ _ a))) in
          (number_due ((invariant T may L F w P).links l p.0 a) m d, d)

      -- all the numbers read are those due: none is missing
      pub numbers_due : {s : Boxes Val} {h : List (Event Val)} (r : Run T choice s h) → AllPossible T may h → theres (numbers T r) ≡ dues T h
      unfolding numbers dues theres AllPossible
      numbers_due (fresh f) P = refl
      numbers_due (next (arrival m) r q) P = numbers_due r P.1
      numbers_due (next (start t) r q) P = numbers_due r P.1
      numbers_due (next (read l) r q) P = rw ((zero_time r P.1 l P.0).0, numbers_due r P.1)
      numbers_due (next (finish t v) r q) P = numbers_due r P.1

      -- so they are the ideal ones
      pub numbers_ideal : {s : Boxes Val} {h : List (Event Val)} (r : Run T choice s h) → AllPossible T may h → numbers T r ≡ ideals T h
      numbers_ideal r P = sym (values_theres (numbers T r)) ∙ ap values (numbers_due r P)

-- one more that is there
there_more : {Val : Type 0} (g : Given Val) (gs : List (Given Val)) → g ≢ missing → theres (values gs) ≡ gs → theres (values (g ∷ gs)) ≡ g ∷ gs
unfolding values theres
there_more (there v) gs n i = ap (λ us. there v ∷ us) i
there_more missing gs n i = absurd (n refl)

-- as many as the values
length_theres : {Val : Type 0} (vs : List Val) → length (theres vs) ≡ length vs
unfolding theres
length_theres [] = refl
length_theres (v ∷ vs) = ap suc (length_theres vs)

-- one is due at each read
length_dues : {Val : Type 0} (T : Table Val) (h : List (Event Val)) → length (dues T h) ≡ reads h
unfolding dues reads
length_dues T [] = refl
length_dues T (arrival m ∷ h) = length_dues T h
length_dues T (start t ∷ h) = length_dues T h
length_dues T (read l ∷ h) = ap suc (length_dues T h)
length_dues T (finish t v ∷ h) = length_dues T h

-- what is due by link l is there once the run wanted has finished
due_there : {Val : Type 0} (T : Table Val) (h : List (Event Val)) (l : ℕ) → wanted T h l ≤ finishes h (T.writer l) → due T h l ≢ missing
due_there T h l q = go (early (T.delayed l) (had T h l)) refl
  where
    go : (b : Bool) → early (T.delayed l) (had T h l) ≡ b → cond b (there (start_of T l)) (output h (T.writer l) (wanted T h l)) ≢ missing
    go true e = there_there (start_of T l)
    go false e = output_there h (T.writer l) (wanted T h l) (run_of_some (T.delayed l) (had T h l) e) q

module _ {Val : Type 0} (T : Table Val) (may : Policy Val) (L : Lawful T) (F : Fair T may) where
  -- nothing due is missing: what is due is numbers
  pub ideals_there : (h : List (Event Val)) → AllPossible T may h → theres (ideals T h) ≡ dues T h
  unfolding dues AllPossible Possible values theres
  ideals_there [] P = refl
  ideals_there (arrival m ∷ h) P = ideals_there h P.1
  ideals_there (start t ∷ h) P = ideals_there h P.1
  ideals_there (read l ∷ h) P = there_more (due T h l) (dues T h) (due_there T h l (finished_then T may L F h l P.1 P.0.0 P.0.2)) (ideals_there h P.1)
  ideals_there (finish t v ∷ h) P = ideals_there h P.1

  -- one for each read
  pub ideals_count : (h : List (Event Val)) → AllPossible T may h → length (ideals T h) ≡ reads h
  ideals_count h P = sym (length_theres (ideals T h)) ∙ ap length (ideals_there h P) ∙ length_dues T h
