-- Demand 2, ranges: positions and pointers stay in range in every run with a free choice, an active reader's pointers are there, and those of an inactive one from writers ahead are absent;
-- what is seen of arrivals is the history's, and the marks are where the history settled on start values.
-- Assumes nothing.
use mathlib.Core.Path.{◌≡◌, refl, sym, ◌∙◌}
use mathlib.Core.Bool.{Bool, true, false, ◌&&◌, true≢false}
use mathlib.Core.List.{List, [], ◌∷◌}
use Prim.Native.Nat.{ℕ, suc, ◌+◌, ◌≤◌, ◌<◌, min}
use native.Mathlib.Omega.{arith}
use native.Mathlib.Decide.{ℕ_discrete, dec_le}
use borrow.Author.Tests.{le-ltb, lt-ltb, le-leb}
use lib.Dec.{ltb, leb}
use Rattle.lists.proofs.Bools.{cond_small}
use Rattle.protocol.specs.Event.{Event, arrival, start, read, finish, has}
use Rattle.protocol.specs.Table.{Table, marked, N, behind, marks}
use Rattle.protocol.specs.History.{arrivals, finishes, active, up_to}
use Rattle.protocol.specs.ZeroTime.{had}
use Rattle.protocol.specs.Schedule.{Policy, Possible, AllPossible}
use Rattle.protocol.specs.Published.{Boxes, Fresh, Free, Arrived, leaves, Finished, Step, Run, fresh, next}
use Rattle.protocol.specs.Ranges.{Position, Ranged}
use Rattle.protocol.proofs.Counts.{arrivals_in_lem, arrivals_out, up_to_in, up_to_out, finishes_same, finishes_other}
use Rattle.protocol.proofs.Effects.{previous_in_lem, previous_out, seen_in, seen_out, pointer_direct, pointer_delayed, pointer_out, mark_in_lem, mark_out, pointer_other, pointer_gone}
use Rattle.protocol.proofs.Invariant.{Bounded, bounded, unfinished}

-- a count that stops at two tells whether it is fewer than two
fewer_seen : (n : ℕ) → ltb (min 2 n) 2 ≡ ltb n 2
fewer_seen n = go (dec_le 2 n)
  where
    go : Dec (2 ≤ n) → ltb (min 2 n) 2 ≡ ltb n 2
    go (yes q) = le-ltb (min 2 n) 2 (omega arith) ∙ sym (le-ltb n 2 q)
    go (no q) = lt-ltb (min 2 n) 2 (omega arith) ∙ sym (lt-ltb n 2 (omega arith))

-- so it tells whether a link is marked
marked_seen : (b : Bool) (n : ℕ) → marked b (min 2 n) ≡ marked b n
marked_seen true n = fewer_seen n
marked_seen false n = refl

module _ {Val : Type 0} (T : Table Val) where
  -- what it says of link l, by whether the reader is active, and the pointer p
  abbrev Pointed : ℕ → Bool → ℕ → Type 0
  Pointed l a p = (p ≤ N T (T.writer l) + 2) × (a ≡ true → 1 ≤ p) × (behind T l ≡ true → a ≡ false → p ≡ 0)

  -- it says that of every link
  links_of_lem : {h : List (Event Val)} {s : Boxes Val} → Ranged T h s → (l : ℕ) → l < T.links → Pointed l (active h (T.reader l)) (s.pointer l)
  links_of_lem R l k = (R.pointer l k, R.present l k, R.absent l k)

  -- and what it says of a link besides is its mark
  ranged_of : {h : List (Event Val)} {s : Boxes Val} → ((t : ℕ) → Position T t (s.newest t)) → ((t : ℕ) → Position T t (s.previous t))
      → ((l : ℕ) → l < T.links → Pointed l (active h (T.reader l)) (s.pointer l)) → ((t : ℕ) → s.seen t ≡ min 2 (arrivals h t))
      → ((l : ℕ) → l < T.links → s.mark l ≡ (leb 1 (s.pointer l) && marks T l (had T h l))) → Ranged T h s
  ranged_of n p q u m = record { newest = n; previous = p; pointer = λ l k. (q l k).0; present = λ l k. (q l k).1; absent = λ l k. (q l k).2; seen = u; mark = m }

  -- at the beginning
  ranged_fresh : {s : Boxes Val} → Fresh T s → Ranged T [] s
  unfolding arrivals finishes
  ranged_fresh f = record {
    newest = λ t. rw (f.newest t) (omega arith);
    previous = λ t. rw (f.previous t) (omega arith);
    pointer = λ l k. rw (f.pointer l) (omega arith);
    present = λ l k a. absurd (true≢false (sym a ∙ le-ltb 0 0 (omega arith)));
    absent = λ l k b a. f.pointer l;
    seen = f.seen;
    mark = λ l k. rw (f.mark l, f.pointer l);
  }

  -- an event that leaves the boxes, the active tasks and the arrivals
  ranged_quiet : {h h' : List (Event Val)} {s : Boxes Val} → ((t : ℕ) → active h' t ≡ active h t) → ((t : ℕ) → arrivals h' t ≡ arrivals h t)
      → ((t : ℕ) → up_to h' t ≡ up_to h t) → Ranged T h s → Ranged T h' s
  ranged_quiet e a u R =
      ranged_of R.newest R.previous (λ l k. rw (e (T.reader l)) (links_of_lem R l k)) (λ t. rw (a t) (R.seen t)) (λ l k. rw (u (T.reader l)) (R.mark l k))

  -- an arrival
  module _ {s s' : Boxes Val} {m : ℕ} (A : Arrived T (Free T) m s s') where
    -- newest stays a position
    newest_arrive : (t : ℕ) → Position T t (s.newest t) → Position T t (s'.newest t)
    newest_arrive t i = go (has m t) refl
      where
        go : (b : Bool) → has m t ≡ b → Position T t (s'.newest t)
        go true e = ((A.chosen t e).low, (A.chosen t e).high)
        go false e = rw (A.kept t e) i

    -- previous stays a position
    previous_arrive : (t : ℕ) → Position T t (s.newest t) → Position T t (s.previous t) → Position T t (s'.previous t)
    previous_arrive t n i = go (has m t) refl
      where
        go : (b : Bool) → has m t ≡ b → Position T t (s'.previous t)
        go true e = rw (previous_in_lem T A t e) n
        go false e = rw (previous_out T A t e) i

    -- an arriving reader's pointer is a position of the writer
    pointer_in_lem : (l : ℕ) → l < T.links → has m (T.reader l) ≡ true → Position T (T.writer l) (s'.newest (T.writer l)) → Position T (T.writer l) (s'.previous (T.writer l))
        → Position T (T.writer l) (s'.pointer l)
    pointer_in_lem l k e n i = go (T.delayed l) refl
      where
        go : (b : Bool) → T.delayed l ≡ b → Position T (T.writer l) (s'.pointer l)
        go true d = rw (pointer_delayed T A l k e d) i
        go false d = rw (pointer_direct T A l k e d) n

    -- so an arrival keeps all in range
    ranged_arrive : {h : List (Event Val)} → Bounded h → Ranged T h s → Ranged T (arrival m ∷ h) s'
    unfolding finishes
    ranged_arrive {h} B R = ranged_of newest previous (λ l k. link l k (has m (T.reader l)) refl) (λ t. seen t (has m t) refl) (λ l k. mark l k (has m (T.reader l)) refl)
      where
        newest : (t : ℕ) → Position T t (s'.newest t)
        newest t = newest_arrive t (R.newest t)

        previous : (t : ℕ) → Position T t (s'.previous t)
        previous t = previous_arrive t (R.newest t) (R.previous t)

        link : (l : ℕ) → l < T.links → (b : Bool) → has m (T.reader l) ≡ b → Pointed l (active (arrival m ∷ h) (T.reader l)) (s'.pointer l)
        link l k true e =
            let a : active (arrival m ∷ h) (T.reader l) ≡ true = rw (arrivals_in_lem h m (T.reader l) e) (lt-ltb (finishes h (T.reader l)) (suc (arrivals h (T.reader l))) (omega (arith, B (T.reader l)))) in
            let p : Position T (T.writer l) (s'.pointer l) = pointer_in_lem l k e (newest (T.writer l)) (previous (T.writer l)) in
            rw a (p.1, λ x. p.0, λ b x. absurd (true≢false x))
        link l k false e = rw (arrivals_out h m (T.reader l) e, pointer_out T A l e) (links_of_lem R l k)

        seen : (t : ℕ) → (b : Bool) → has m t ≡ b → s'.seen t ≡ min 2 (arrivals (arrival m ∷ h) t)
        seen t true e = rw (seen_in T A t e, arrivals_in_lem h m t e) (omega (arith, R.seen t))
        seen t false e = rw (seen_out T A t e, arrivals_out h m t e) (R.seen t)

        mark : (l : ℕ) → l < T.links → (b : Bool) → has m (T.reader l) ≡ b → s'.mark l ≡ (leb 1 (s'.pointer l) && marks T l (had T (arrival m ∷ h) l))
        mark l k true e =
            let p : Position T (T.writer l) (s'.pointer l) = pointer_in_lem l k e (newest (T.writer l)) (previous (T.writer l)) in
            mark_in_lem T A l k e
            ∙ rw (seen (T.writer l) (has m (T.writer l)) refl, le-leb 1 (s'.pointer l) p.0, up_to_in h m (T.reader l) e)
            (marked_seen (T.delayed l) (arrivals (arrival m ∷ h) (T.writer l)))
        mark l k false e = rw (mark_out T A l e, pointer_out T A l e, up_to_out h m (T.reader l) e) (R.mark l k)

  -- a finish of task t, which was active
  ranged_finish : {h : List (Event Val)} {s s' : Boxes Val} {t : ℕ} {v : Val} → Finished T t v s s' → arrivals h t ≡ suc (finishes h t) → Ranged T h s → Ranged T (finish t v ∷ h) s'
  unfolding arrivals up_to
  ranged_finish {h} {s} {s'} {t} {v} F c R =
      ranged_of (λ u. rw (F.newest u) (R.newest u)) (λ u. rw (F.previous u) (R.previous u)) (λ l k. link l k (ℕ_discrete (T.reader l) t))
      (λ u. rw (F.seen u) (R.seen u)) (λ l k. mark l k (leaves T t l) refl)
    where
      link : (l : ℕ) → l < T.links → Dec (T.reader l ≡ t) → Pointed l (active (finish t v ∷ h) (T.reader l)) (s'.pointer l)
      link l k (yes e) =
          let a : active (finish t v ∷ h) (T.reader l) ≡ false = rw e (le-ltb (finishes (finish t v ∷ h) t) (arrivals h t) (omega (arith, finishes_same h t v))) in
          rw a (rw (F.pointer l) (cond_small (leaves T t l) (omega arith) (R.pointer l k)), λ x. absurd (true≢false (sym x)), λ b x. pointer_gone T F l k e b)
      link l k (no n) = rw (finishes_other h t (T.reader l) v (λ x. n (sym x)), pointer_other T F l n) (links_of_lem R l k)

      -- the mark goes where the pointer does
      mark : (l : ℕ) → l < T.links → (b : Bool) → leaves T t l ≡ b → s'.mark l ≡ (leb 1 (s'.pointer l) && marks T l (had T h l))
      mark l k true e = rw (F.mark l, F.pointer l, e)
      mark l k false e = rw (F.mark l, F.pointer l, e) (R.mark l k)

  module _ (may : Policy Val) where
    -- in range after every run over a possible history
    pub ranged : {s : Boxes Val} {h : List (Event Val)} → Run T (Free T) s h → AllPossible T may h → Ranged T h s
    unfolding Step AllPossible Possible arrivals finishes up_to
    ranged (fresh f) P = ranged_fresh f
    ranged (next {h = h} (arrival m) r A) P = ranged_arrive A (bounded T may h P.1) (ranged r P.1)
    ranged (next (start t) r e) P = rw e (ranged_quiet (λ u. refl) (λ u. refl) (λ u. refl) (ranged r P.1))
    ranged (next (read l) r e) P = rw e (ranged_quiet (λ u. refl) (λ u. refl) (λ u. refl) (ranged r P.1))
    ranged (next {h = h} (finish t v) r F) P = ranged_finish F (unfinished T may h P.1 t P.0.1) (ranged r P.1)
