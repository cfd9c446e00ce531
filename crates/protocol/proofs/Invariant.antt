-- What holds of the boxes after every run of the protocol, for any free choice and any fair policy: each event keeps it.
-- It says what stands at the positions of each task and, while a link's reader is active, what stands or will stand at the link's pointer.
-- Assumes nothing.
use mathlib.Core.Path.{◌≡◌, refl, sym, ap, ◌∙◌}
use mathlib.Core.Logic.{◌≢◌, ◌⊎◌, inl, inr}
use mathlib.Core.Bool.{Bool, true, false, cond, true≢false}
use mathlib.Core.List.{List, [], ◌∷◌}
use Prim.Native.Nat.{ℕ, suc, pred, ◌≤◌, ◌<◌}
use native.Mathlib.Omega.{arith}
use native.Mathlib.Decide.{ℕ_discrete, dec_le}
use borrow.Author.Tests.{ltb-true, ltb-false, lt-ltb, ne_eqb}
use lib.Dec.{eqb}
use Rattle.protocol.specs.Given.{Given, there}
use Rattle.protocol.specs.Event.{Event, arrival, start, read, finish, has}
use Rattle.protocol.specs.Table.{Table, behind, Lawful}
use Rattle.protocol.specs.History.{arrivals, starts, finishes, running, up_to, output, stamp}
use Rattle.protocol.specs.Schedule.{Policy, Turn, Fair, Possible, AllPossible}
use Rattle.protocol.specs.ZeroTime.{run_of, had, wanted}
use Rattle.protocol.specs.Published.{Boxes, Fresh, Free, Arrived, Finished, Step, Run, fresh, next}
use Rattle.protocol.proofs.Counts.{arrivals_in_lem, arrivals_out, up_to_in, up_to_out, finishes_same, finishes_other, output_new, output_old, output_other, arrivals_up_to, stamp_clock, stamp_in}
use Rattle.protocol.proofs.Schedule.{counted}
use Rattle.protocol.proofs.Effects.{previous_in_lem, previous_out, pointer_direct, pointer_delayed, pointer_out, cell_new, cell_same, cell_other, pointer_other}

-- a delayed link gives the run before the last
run_of_delayed : (n : ℕ) → run_of true n ≡ pred n
run_of_delayed n = refl

-- a direct link gives the last
run_of_direct : (n : ℕ) → run_of false n ≡ n
run_of_direct n = refl

-- no run later than the last is asked for
run_of_le : (b : Bool) (n : ℕ) → run_of b n ≤ n
run_of_le true n = let q : pred n ≤ n = omega arith in q
run_of_le false n = let q : n ≤ n = omega arith in q

module _ {Val : Type 0} where
  -- task t is active, as a statement on numbers
  abbrev Active : List (Event Val) → ℕ → Type 0
  Active h t = finishes h t < arrivals h t

  -- each task has finished as often as it arrived, or once less
  abbrev pub Bounded : List (Event Val) → Type 0
  Bounded h = (t : ℕ) → (finishes h t ≤ arrivals h t) × (arrivals h t ≤ suc (finishes h t))

  module _ (T : Table Val) (may : Policy Val) (h : List (Event Val)) (P : AllPossible T may h) where
    -- so it is after every possible history
    pub bounded : Bounded h
    bounded t = omega (arith, counted T may h P t)

    -- a running task has not finished its last run
    pub unfinished : (t : ℕ) → running h t ≡ true → arrivals h t ≡ suc (finishes h t)
    unfinished t q = omega (arith, ltb-true (finishes h t) (starts h t) q, counted T may h P t)

module _ {Val : Type 0} (T : Table Val) where
  -- what is stored of task t's run number k: its output, and for number 0, before the first run, the default
  abbrev pub stored : List (Event Val) → ℕ → ℕ → Given Val
  stored h t k = cond (eqb k 0) (there (T.default t)) (output h t k)

  -- a finish stores its value
  stored_new : (h : List (Event Val)) (t : ℕ) (v : Val) → stored (finish t v ∷ h) t (suc (finishes h t)) ≡ there v
  stored_new h t v = rw (ne_eqb (suc (finishes h t)) 0 (λ e. omega arith), output_new h t v)

  -- the value at a task's previous position is that of the run before the last; at its newest that of the last, once finished; and while it is active the two are apart
  pub record TaskOk (h : List (Event Val)) (s : Boxes Val) (t : ℕ) : Type 0 where
    pub before : there (s.cell t (s.previous t)) ≡ stored h t (pred (arrivals h t))
    pub latest : arrivals h t ≡ finishes h t → there (s.cell t (s.newest t)) ≡ stored h t (arrivals h t)
    pub apart : Active h t → s.newest t ≢ s.previous t

  -- link l, while its reader is active
  pub record LinkOk (h : List (Event Val)) (s : Boxes Val) (l : ℕ) : Type 0 where
    -- the run wanted is finished: the pointer has its output
    pub have : wanted T h l ≤ finishes h (T.writer l) → there (s.cell (T.writer l) (s.pointer l)) ≡ stored h (T.writer l) (wanted T h l)
    -- it is not: the pointer is where it will go
    pub wait : finishes h (T.writer l) < wanted T h l → s.pointer l ≡ s.newest (T.writer l)
    -- what the writer is about to write at the pointer is the run wanted, or the reader goes first
    pub guard : Active h (T.writer l) → s.pointer l ≡ s.newest (T.writer l)
        → (wanted T h l ≡ arrivals h (T.writer l)) ⊎ ((T.ahead (T.reader l) (T.writer l) ≡ true) × (stamp h (T.reader l) ≤ stamp h (T.writer l)))

  -- both, of every task and of every link
  pub record Inv (h : List (Event Val)) (s : Boxes Val) : Type 0 where
    pub tasks : (t : ℕ) → TaskOk h s t
    pub links : (l : ℕ) → l < T.links → Active h (T.reader l) → LinkOk h s l

  -- an arrival of others leaves what link l's reader settled on
  wanted_out : (h : List (Event Val)) (m l : ℕ) → has m (T.reader l) ≡ false → wanted T (arrival m ∷ h) l ≡ wanted T h l
  wanted_out h m l e = ap (λ g. run_of (T.delayed l) (arrivals g (T.writer l))) (up_to_out h m (T.reader l) e)

  -- the run wanted has arrived
  wanted_le : (h : List (Event Val)) (l : ℕ) → wanted T h l ≤ arrivals h (T.writer l)
  wanted_le h l = omega (arith, run_of_le (T.delayed l) (had T h l), arrivals_up_to h (T.reader l) (T.writer l))

  -- at the beginning
  inv_fresh : {s : Boxes Val} → Fresh T s → Inv [] s
  unfolding arrivals finishes output
  inv_fresh f = record {
    tasks = λ t. record { before = ap there (f.cell t _); latest = λ q. ap there (f.cell t _); apart = λ q. absurd (omega arith) };
    links = λ l k q. absurd (omega arith);
  }

  -- an arrival, after which B holds, of a set of tasks that had all finished
  module _ {h : List (Event Val)} {s s' : Boxes Val} {m : ℕ} (A : Arrived T (Free T) m s s') (done : (t : ℕ) → has m t ≡ true → arrivals h t ≡ finishes h t) (B : Bounded (arrival m ∷ h)) where
    -- a task that arrives
    task_in : (t : ℕ) → has m t ≡ true → TaskOk h s t → TaskOk (arrival m ∷ h) s' t
    unfolding finishes output
    task_in t e k =
        let a : arrivals (arrival m ∷ h) t ≡ suc (arrivals h t) = arrivals_in_lem h m t e in
        record {
          before = rw (A.cell t (s'.previous t), previous_in_lem T A t e, a) (k.latest (done t e));
          latest = λ q. absurd (omega (arith, done t e));
          apart = λ q. rw (previous_in_lem T A t e) (A.chosen t e).apart;
        }

    -- one that does not
    task_out : (t : ℕ) → has m t ≡ false → TaskOk h s t → TaskOk (arrival m ∷ h) s' t
    unfolding finishes output
    task_out t e k =
        let a : arrivals (arrival m ∷ h) t ≡ arrivals h t = arrivals_out h m t e in
        record {
          before = rw (A.cell t (s'.previous t), previous_out T A t e, a) k.before;
          latest = rw (A.cell t (s'.newest t), A.kept t e, a) k.latest;
          apart = rw (previous_out T A t e, A.kept t e, a) k.apart;
        }

    -- so any task
    task_arrive : (t : ℕ) → TaskOk h s t → TaskOk (arrival m ∷ h) s' t
    task_arrive t k = go (has m t) refl
      where
        go : (b : Bool) → has m t ≡ b → TaskOk (arrival m ∷ h) s' t
        go true e = task_in t e k
        go false e = task_out t e k

    -- the reader arrives: its pointer is set, after the writers' part
    link_direct : (l : ℕ) → l < T.links → T.delayed l ≡ false → has m (T.reader l) ≡ true → TaskOk (arrival m ∷ h) s' (T.writer l) → LinkOk (arrival m ∷ h) s' l
    link_direct l k d e w =
        let u : wanted T (arrival m ∷ h) l ≡ arrivals (arrival m ∷ h) (T.writer l) = rw (d, up_to_in h m (T.reader l) e) (run_of_direct (arrivals (arrival m ∷ h) (T.writer l))) in
        let p : s'.pointer l ≡ s'.newest (T.writer l) = pointer_direct T A l k e d in
        record {
          have = rw (u, p) (λ q. w.latest (omega (arith, B (T.writer l))));
          wait = λ q. p;
          guard = λ q n. inl u;
        }

    -- the same for a delayed link
    link_delayed : (l : ℕ) → l < T.links → T.delayed l ≡ true → has m (T.reader l) ≡ true → TaskOk (arrival m ∷ h) s' (T.writer l) → LinkOk (arrival m ∷ h) s' l
    link_delayed l k d e w =
        let u : wanted T (arrival m ∷ h) l ≡ pred (arrivals (arrival m ∷ h) (T.writer l)) = rw (d, up_to_in h m (T.reader l) e) (run_of_delayed (arrivals (arrival m ∷ h) (T.writer l))) in
        let p : s'.pointer l ≡ s'.previous (T.writer l) = pointer_delayed T A l k e d in
        record {
          have = rw (u, p) (λ q. w.before);
          wait = λ q. absurd (omega (arith, B (T.writer l)));
          guard = λ q n. absurd (w.apart q (sym n ∙ p));
        }

    -- the reader does not arrive, its writer does
    link_writer : (l : ℕ) → l < T.links → Lawful T → has m (T.reader l) ≡ false → has m (T.writer l) ≡ true → LinkOk h s l → LinkOk (arrival m ∷ h) s' l
    unfolding finishes output
    link_writer l k L e f o =
        let u : wanted T (arrival m ∷ h) l ≡ wanted T h l = wanted_out h m l e in
        let p : s'.pointer l ≡ s.pointer l = pointer_out T A l e in
        record {
          have = rw (u, p, A.cell (T.writer l) (s.pointer l)) o.have;
          wait = rw u (λ q. absurd (omega (arith, wanted_le h l, done (T.writer l) f)));
          guard = λ q n. inr (go (behind T l) refl (sym n ∙ p));
        }
      where
        other : T.reader l ≢ T.writer l
        other r = let z : true ≡ false = cc in true≢false z

        go : (b : Bool) → behind T l ≡ b → s'.newest (T.writer l) ≡ s.pointer l
            → (T.ahead (T.reader l) (T.writer l) ≡ true) × (stamp (arrival m ∷ h) (T.reader l) ≤ stamp (arrival m ∷ h) (T.writer l))
        go true b n = absurd ((A.chosen (T.writer l) f).unused l k refl b n)
        go false b n = (L.other l k b other, rw (up_to_out h m (T.reader l) e, stamp_in h m (T.writer l) f) (omega (arith, stamp_clock h (T.reader l))))

    -- neither arrives
    link_neither : (l : ℕ) → has m (T.reader l) ≡ false → has m (T.writer l) ≡ false → LinkOk h s l → LinkOk (arrival m ∷ h) s' l
    unfolding finishes output
    link_neither l e f o =
        let a : arrivals (arrival m ∷ h) (T.writer l) ≡ arrivals h (T.writer l) = arrivals_out h m (T.writer l) f in
        let u : wanted T (arrival m ∷ h) l ≡ wanted T h l = wanted_out h m l e in
        let p : s'.pointer l ≡ s.pointer l = pointer_out T A l e in
        let n : s'.newest (T.writer l) ≡ s.newest (T.writer l) = A.kept (T.writer l) f in
        record {
          have = rw (u, p, A.cell (T.writer l) (s.pointer l)) o.have;
          wait = rw (u, p, n) o.wait;
          guard = rw (u, p, n, a, up_to_out h m (T.reader l) e, up_to_out h m (T.writer l) f) o.guard;
        }

    -- so any link whose reader is then active
    link_arrive : (l : ℕ) → l < T.links → Lawful T → TaskOk h s (T.writer l) → (Active h (T.reader l) → LinkOk h s l) → Active (arrival m ∷ h) (T.reader l) → LinkOk (arrival m ∷ h) s' l
    unfolding finishes
    link_arrive l k L w o q = go (has m (T.reader l)) refl (T.delayed l) refl (has m (T.writer l)) refl
      where
        w' : TaskOk (arrival m ∷ h) s' (T.writer l)
        w' = task_arrive (T.writer l) w

        go : (x : Bool) → has m (T.reader l) ≡ x → (y : Bool) → T.delayed l ≡ y → (z : Bool) → has m (T.writer l) ≡ z → LinkOk (arrival m ∷ h) s' l
        go true e true d z f = link_delayed l k d e w'
        go true e false d z f = link_direct l k d e w'
        go false e y d true f = link_writer l k L e f (o (rw (arrivals_out h m (T.reader l) e) at q))
        go false e y d false f = link_neither l e f (o (rw (arrivals_out h m (T.reader l) e) at q))

    -- so an arrival keeps the invariant
    inv_arrive : Lawful T → Inv h s → Inv (arrival m ∷ h) s'
    inv_arrive L i = record {
      tasks = λ t. task_arrive t (i.tasks t);
      links = λ l k. link_arrive l k L (i.tasks (T.writer l)) (i.links l k);
    }

  -- an event that is neither an arrival nor a finish
  inv_quiet : {h h' : List (Event Val)} {s : Boxes Val} → ((t : ℕ) → arrivals h' t ≡ arrivals h t) → ((t : ℕ) → finishes h' t ≡ finishes h t)
      → ((t : ℕ) → up_to h' t ≡ up_to h t) → ((w k : ℕ) → output h' w k ≡ output h w k) → Inv h s → Inv h' s
  inv_quiet {h} {h'} {s} a f u o i = record {
    tasks = λ t. record {
      before = rw (o t (pred (arrivals h' t)), a t) (i.tasks t).before;
      latest = rw (o t (arrivals h' t), a t, f t) (i.tasks t).latest;
      apart = rw (a t, f t) (i.tasks t).apart;
    };
    links = λ l k q. link l (i.links l k (rw (a (T.reader l), f (T.reader l)) at q));
  }
    where
      link : (l : ℕ) → LinkOk h s l → LinkOk h' s l
      link l x = record {
        have = rw (o (T.writer l) (wanted T h' l), u (T.reader l), f (T.writer l)) x.have;
        wait = rw (u (T.reader l), f (T.writer l)) x.wait;
        guard = rw (u (T.reader l), u (T.writer l), a (T.writer l), f (T.writer l)) x.guard;
      }

  -- a link whose writer finishes, in its turn
  link_finish_writer : {h : List (Event Val)} {s s' : Boxes Val} {v : Val} (l : ℕ) → T.reader l < T.tasks → Finished T (T.writer l) v s s'
      → arrivals h (T.writer l) ≡ suc (finishes h (T.writer l)) → T.reader l ≢ T.writer l → Turn T h (T.writer l) → Active h (T.reader l)
      → LinkOk h s l → LinkOk (finish (T.writer l) v ∷ h) s' l
  unfolding arrivals up_to
  link_finish_writer {h} {s} {s'} {v} l k F c n turn q o =
      let f : finishes (finish (T.writer l) v ∷ h) (T.writer l) ≡ suc (finishes h (T.writer l)) = finishes_same h (T.writer l) v in
      record {
        have = λ x. rw (pointer_other T F l n) (go (ℕ_discrete (s.pointer l) (s.newest (T.writer l))));
        wait = λ x. absurd (omega (arith, wanted_le h l));
        guard = λ x. absurd (omega arith);
      }
    where
      -- the output that link l is to read, after the finish
      due : Given Val
      due = stored (finish (T.writer l) v ∷ h) (T.writer l) (wanted T h l)

      -- the writer writes at the pointer
      at : (wanted T h l ≡ arrivals h (T.writer l)) ⊎ ((T.ahead (T.reader l) (T.writer l) ≡ true) × (stamp h (T.reader l) ≤ stamp h (T.writer l))) → there v ≡ due
      at (inl e) = rw (e, c, stored_new h (T.writer l) v)
      at (inr b) = absurd (turn (T.reader l) k b.0 (lt-ltb _ _ q) b.1)

      -- it writes elsewhere
      off : s.pointer l ≢ s.newest (T.writer l) → Dec (wanted T h l ≤ finishes h (T.writer l)) → there (s.cell (T.writer l) (s.pointer l)) ≡ due
      off e (yes d) = rw (output_old h (T.writer l) v (wanted T h l) d) (o.have d)
      off e (no d) = absurd (e (o.wait (omega arith)))

      go : Dec (s.pointer l ≡ s.newest (T.writer l)) → there (s'.cell (T.writer l) (s.pointer l)) ≡ due
      go (yes e) = rw (e, cell_new T F) (at (o.guard (omega arith) e))
      go (no e) = rw (cell_same T F (s.pointer l) e) (off e (dec_le (wanted T h l) (finishes h (T.writer l))))

  -- a finish of task t, which was active
  module _ {h : List (Event Val)} {s s' : Boxes Val} {t : ℕ} {v : Val} (F : Finished T t v s s') (c : arrivals h t ≡ suc (finishes h t)) where
    -- the task itself
    task_finish_same : TaskOk h s t → TaskOk (finish t v ∷ h) s' t
    unfolding arrivals
    task_finish_same k =
        let f : finishes (finish t v ∷ h) t ≡ suc (finishes h t) = finishes_same h t v in
        record {
          before = rw (F.previous t, cell_same T F (s.previous t) (λ e. k.apart (omega arith) (sym e)), output_old h t v (pred (arrivals h t)) (omega arith)) k.before;
          latest = λ q. rw (F.newest t, cell_new T F, c, stored_new h t v);
          apart = λ q. absurd (omega arith);
        }

    -- another task
    task_finish_other : (u : ℕ) → u ≢ t → TaskOk h s u → TaskOk (finish t v ∷ h) s' u
    unfolding arrivals
    task_finish_other u n k =
        let f : finishes (finish t v ∷ h) u ≡ finishes h u = finishes_other h t u v (λ x. n (sym x)) in
        record {
          before = rw (cell_other T F u (s'.previous u) n, F.previous u, output_other h t u v (pred (arrivals h u)) (λ x. n (sym x))) k.before;
          latest = rw (f, cell_other T F u (s'.newest u) n, F.newest u, output_other h t u v (arrivals h u) (λ x. n (sym x))) k.latest;
          apart = rw (f, F.newest u, F.previous u) k.apart;
        }

    -- so any task
    task_finish : (u : ℕ) → TaskOk h s u → TaskOk (finish t v ∷ h) s' u
    task_finish u k = go (ℕ_discrete u t)
      where
        go : Dec (u ≡ t) → TaskOk (finish t v ∷ h) s' u
        go (yes e) = rw e (task_finish_same (rw e at k))
        go (no n) = task_finish_other u n k

    -- a link of which t is neither the writer nor the reader
    link_finish_other : (l : ℕ) → T.reader l ≢ t → T.writer l ≢ t → LinkOk h s l → LinkOk (finish t v ∷ h) s' l
    unfolding arrivals up_to
    link_finish_other l nr nw o =
        let f : finishes (finish t v ∷ h) (T.writer l) ≡ finishes h (T.writer l) = finishes_other h t (T.writer l) v (λ x. nw (sym x)) in
        let p : s'.pointer l ≡ s.pointer l = pointer_other T F l nr in
        record {
          have = rw (f, p, cell_other T F (T.writer l) (s.pointer l) nw, output_other h t (T.writer l) v (wanted T h l) (λ x. nw (sym x))) o.have;
          wait = rw (f, p, F.newest (T.writer l)) o.wait;
          guard = rw (f, p, F.newest (T.writer l)) o.guard;
        }

    -- so any link whose reader is then active
    link_finish : (l : ℕ) → T.reader l < T.tasks → Turn T h t → (Active h (T.reader l) → LinkOk h s l) → Active (finish t v ∷ h) (T.reader l) → LinkOk (finish t v ∷ h) s' l
    unfolding arrivals
    link_finish l k turn o q = go (ℕ_discrete (T.writer l) t)
      where
        -- an active reader is not the one that finished
        n : T.reader l ≢ t
        n e = omega (arith, finishes_same h t v, rw e at q)

        a : Active h (T.reader l)
        a = rw (finishes_other h t (T.reader l) v (λ x. n (sym x))) at q

        go : Dec (T.writer l ≡ t) → LinkOk (finish t v ∷ h) s' l
        go (yes e) = rw (← e) (link_finish_writer l k (rw (← e) at F) (rw (← e) at c) (rw (← e) at n) (rw (← e) at turn) a (o a))
        go (no w) = link_finish_other l n w (o a)

    -- so a finish keeps the invariant
    inv_finish : Lawful T → Turn T h t → Inv h s → Inv (finish t v ∷ h) s'
    inv_finish L turn i = record { tasks = λ u. task_finish u (i.tasks u); links = λ l k. link_finish l (L.reader l k) turn (i.links l k) }

  module _ (may : Policy Val) (L : Lawful T) (fair : Fair T may) where
    -- it holds after every run over a possible history
    pub invariant : {s : Boxes Val} {h : List (Event Val)} → Run T (Free T) s h → AllPossible T may h → Inv h s
    unfolding Step AllPossible Possible arrivals finishes up_to output
    invariant (fresh f) P = inv_fresh f
    invariant (next {h = h} (arrival m) r A) P =
        inv_arrive A (λ t e. omega (arith, ltb-false (finishes h t) (arrivals h t) (P.0.2 t e), bounded T may h P.1 t)) (bounded T may (arrival m ∷ h) P) L (invariant r P.1)
    invariant (next (start t) r e) P = rw e (inv_quiet (λ t. refl) (λ t. refl) (λ t. refl) (λ w k. refl) (invariant r P.1))
    invariant (next (read l) r e) P = rw e (inv_quiet (λ t. refl) (λ t. refl) (λ t. refl) (λ w k. refl) (invariant r P.1))
    invariant (next {h = h} (finish t v) r F) P = inv_finish F (unfinished T may h P.1 t P.0.1) L (fair h t P.0.2) (invariant r P.1)
