-- The run where tasks take no time reads what the closed form says; where every run's output is known, it never asks for one that is not there.
-- Assumes nothing.
use mathlib.Core.Path.{◌≡◌, refl, ap, sym, ◌∙◌}
use mathlib.Core.Logic.{◌≢◌}
use mathlib.Core.Bool.{Bool, true, false, cond, ◌&&◌, and-false, true≢false}
use mathlib.Core.List.{List, [], ◌∷◌}
use Prim.Native.Nat.{ℕ, zero, suc, pred, ◌≤◌, ◌<◌}
use native.Mathlib.Omega.{arith}
use native.Mathlib.Decide.{ℕ_discrete}
use borrow.Author.Tests.{eqb-true, eqb-false, eq-eqb, ne_eqb}
use lib.Dec.{eqb}
use Rattle.protocol.specs.Given.{Given, there, missing}
use Rattle.protocol.specs.Event.{has}
use Rattle.protocol.specs.Table.{Table, early, start_of, Lawful}
use Rattle.protocol.specs.History.{tick}
use Rattle.protocol.specs.ZeroTime.{run_of}
use Rattle.protocol.specs.Instant.{LogEntry, Moment, ask, read_links, run_whole, work, come, carried, mem, Sorted, Order, find, AllThere}
use Rattle.protocol.proofs.Counts.{there_there, run_of_some}
use Rattle.protocol.proofs.ClosedForm.{arrivals_in, Known, gives, told, entry, closed_reads, closed_work, closed}

-- the first of a list is in it
mem_here : (t : ℕ) (ts : List ℕ) → mem t (t ∷ ts) ≡ true
unfolding mem
mem_here t ts = rw (eq-eqb t t refl)

-- any other is in it if it is in the rest
mem_other : (u t : ℕ) (ts : List ℕ) → u ≢ t → mem u (t ∷ ts) ≡ mem u ts
unfolding mem
mem_other u t ts n = rw (ne_eqb u t n)

-- one less than after a tick is no more than before it
pred_tick : (b : Bool) (n : ℕ) → pred (tick b n) ≤ n
pred_tick true n = let q : n ≤ n = omega arith in q
pred_tick false n = let q : pred n ≤ n = omega arith in q

-- while the set m is at work and the tasks ts are still to come: who is yet to run has run once less than it arrived
abbrev Mid : {Val : Type 0} → ℕ → List ℕ → Moment Val → Type 0
Mid m ts s = (u : ℕ) → s.arrived u ≡ tick (has m u && mem u ts) (s.runs u)

module _ {Val : Type 0} (s : Moment Val) (m t : ℕ) (ts : List ℕ) (M : Mid m (t ∷ ts) s) where
  -- the next task is not in the set: it is passed over
  mid_skip : has m t ≡ false → Mid m ts s
  mid_skip e u = go (ℕ_discrete u t)
    where
      go : Dec (u ≡ t) → s.arrived u ≡ tick (has m u && mem u ts) (s.runs u)
      go (yes x) = rw (x, e) (rw e at (M t))
      go (no x) = rw (mem_other u t ts x) at (M u)

  -- it is in the set: it has run once less than it arrived
  mid_next : has m t ≡ true → s.arrived t ≡ suc (s.runs t)
  mid_next e = rw (e, mem_here t ts) at (M t)

  -- and once it has run, it is done
  mid_whole : (T : Table Val) (out : ℕ → ℕ → Given Val) → has m t ≡ true → mem t ts ≡ false → Mid m ts (run_whole T out t s)
  unfolding run_whole
  mid_whole T out e f u = go (ℕ_discrete u t)
    where
      go : Dec (u ≡ t) → s.arrived u ≡ tick (has m u && mem u ts) (tick (eqb t u) (s.runs u))
      go (yes x) = rw (x, e, f, eq-eqb t t refl) (mid_next e)
      go (no x) = rw (ne_eqb t u (λ y. x (sym y))) (rw (mem_other u t ts x) at (M u))

module _ {Val : Type 0} (T : Table Val) (out : ℕ → ℕ → Given Val) where
  -- the outputs produced so far are those of the runs so far
  abbrev Made : Moment Val → Type 0
  Made s = (w k : ℕ) → 1 ≤ k → k ≤ s.runs w → s.made w k ≡ out w k

  -- the run that link l asks for has been
  abbrev Ready : Moment Val → ℕ → Type 0
  Ready s l = run_of (T.delayed l) (s.arrived (T.writer l)) ≤ s.runs (T.writer l)

  -- so a link is given what it asks for
  ask_given : (s : Moment Val) (l : ℕ) → Made s → Ready s l → ask T s l ≡ gives T out l (s.arrived (T.writer l))
  unfolding ask
  ask_given s l D q = go (early (T.delayed l) (s.arrived (T.writer l))) refl
    where
      k : ℕ
      k = run_of (T.delayed l) (s.arrived (T.writer l))

      go : (b : Bool) → early (T.delayed l) (s.arrived (T.writer l)) ≡ b → cond b (there (start_of T l)) (s.made (T.writer l) k) ≡ cond b (there (start_of T l)) (out (T.writer l) k)
      go true e = refl
      go false e = D (T.writer l) k (run_of_some (T.delayed l) (s.arrived (T.writer l)) e) q

  -- a task that runs adds its output
  made_whole : (s : Moment Val) (t : ℕ) → Made s → Made (run_whole T out t s)
  unfolding run_whole
  made_whole s t D w k p = go (ℕ_discrete t w)
    where
      own : Dec (k ≡ suc (s.runs w)) → k ≤ suc (s.runs w) → cond (eqb k (suc (s.runs w))) (out w k) (s.made w k) ≡ out w k
      own (yes x) q = rw (eq-eqb k (suc (s.runs w)) x)
      own (no x) q = rw (ne_eqb k (suc (s.runs w)) x) (D w k p (omega arith))

      go : Dec (t ≡ w) → k ≤ tick (eqb t w) (s.runs w) → cond (eqb t w && eqb k (suc (s.runs w))) (out w k) (s.made w k) ≡ out w k
      go (yes x) = rw (x, eq-eqb w w refl) (own (ℕ_discrete k (suc (s.runs w))))
      go (no x) = rw (ne_eqb t w x) (D w k p)

  -- a task that runs reads what the closed form says
  reads_closed : (ms : List ℕ) (es : List (LogEntry Val)) (s : Moment Val) (t : ℕ) → Made s → s.log ≡ es → ((u : ℕ) → s.arrived u ≡ arrivals_in ms u)
      → suc (s.runs t) ≡ arrivals_in ms t → ((l : ℕ) → l < T.links → T.reader l ≡ t → Ready s l) → (n : ℕ) → n ≤ T.links
      → read_links T s t n ≡ closed_reads T out ms t n es
  unfolding read_links closed_reads
  reads_closed ms es s t D g a j p zero q = g
  reads_closed ms es s t D g a j p (suc l) q = go (eqb (T.reader l) t) refl (reads_closed ms es s t D g a j p l (omega arith))
    where
      go : (b : Bool) → eqb (T.reader l) t ≡ b → read_links T s t l ≡ closed_reads T out ms t l es
          → cond b (record { job = suc (s.runs t); link = l; given = ask T s l } ∷ read_links T s t l) (read_links T s t l)
          ≡ cond b (entry T out ms t l ∷ closed_reads T out ms t l es) (closed_reads T out ms t l es)
      go true e i = rw (ask_given s l D (p l (omega arith) (eqb-true (T.reader l) t e)), j, a (T.writer l), i)
      go false e i = i

  -- after all tasks of a set
  pub record Done (ms : List ℕ) (es : List (LogEntry Val)) (s : Moment Val) : Type 0 where
    pub log : s.log ≡ es
    pub arrived : (u : ℕ) → s.arrived u ≡ arrivals_in ms u
    pub runs : (u : ℕ) → s.runs u ≡ arrivals_in ms u
    pub made : Made s

  module _ (L : Lawful T) where
    -- a direct link's writer is ahead of its reader, so it is not to come after the reader
    direct_done : (t : ℕ) (ts : List ℕ) → ((u : ℕ) → mem u (t ∷ ts) ≡ true → T.ahead u t ≡ false)
        → (l : ℕ) → l < T.links → T.reader l ≡ t → T.delayed l ≡ false → (c : Bool) → mem (T.writer l) (t ∷ ts) ≡ c → c ≡ false
    direct_done t ts first l q r d true e =
        let a : T.ahead (T.writer l) (T.reader l) ≡ true = L.direct l q d in
        absurd (true≢false (sym (rw r at a) ∙ first (T.writer l) e))
    direct_done t ts first l q r d false e = refl

    -- what a link of the next task asks for has been produced
    produced : (s : Moment Val) (m t : ℕ) (ts : List ℕ) → Mid m (t ∷ ts) s → ((u : ℕ) → mem u (t ∷ ts) ≡ true → T.ahead u t ≡ false)
        → (l : ℕ) → l < T.links → T.reader l ≡ t → Ready s l
    produced s m t ts M first l q r = go (T.delayed l) refl
      where
        go : (b : Bool) → T.delayed l ≡ b → run_of b (s.arrived (T.writer l)) ≤ s.runs (T.writer l)
        go true d = rw (M (T.writer l)) (pred_tick (has m (T.writer l) && mem (T.writer l) (t ∷ ts)) (s.runs (T.writer l)))
        go false d =
            let e : s.arrived (T.writer l) ≡ s.runs (T.writer l) = rw (direct_done t ts first l q r d (mem (T.writer l) (t ∷ ts)) refl, and-false (has m (T.writer l))) at (M (T.writer l)) in
            omega arith

    -- the tasks of a set, one after the other, read what the closed form says
    work_closed : (ms : List ℕ) (m : ℕ) (ts : List ℕ) (es : List (LogEntry Val)) (s : Moment Val) → Sorted T.ahead ts → Mid m ts s → Made s → s.log ≡ es
        → ((u : ℕ) → s.arrived u ≡ arrivals_in ms u) → Done ms (closed_work T out ms m ts es) (work T out m ts s)
    unfolding work closed_work Sorted mem run_whole
    work_closed ms m [] es s S M D g a = record { log = g; arrived = a; runs = λ u. sym (rw (and-false (has m u)) at (M u)) ∙ a u; made = D }
    work_closed ms m (t ∷ ts) es s S M D g a = go (has m t) refl (λ es s. work_closed ms m ts es s S.2)
      where
        go : (b : Bool) → has m t ≡ b
            → ((es : List (LogEntry Val)) (s : Moment Val) → Mid m ts s → Made s → s.log ≡ es → ((u : ℕ) → s.arrived u ≡ arrivals_in ms u)
            → Done ms (closed_work T out ms m ts es) (work T out m ts s))
            → Done ms (closed_work T out ms m ts (cond b (closed_reads T out ms t T.links es) es)) (work T out m ts (cond b (run_whole T out t s) s))
        go true e i =
            i (closed_reads T out ms t T.links es) (run_whole T out t s) (mid_whole s m t ts M T out e S.1) (made_whole s t D)
            (reads_closed ms es s t D g a (sym (mid_next s m t ts M e) ∙ a t) (produced s m t ts M S.0) T.links (omega arith)) a
        go false e i = i es s (mid_skip s m t ts M e) D g a

    -- the whole run is the closed form
    pub carried_closed : (order : List ℕ) → Order T order → (ms : List ℕ) → Known T.tasks ms → Done ms (closed T out order ms) (carried T out order ms)
    unfolding carried closed Known arrivals_in come
    carried_closed order O [] K = record { log = refl; arrived = λ u. refl; runs = λ u. refl; made = λ w k p q. absurd (omega arith) }
    carried_closed order O (m ∷ ms) K =
        let D = carried_closed order O ms K.1 in
        work_closed (m ∷ ms) m order (closed T out order ms) (come m (carried T out order ms)) O.sorted (begun D) D.made D.log (λ u. ap (tick (has m u)) (D.arrived u))
      where
        begun : Done ms (closed T out order ms) (carried T out order ms) → Mid m order (come m (carried T out order ms))
        begun D u = go (has m u) refl
          where
            go : (b : Bool) → has m u ≡ b → tick b ((carried T out order ms).arrived u) ≡ tick (b && mem u order) ((carried T out order ms).runs u)
            go true e = rw (O.all u (K.0 u e), D.arrived u, D.runs u)
            go false e = rw (D.arrived u, D.runs u)

  -- where no run's output is missing
  module _ (known : (w k : ℕ) → out w k ≢ missing) where
    -- no link gives nothing
    gives_there : (l n : ℕ) → gives T out l n ≢ missing
    gives_there l n = go (early (T.delayed l) n)
      where
        go : (b : Bool) → cond b (there (start_of T l)) (out (T.writer l) (run_of (T.delayed l) n)) ≢ missing
        go true = there_there (start_of T l)
        go false = known (T.writer l) (run_of (T.delayed l) n)

    -- so nothing is missing in the closed form: in the reads of a task
    there_reads : (ms : List ℕ) (t : ℕ) (es : List (LogEntry Val)) → AllThere es → (n : ℕ) → AllThere (closed_reads T out ms t n es)
    unfolding closed_reads AllThere
    there_reads ms t es G zero = G
    there_reads ms t es G (suc l) = go (eqb (T.reader l) t) (there_reads ms t es G l)
      where
        go : (b : Bool) → AllThere (closed_reads T out ms t l es) → AllThere (cond b (entry T out ms t l ∷ closed_reads T out ms t l es) (closed_reads T out ms t l es))
        go true i = (gives_there l (arrivals_in ms (T.writer l)), i)
        go false i = i

    -- of a set
    there_work : (ms : List ℕ) (m : ℕ) (ts : List ℕ) (es : List (LogEntry Val)) → AllThere es → AllThere (closed_work T out ms m ts es)
    unfolding closed_work
    there_work ms m [] es G = G
    there_work ms m (t ∷ ts) es G = there_work ms m ts _ (go (has m t))
      where
        go : (b : Bool) → AllThere (cond b (closed_reads T out ms t T.links es) es)
        go true = there_reads ms t es G T.links
        go false = G

    -- of all sets
    there_closed : (order ms : List ℕ) → AllThere (closed T out order ms)
    unfolding closed AllThere
    there_closed order [] = tt
    there_closed order (m ∷ ms) = there_work (m ∷ ms) m order (closed T out order ms) (there_closed order ms)

    -- no run asks for an output that is not there
    pub always_there : Lawful T → (order : List ℕ) → Order T order → (ms : List ℕ) → Known T.tasks ms → AllThere (carried T out order ms).log
    always_there L order O ms K = rw (carried_closed L order O ms K).log (there_closed order ms)

  -- a task's reads leave what run number j of l's reader read by l, unless they are that run's
  find_reads : (ms : List ℕ) (t : ℕ) (es : List (LogEntry Val)) (l j : ℕ) → (T.reader l ≡ t → arrivals_in ms t ≡ j → ⊥)
      → (n : ℕ) → find l j (closed_reads T out ms t n es) ≡ find l j es
  unfolding closed_reads find
  find_reads ms t es l j x zero = refl
  find_reads ms t es l j x (suc k) = go (eqb (T.reader k) t) refl (find_reads ms t es l j x k)
    where
      miss : eqb (T.reader k) t ≡ true → Dec (k ≡ l) → eqb k l && eqb (arrivals_in ms t) j ≡ false
      miss e (yes y) = rw (ne_eqb (arrivals_in ms t) j (x (rw y at (eqb-true (T.reader k) t e)))) (and-false (eqb k l))
      miss e (no y) = rw (ne_eqb k l y)

      go : (b : Bool) → eqb (T.reader k) t ≡ b → find l j (closed_reads T out ms t k es) ≡ find l j es
          → find l j (cond b (entry T out ms t k ∷ closed_reads T out ms t k es) (closed_reads T out ms t k es)) ≡ find l j es
      go true e i = ap (λ c. cond c (told T out ms k) (find l j (closed_reads T out ms t k es))) (miss e (ℕ_discrete k l)) ∙ i
      go false e i = i

  -- so do the reads of a set, unless its reader is in the set and that run is its last
  find_work : (ms : List ℕ) (m : ℕ) (ts : List ℕ) (es : List (LogEntry Val)) (l j : ℕ) → (has m (T.reader l) ≡ true → arrivals_in ms (T.reader l) ≡ j → ⊥)
      → find l j (closed_work T out ms m ts es) ≡ find l j es
  unfolding closed_work
  find_work ms m [] es l j x = refl
  find_work ms m (t ∷ ts) es l j x = find_work ms m ts _ l j x ∙ go (has m t) refl
    where
      go : (b : Bool) → has m t ≡ b → find l j (cond b (closed_reads T out ms t T.links es) es) ≡ find l j es
      go true e = find_reads ms t es l j (λ r q. x (rw r e) (rw r q)) T.links
      go false e = refl

  -- the last run of l's reader read by l what the closed form says
  abbrev Read : List ℕ → ℕ → List (LogEntry Val) → Type 0
  Read ms l es = find l (arrivals_in ms (T.reader l)) es ≡ told T out ms l

  -- the reader's own reads hold it
  read_own : (ms : List ℕ) (es : List (LogEntry Val)) (l n : ℕ) → l < n → Read ms l (closed_reads T out ms (T.reader l) n es)
  unfolding closed_reads find
  read_own ms es l zero q = absurd (omega arith)
  read_own ms es l (suc k) q = go (ℕ_discrete k l) (eqb (T.reader k) (T.reader l)) refl (read_own ms es l k)
    where
      go : Dec (k ≡ l) → (b : Bool) → eqb (T.reader k) (T.reader l) ≡ b → (l < k → Read ms l (closed_reads T out ms (T.reader l) k es))
          → Read ms l (cond b (entry T out ms (T.reader l) k ∷ closed_reads T out ms (T.reader l) k es) (closed_reads T out ms (T.reader l) k es))
      go (yes y) true e i = rw (y, eq-eqb l l refl, eq-eqb (arrivals_in ms (T.reader l)) (arrivals_in ms (T.reader l)) refl)
      go (yes y) false e i = absurd (eqb-false (T.reader k) (T.reader l) e (rw y))
      go (no y) true e i = rw (ne_eqb k l y) (i (omega arith))
      go (no y) false e i = i (omega arith)

  -- once read, it stays
  read_kept : (ms : List ℕ) (m : ℕ) (ts : List ℕ) (es : List (LogEntry Val)) (l : ℕ) → l < T.links → Read ms l es → Read ms l (closed_work T out ms m ts es)
  unfolding closed_work
  read_kept ms m [] es l q i = i
  read_kept ms m (t ∷ ts) es l q i = read_kept ms m ts _ l q (go (has m t) (ℕ_discrete (T.reader l) t))
    where
      go : (b : Bool) → Dec (T.reader l ≡ t) → Read ms l (cond b (closed_reads T out ms t T.links es) es)
      go true (yes x) = rw (← x) (read_own ms es l T.links q)
      go true (no x) = find_reads ms t es l (arrivals_in ms (T.reader l)) (λ r k. x r) T.links ∙ i
      go false x = i

  -- a set that holds the reader reads it
  read_in : (ms : List ℕ) (m : ℕ) (ts : List ℕ) (es : List (LogEntry Val)) (l : ℕ) → l < T.links → has m (T.reader l) ≡ true → mem (T.reader l) ts ≡ true
      → Read ms l (closed_work T out ms m ts es)
  unfolding closed_work mem
  read_in ms m [] es l q e f = absurd (true≢false (sym f))
  read_in ms m (t ∷ ts) es l q e f = go (ℕ_discrete (T.reader l) t)
      (read_in ms m ts (cond (has m t) (closed_reads T out ms t T.links es) es) l q e)
    where
      go : Dec (T.reader l ≡ t)
          → (mem (T.reader l) ts ≡ true → Read ms l (closed_work T out ms m ts (cond (has m t) (closed_reads T out ms t T.links es) es)))
          → Read ms l (closed_work T out ms m ts (cond (has m t) (closed_reads T out ms t T.links es) es))
      go (yes x) i = read_kept ms m ts _ l q (rw (← x, e) (read_own ms es l T.links q))
      go (no x) i = i (rw (ne_eqb (T.reader l) t x) at f)

  -- at an arrival of its reader, link l gives what the closed form says
  pub find_new : (order : List ℕ) (m : ℕ) (ms : List ℕ) (l : ℕ) → l < T.links → has m (T.reader l) ≡ true → mem (T.reader l) order ≡ true
      → Read (m ∷ ms) l (closed T out order (m ∷ ms))
  unfolding closed
  find_new order m ms l q e f = read_in (m ∷ ms) m order (closed T out order ms) l q e f

  -- later arrivals leave what was read
  pub find_old : (order : List ℕ) (m : ℕ) (ms : List ℕ) (l j : ℕ) → j ≤ arrivals_in ms (T.reader l)
      → find l j (closed T out order (m ∷ ms)) ≡ find l j (closed T out order ms)
  unfolding closed arrivals_in
  find_old order m ms l j q = find_work (m ∷ ms) m order (closed T out order ms) l j (λ e k. omega (arith, rw e at k))
