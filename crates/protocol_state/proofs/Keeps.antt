-- Each allowed event keeps a sound state sound, of its shape, and of its table.
-- Assumes nothing.
use mathlib.Core.Path.{◌≡◌, refl, sym, ◌∙◌}
use mathlib.Core.Logic.{◌≢◌}
use mathlib.Core.Bool.{Bool, true, false, cond, ◌&&◌}
use mathlib.Core.List.{List}
use Prim.Native.Nat.{ℕ, ◌+◌, ◌^◌, ◌≤◌, ◌<◌}
use native.Mathlib.Omega.{arith}
use native.Mathlib.Decide.{ℕ_discrete}
use borrow.Author.Tests.{eq-eqb, ne_eqb, eqb-true, eqb-false, lt-ltb}
use lib.Dec.{eqb}
use lib.ListN.{set, length, length-set}
use lib.Seq.{get_or-set_same, get_or-set_other}
use Rattle.lists.specs.Lists.{upto}
use Rattle.lists.proofs.Bools.{cond_small}
use Rattle.lists.proofs.Lists.{length_upto}
use Rattle.protocol.specs.Event.{Event, arrival, start, read, finish, has}
use Rattle.protocol.specs.Table.{marked, N}
use Rattle.protocol.specs.Ranges.{Position}
use Rattle.protocol.specs.Published.{seen_once, leaves}
use Rattle.protocol.proofs.Schedule.{has_below}
use Rattle.protocol_deadlines.specs.Timed.{limit}
use Rattle.protocol_state.specs.Saved.{Size, Saved, Shape, at, delayed_kind, link_in, ahead_in, table}
use Rattle.protocol_state.specs.Rules.{Obeys}
use Rattle.protocol_state.specs.Decision.{decided}
use Rattle.protocol_state.specs.Judge.{judged_arrival, judged_task, sooner_in, judged_on}
use Rattle.protocol_state.specs.Next.{previous_at, seen_at, pointer_at, mark_at, phase_at, newest_at, freed_at, newest_after, previous_after, seen_after, pointer_after, mark_after, phase_after, started, freed_in, finished, since_at, since_after, next_at}
use Rattle.protocol_state.specs.Sound.{Sound, Timely}
use Rattle.protocol_state.proofs.Decision.{arrives_idle, starts_waiting, finishes_running}
use Rattle.protocol_state.proofs.Places.{changed, arrival_allowed, task_allowed}
use Rattle.protocol_state.proofs.Rules as rules
use Rattle.protocol_state.proofs.Free.{lowest_at, lowest_position}
use Rattle.protocol_state.proofs.Arrivals.{newest_at_lem, previous_at_lem, seen_at_lem, phase_at_lem, aim, pointer_at_lem, mark_of, mark_at_lem}

-- a link that an arrival marks is delayed
mark_delayed : (d : Bool) (a : ℕ) → cond {A = ℕ} (marked d a) 1 0 ≡ 1 → d ≡ true
mark_delayed true a e = refl
mark_delayed false a e = absurd (omega arith)

-- the tick x may come next: it is not below the last one nor above the limit
abbrev pub FitsTick : Saved → ℕ → Type 0
FitsTick q x = (q.last ≤ x) × (x ≤ limit)

-- the ticks after it are as they must be where no arrival tick is then after it, and that of an idle task is 0; under fixed priorities they stay 0
timely_after : {T z p : ℕ} {ph D y : List ℕ} → Timely T ph D y z p → (x : ℕ) → x ≤ limit → (ph' y' : List ℕ)
    → ((t : ℕ) → t < T → (at y' t ≤ x) × (at ph' t ≡ 0 → at y' t ≡ 0)) → Timely T ph' D (cond (eqb p 0) y y') (cond (eqb p 0) z x) p
timely_after {T} {z} {p} {ph} {D} {y} Y x small ph' y' f = go (eqb p 0) refl
  where
    go : (b : Bool) → eqb p 0 ≡ b → Timely T ph' D (cond b y y') (cond b z x) p
    go true e =
        let o = Y.unclocked (eqb-true p 0 e) in
        record {
          either = Y.either;
          none_later = Y.none_later;
          idle = λ t l i. omega (arith, o, Y.none_later t l);
          small = Y.small;
          dated = Y.dated;
          undated = Y.undated;
          unclocked = Y.unclocked;
        }
    go false e = record {
      either = Y.either;
      none_later = λ t l. (f t l).0;
      idle = λ t l. (f t l).1;
      small = small;
      dated = Y.dated;
      undated = Y.undated;
      unclocked = λ i. absurd (eqb-false p 0 e i);
    }

-- no event changes the table
pub table_same : (ahead : ℕ → ℕ → Bool) (q : Saved) (x : ℕ) (e : Event ℕ) → table ahead (next_at ahead q x e) ≡ table ahead q
table_same ahead q x (arrival s) = refl
table_same ahead q x (start t) = refl
table_same ahead q x (read l) = refl
table_same ahead q x (finish t v) = refl

-- nor the order of its tasks
pub order_same : (ahead : ℕ → ℕ → Bool) (q : Saved) (x : ℕ) (e : Event ℕ) → ahead_in (next_at ahead q x e) ≡ ahead_in q
order_same ahead q x (arrival s) = refl
order_same ahead q x (start t) = refl
order_same ahead q x (read l) = refl
order_same ahead q x (finish t v) = refl

-- nor the policy
pub policy_same : (ahead : ℕ → ℕ → Bool) (q : Saved) (x : ℕ) (e : Event ℕ) → (next_at ahead q x e).policy ≡ q.policy
policy_same ahead q x (arrival s) = refl
policy_same ahead q x (start t) = refl
policy_same ahead q x (read l) = refl
policy_same ahead q x (finish t v) = refl

module _ {ahead : ℕ → ℕ → Bool} {size : Size} (q : Saved) (G : Sound ahead size q) where
  -- each link of a sound state obeys the rules
  pub obeys : (l : ℕ) → l < q.links → Obeys ahead q.tasks (link_in q) l
  obeys = G.rules.each

  -- there is room for its counts
  pub room : (q.tasks ≤ size.tasks) × (q.links ≤ size.links)
  room = (G.rules.tasks.1, G.rules.links)

  -- and no task has more than 8 links to readers behind
  pub few : (t : ℕ) → N (table ahead q) t ≤ 8
  few = rules.few ahead q.tasks (link_in q) size q.links
      (rules.keeps_judged ahead q.tasks (link_in q) size q.links G.rules)

  module _ (S : Shape size q) where
    -- where no arrival tick changes, and who is then idle was idle
    kept_ticks : (x : ℕ) → q.last ≤ x → (ph : List ℕ) → ((t : ℕ) → t < q.tasks → at ph t ≡ 0 → at q.phase t ≡ 0)
        → (t : ℕ) → t < q.tasks → (at q.since t ≤ x) × (at ph t ≡ 0 → at q.since t ≡ 0)
    kept_ticks x low ph f t l = (omega (arith, G.times.none_later t l), λ z. G.times.idle t l (f t l z))

    -- ---- an arrival
    module _ (s : ℕ) (ok : judged_arrival s q.tasks (at q.phase) ≡ 0) where
      -- the set is one of the table's tasks
      pub small : s < 2 ^ q.tasks
      small = (arrival_allowed s q.tasks (at q.phase) ok).0

      -- who arrives was idle, and waits now
      pub were_idle : (t : ℕ) → has s t ≡ true → (at q.phase t ≡ 0) × (at (phase_after s q) t ≡ 1)
      were_idle t e =
          let k : t < q.tasks = has_below s q.tasks t small e in
          let i = arrives_idle (at q.phase t) (G.phase t k) ((arrival_allowed s q.tasks (at q.phase) ok).1 t k e) in
          (i.0, phase_at_lem q S s small room.0 t ∙ rw e i.1)

      -- the others are in the phase that they were in
      pub phase_kept : (t : ℕ) → has s t ≡ false → at (phase_after s q) t ≡ at q.phase t
      phase_kept t e = phase_at_lem q S s small room.0 t ∙ rw e

      newest_good : (t : ℕ) → t < q.tasks → Position (table ahead q) t (at (newest_after ahead s q) t)
      newest_good t l = rw (newest_at_lem q S s small room.0 ahead t 0) (go (has s t)) where
        go : (b : Bool) → Position (table ahead q) t (cond b (lowest_at ahead q t (at q.newest t)) (at q.newest t))
        go true = lowest_position ahead q t (at q.newest t)
        go false = G.newest t l

      previous_good : (t : ℕ) → t < q.tasks → Position (table ahead q) t (at (previous_after s q) t)
      previous_good t l = rw (previous_at_lem q S s small room.0 t 0) (go (has s t)) where
        go : (b : Bool) → Position (table ahead q) t (cond b (at q.newest t) (at q.previous t))
        go true = G.newest t l
        go false = G.previous t l

      phase_good : (t : ℕ) → t < q.tasks → at (phase_after s q) t < 3
      phase_good t l = go (has s t) refl where
        go : (b : Bool) → has s t ≡ b → at (phase_after s q) t < 3
        go true e = omega (arith, (were_idle t e).1)
        go false e = rw (phase_kept t e) (G.phase t l)

      aim_good : (l : ℕ) → l < q.links → Position (table ahead q) (at q.writer l) (aim ahead s q l)
      aim_good l h = go (delayed_kind (at q.kind l)) where
        go : (b : Bool) → Position (table ahead q) (at q.writer l) (cond b (at (previous_after s q) (at q.writer l)) (at (newest_after ahead s q) (at q.writer l)))
        go true = previous_good (at q.writer l) (obeys l h).writer
        go false = newest_good (at q.writer l) (obeys l h).writer

      aimed : (l : ℕ) → l < q.links → has s (at q.reader l) ≡ true → at (pointer_after ahead s q) l ≡ aim ahead s q l
      aimed l h e = pointer_at_lem ahead q S s room.1 l ∙ rw (lt-ltb l q.links h, e)

      stays : (l : ℕ) → l < q.links → has s (at q.reader l) ≡ false → at (pointer_after ahead s q) l ≡ at q.pointer l
      stays l h e = pointer_at_lem ahead q S s room.1 l ∙ rw (lt-ltb l q.links h, e)

      -- no, one or more arrivals are seen; who has had none is idle; and where fewer than two are seen, fewer were
      seen_good : (t : ℕ) → t < q.tasks → (at (seen_after s q) t < 3) × (at (seen_after s q) t ≡ 0 → at (phase_after s q) t ≡ 0) × (at (seen_after s q) t < 2 → at q.seen t < 2)
      seen_good t l = go (has s t) refl where
        go : (b : Bool) → has s t ≡ b → (at (seen_after s q) t < 3) × (at (seen_after s q) t ≡ 0 → at (phase_after s q) t ≡ 0) × (at (seen_after s q) t < 2 → at q.seen t < 2)
        go true e =
            let a : at (seen_after s q) t ≡ seen_once (at q.seen t) = seen_at_lem q S s small room.0 t ∙ rw e in
            (omega arith, λ z. absurd (omega arith), λ h. omega arith)
        go false e =
            let a : at (seen_after s q) t ≡ at q.seen t = seen_at_lem q S s small room.0 t ∙ rw e in
            (omega (arith, G.seen t l), λ z. phase_kept t e ∙ G.unseen t l (omega arith), λ h. omega arith)

      marked_in : (l : ℕ) → l < q.links → has s (at q.reader l) ≡ true → at (mark_after s q) l ≡ mark_of s q l
      marked_in l h e = mark_at_lem q S s room.1 l ∙ rw (lt-ltb l q.links h, e)

      mark_stays : (l : ℕ) → l < q.links → has s (at q.reader l) ≡ false → at (mark_after s q) l ≡ at q.mark l
      mark_stays l h e = mark_at_lem q S s room.1 l ∙ rw (lt-ltb l q.links h, e)

      since_in_lem : (x : ℕ) → q.last ≤ x → (t : ℕ) → t < q.tasks
          → (at (upto (since_at s x) q.tasks q.since) t ≤ x) × (at (phase_after s q) t ≡ 0 → at (upto (since_at s x) q.tasks q.since) t ≡ 0)
      since_in_lem x low t l = rw (changed (has s) (λ i y. x) q.tasks q.since (omega (arith, S.since, room.0)) t 0, lt-ltb t q.tasks l) (go (has s t) refl)
        where
          go : (b : Bool) → has s t ≡ b → (cond b x (at q.since t) ≤ x) × (at (phase_after s q) t ≡ 0 → cond b x (at q.since t) ≡ 0)
          go true e = (omega arith, λ z. absurd (omega (arith, (were_idle t e).1)))
          go false e = (omega (arith, G.times.none_later t l), λ z. G.times.idle t l (sym (phase_kept t e) ∙ z))

      arrived_sound : (x : ℕ) → FitsTick q x → Sound ahead size (next_at ahead q x (arrival s))
      unfolding since_after
      arrived_sound x tick = record {
        rules = G.rules;
        phase = phase_good;
        newest = newest_good;
        previous = previous_good;
        pointer = λ l h. pointer l h (has s (at q.reader l)) refl;
        present = λ l h n. present l h (has s (at q.reader l)) refl n;
        absent = λ l h a z. absent l h (has s (at q.reader l)) refl a z;
        seen = λ t l. (seen_good t l).0;
        unseen = λ t l. (seen_good t l).1;
        mark = λ l h. mark l h (has s (at q.reader l)) refl;
        held = λ l h. held l h (has s (at q.reader l)) refl;
        early = λ l h. early l h (has s (at q.reader l)) refl;
        times = timely_after G.times x tick.1 (phase_after s q) (upto (since_at s x) q.tasks q.since) (since_in_lem x tick.0);
      }
        where
          -- by the mark that an arriving reader's link gets
          mark : (l : ℕ) → l < q.links → (b : Bool) → has s (at q.reader l) ≡ b → at (mark_after s q) l ≤ 1
          mark l h true e = rw (marked_in l h e) (cond_small (marked (delayed_kind (at q.kind l)) (at (seen_after s q) (at q.writer l))) (omega arith) (omega arith))
          mark l h false e = rw (mark_stays l h e) (G.mark l h)

          held : (l : ℕ) → l < q.links → (b : Bool) → has s (at q.reader l) ≡ b → at (mark_after s q) l ≡ 1
              → (delayed_kind (at q.kind l) ≡ true) × (1 ≤ at (pointer_after ahead s q) l)
          held l h true e i = (mark_delayed (delayed_kind (at q.kind l)) (at (seen_after s q) (at q.writer l)) (sym (marked_in l h e) ∙ i), rw (aimed l h e) (aim_good l h).0)
          held l h false e i = rw (stays l h e) (G.held l h (sym (mark_stays l h e) ∙ i))

          early : (l : ℕ) → l < q.links → (b : Bool) → has s (at q.reader l) ≡ b → delayed_kind (at q.kind l) ≡ true → 1 ≤ at (pointer_after ahead s q) l
              → at (seen_after s q) (at q.writer l) < 2 → at (mark_after s q) l ≡ 1
          early l h true e d p a = marked_in l h e ∙ rw (d, lt-ltb _ 2 a)
          early l h false e d p a = mark_stays l h e ∙ G.early l h d (rw (stays l h e) at p) ((seen_good (at q.writer l) (obeys l h).writer).2 a)

          pointer : (l : ℕ) → l < q.links → (b : Bool) → has s (at q.reader l) ≡ b → at (pointer_after ahead s q) l ≤ N (table ahead q) (at q.writer l) + 2
          pointer l h true e = rw (aimed l h e) (aim_good l h).1
          pointer l h false e = rw (stays l h e) (G.pointer l h)

          present : (l : ℕ) → l < q.links → (b : Bool) → has s (at q.reader l) ≡ b → (at (phase_after s q) (at q.reader l) ≡ 0 → ⊥) → 1 ≤ at (pointer_after ahead s q) l
          present l h true e n = rw (aimed l h e) (aim_good l h).0
          present l h false e n = rw (stays l h e) (G.present l h (λ z. n (phase_kept (at q.reader l) e ∙ z)))

          absent : (l : ℕ) → l < q.links → (b : Bool) → has s (at q.reader l) ≡ b → ahead (at q.writer l) (at q.reader l) ≡ true
              → at (phase_after s q) (at q.reader l) ≡ 0 → at (pointer_after ahead s q) l ≡ 0
          absent l h true e a z = absurd (omega (arith, (were_idle (at q.reader l) e).1))
          absent l h false e a z = stays l h e ∙ G.absent l h a (sym (phase_kept (at q.reader l) e) ∙ z)

    -- ---- task t comes to phase y
    module _ (t y : ℕ) (l : t < q.tasks) where
      phase_same : at (set q.phase t y) t ≡ y
      phase_same = get_or-set_same q.phase t y 0 (omega (arith, S.phase, room.0))

      phases_good : y < 3 → (u : ℕ) → u < q.tasks → at (set q.phase t y) u < 3
      phases_good h u k = go (ℕ_discrete u t) where
        go : Dec (u ≡ t) → at (set q.phase t y) u < 3
        go (yes e) = rw (e, phase_same) h
        go (no e) = rw (get_or-set_other q.phase t u y 0 e) (G.phase u k)

    -- ---- a start
    module _ (t : ℕ) (ok : judged_task (sooner_in ahead q) 1 t q.tasks (at q.phase) ≡ 0) where
      start_known : t < q.tasks
      start_known = (task_allowed (sooner_in ahead q) 1 t q.tasks (at q.phase) ok).0

      decided_start : (at q.phase t ≡ 1) × (decided 1 (at q.phase t) ≡ 2)
      decided_start = starts_waiting (at q.phase t) (G.phase t start_known) (task_allowed (sooner_in ahead q) 1 t q.tasks (at q.phase) ok).1

      -- who starts waited, and runs now
      pub was_waiting : (at q.phase t ≡ 1) × (at (started t q).phase t ≡ 2)
      was_waiting = (decided_start.0, phase_same t _ start_known ∙ decided_start.1)

      started_sound : (x : ℕ) → FitsTick q x → Sound ahead size (next_at ahead q x (start t))
      unfolding since_after
      started_sound x tick = record {
        rules = G.rules;
        phase = phases_good t (decided 1 (at q.phase t)) start_known (omega (arith, decided_start.1));
        newest = G.newest;
        previous = G.previous;
        pointer = G.pointer;
        present = λ l h n. present l h (ℕ_discrete (at q.reader l) t) n;
        absent = λ l h a z. absent l h (ℕ_discrete (at q.reader l) t) a z;
        seen = G.seen;
        unseen = λ u l z. unseen u l z (ℕ_discrete u t);
        mark = G.mark;
        held = G.held;
        early = G.early;
        times = timely_after G.times x tick.1 (started t q).phase q.since (kept_ticks x tick.0 (started t q).phase (λ u l z. idle u z (ℕ_discrete u t)));
      }
        where
          idle : (u : ℕ) → at (started t q).phase u ≡ 0 → Dec (u ≡ t) → at q.phase u ≡ 0
          idle u z (yes e) = absurd (omega (arith, was_waiting.1, rw e at z))
          idle u z (no e) = sym (get_or-set_other q.phase t u _ 0 e) ∙ z

          unseen : (u : ℕ) → u < q.tasks → at q.seen u ≡ 0 → Dec (u ≡ t) → at (started t q).phase u ≡ 0
          unseen u l z (yes e) = absurd (omega (arith, was_waiting.0, rw e at (G.unseen u l z)))
          unseen u l z (no e) = get_or-set_other q.phase t u _ 0 e ∙ G.unseen u l z

          present : (l : ℕ) → l < q.links → Dec (at q.reader l ≡ t) → (at (started t q).phase (at q.reader l) ≡ 0 → ⊥) → 1 ≤ at q.pointer l
          present l h (yes e) n = G.present l h (rw e (λ z. omega (arith, was_waiting.0)))
          present l h (no e) n = G.present l h (λ z. n (get_or-set_other q.phase t (at q.reader l) _ 0 e ∙ z))

          absent : (l : ℕ) → l < q.links → Dec (at q.reader l ≡ t) → ahead (at q.writer l) (at q.reader l) ≡ true
              → at (started t q).phase (at q.reader l) ≡ 0 → at q.pointer l ≡ 0
          absent l h (yes e) a z = absurd (omega (arith, was_waiting.1, rw e at z))
          absent l h (no e) a z = G.absent l h a (sym (get_or-set_other q.phase t (at q.reader l) _ 0 e) ∙ z)

    -- ---- a read
    read_sound : (x : ℕ) → FitsTick q x → (l : ℕ) → Sound ahead size (next_at ahead q x (read l))
    unfolding since_after
    read_sound x tick l = record {
      rules = G.rules;
      phase = G.phase;
      newest = G.newest;
      previous = G.previous;
      pointer = G.pointer;
      present = G.present;
      absent = G.absent;
      seen = G.seen;
      unseen = G.unseen;
      mark = G.mark;
      held = G.held;
      early = G.early;
      times = timely_after G.times x tick.1 q.phase q.since (kept_ticks x tick.0 q.phase (λ t h z. z));
    }

    -- ---- a finish
    module _ (t v : ℕ) where
      -- of pointers or marks: those of links by which t reads from writers ahead go, and no other
      freed_in_lem : (xs : List ℕ) → length xs ≡ size.links → (l : ℕ) → at (freed_in ahead t q xs) l ≡ cond (leaves (table ahead q) t l) 0 (at xs l)
      freed_in_lem xs e l = changed (λ i. eqb (at q.reader i) t && ahead (at q.writer i) t) (λ i x. 0) q.links xs (omega (arith, room.1)) l 0

      pub freed_at_lem : (l : ℕ) → at (finished ahead t v q).pointer l ≡ cond (leaves (table ahead q) t l) 0 (at q.pointer l)
      freed_at_lem = freed_in_lem q.pointer S.pointer

      pub unmarked_at : (l : ℕ) → at (finished ahead t v q).mark l ≡ cond (leaves (table ahead q) t l) 0 (at q.mark l)
      unmarked_at = freed_in_lem q.mark S.mark

      others_stay : (l : ℕ) → l < q.links → (at q.reader l ≡ t → ⊥) → at (finished ahead t v q).pointer l ≡ at q.pointer l
      others_stay l h n = freed_at_lem l ∙ rw (lt-ltb l q.links h, ne_eqb (at q.reader l) t n)

      module _ (ok : judged_task (sooner_in ahead q) 3 t q.tasks (at q.phase) ≡ 0) where
        -- the task is one of the table's
        pub finish_known : t < q.tasks
        finish_known = (task_allowed (sooner_in ahead q) 3 t q.tasks (at q.phase) ok).0

        decided_finish : (at q.phase t ≡ 2) × (decided 3 (at q.phase t) ≡ 0)
        decided_finish = finishes_running (at q.phase t) (G.phase t finish_known) (task_allowed (sooner_in ahead q) 3 t q.tasks (at q.phase) ok).1

        -- who finishes ran, and is idle now
        pub was_running : (at q.phase t ≡ 2) × (at (finished ahead t v q).phase t ≡ 0)
        was_running = (decided_finish.0, phase_same t _ finish_known ∙ decided_finish.1)

        finished_sound : (x : ℕ) → FitsTick q x → Sound ahead size (next_at ahead q x (finish t v))
        unfolding since_after
        finished_sound x tick = record {
          rules = G.rules;
          phase = phases_good t (decided 3 (at q.phase t)) finish_known (omega (arith, decided_finish.1));
          newest = G.newest;
          previous = G.previous;
          pointer = λ l h. rw (freed_at_lem l) (cond_small (leaves (table ahead q) t l) (omega arith) (G.pointer l h));
          present = λ l h n. present l h (ℕ_discrete (at q.reader l) t) n;
          absent = λ l h a z. absent l h (ℕ_discrete (at q.reader l) t) a z;
          seen = G.seen;
          unseen = λ u l z. unseen u l z (ℕ_discrete u t);
          mark = λ l h. rw (unmarked_at l) (cond_small (leaves (table ahead q) t l) (omega arith) (G.mark l h));
          held = λ l h. rw (unmarked_at l, freed_at_lem l) (held l h (leaves (table ahead q) t l));
          early = λ l h. rw (unmarked_at l, freed_at_lem l) (early l h (leaves (table ahead q) t l));
          times = timely_after G.times x tick.1 (finished ahead t v q).phase (set q.since t 0) (λ u l. back u l (ℕ_discrete u t));
        }
          where
            -- the arrival tick of who finishes is set back
            back : (u : ℕ) → u < q.tasks → Dec (u ≡ t) → (at (set q.since t 0) u ≤ x) × (at (finished ahead t v q).phase u ≡ 0 → at (set q.since t 0) u ≡ 0)
            back u l (yes e) =
                let z : at (set q.since t 0) u ≡ 0 = rw e (get_or-set_same q.since t 0 0 (omega (arith, S.since, room.0, finish_known))) in
                (omega arith, λ i. z)
            back u l (no e) =
                let k = get_or-set_other q.since t u 0 0 e in
                rw k (omega (arith, G.times.none_later u l, tick.0), λ z. G.times.idle u l (sym (get_or-set_other q.phase t u _ 0 e) ∙ z))

            unseen : (u : ℕ) → u < q.tasks → at q.seen u ≡ 0 → Dec (u ≡ t) → at (finished ahead t v q).phase u ≡ 0
            unseen u l z (yes e) = rw e was_running.1
            unseen u l z (no e) = get_or-set_other q.phase t u _ 0 e ∙ G.unseen u l z

            -- the mark goes where the pointer does
            held : (l : ℕ) → l < q.links → (b : Bool) → cond b 0 (at q.mark l) ≡ 1 → (delayed_kind (at q.kind l) ≡ true) × (1 ≤ cond b 0 (at q.pointer l))
            held l h true i = absurd (omega arith)
            held l h false i = G.held l h i

            early : (l : ℕ) → l < q.links → (b : Bool) → delayed_kind (at q.kind l) ≡ true → 1 ≤ cond b 0 (at q.pointer l) → at q.seen (at q.writer l) < 2
                → cond b 0 (at q.mark l) ≡ 1
            early l h true d p a = absurd (omega arith)
            early l h false d p a = G.early l h d p a

            present : (l : ℕ) → l < q.links → Dec (at q.reader l ≡ t) → (at (finished ahead t v q).phase (at q.reader l) ≡ 0 → ⊥) → 1 ≤ at (finished ahead t v q).pointer l
            present l h (yes e) n = absurd (n (rw e was_running.1))
            present l h (no e) n = rw (others_stay l h e) (G.present l h (λ z. n (get_or-set_other q.phase t (at q.reader l) _ 0 e ∙ z)))

            absent : (l : ℕ) → l < q.links → Dec (at q.reader l ≡ t) → ahead (at q.writer l) (at q.reader l) ≡ true
                → at (finished ahead t v q).phase (at q.reader l) ≡ 0 → at (finished ahead t v q).pointer l ≡ 0
            absent l h (yes e) a z = freed_at_lem l ∙ rw (lt-ltb l q.links h, eq-eqb (at q.reader l) t e, rw e at a)
            absent l h (no e) a z = others_stay l h e ∙ G.absent l h a (sym (get_or-set_other q.phase t (at q.reader l) _ 0 e) ∙ z)

-- under fixed priorities the tick of an event makes no difference to what it makes of the state
any_tick : (ahead : ℕ → ℕ → Bool) (q : Saved) (x y : ℕ) (e : Event ℕ) → eqb q.policy 0 ≡ true → next_at ahead q x e ≡ next_at ahead q y e
any_tick ahead q x y (arrival s) i = rw i
any_tick ahead q x y (start t) i = rw i
any_tick ahead q x y (read l) i = rw i
any_tick ahead q x y (finish t v) i = rw i

next_fitting : {ahead : ℕ → ℕ → Bool} {size : Size} {q : Saved} → Shape size q → Sound ahead size q → (x : ℕ) → FitsTick q x → (e : Event ℕ) → judged_on ahead q e ≡ 0
    → Sound ahead size (next_at ahead q x e)
next_fitting {q = q} S G x tick (arrival s) ok = arrived_sound q G S s ok x tick
next_fitting {q = q} S G x tick (start t) ok = started_sound q G S t ok x tick
next_fitting {q = q} S G x tick (read l) ok = read_sound q G S x tick l
next_fitting {q = q} S G x tick (finish t v) ok = finished_sound q G S t v ok x tick

-- what is sound stays sound: only under deadlines does the tick have to fit
pub next_sound : {ahead : ℕ → ℕ → Bool} {size : Size} {q : Saved} → Shape size q → Sound ahead size q → (x : ℕ) → (q.policy ≢ 0 → FitsTick q x) → (e : Event ℕ) → judged_on ahead q e ≡ 0
    → Sound ahead size (next_at ahead q x e)
next_sound {ahead} {size} {q} S G x tick e ok = go (eqb q.policy 0) refl
  where
    go : (b : Bool) → eqb q.policy 0 ≡ b → Sound ahead size (next_at ahead q x e)
    go true i = rw (any_tick ahead q x q.last e i) (next_fitting S G q.last (omega arith, G.times.small) e ok)
    go false i = next_fitting S G x (tick (eqb-false q.policy 0 i)) e ok

-- one of two lists of a length has it
either_length : (b : Bool) (xs ys : List ℕ) {n : ℕ} → length xs ≡ n → length ys ≡ n → length (cond b xs ys) ≡ n
either_length true xs ys e f = e
either_length false xs ys e f = f

-- no event changes the lengths of the lists
pub next_shape : (ahead : ℕ → ℕ → Bool) {size : Size} {q : Saved} → Shape size q → (x : ℕ) (e : Event ℕ) → Shape size (next_at ahead q x e)
unfolding since_after newest_after previous_after seen_after pointer_after mark_after phase_after
next_shape ahead {size} {q} S x (arrival s) = record {
  defaults = S.defaults;
  phase = length_upto (phase_at s) q.tasks q.phase ∙ S.phase;
  newest = length_upto (newest_at ahead s (at q.writer) (at q.reader) (at q.pointer) q.links) q.tasks q.newest ∙ S.newest;
  previous = length_upto (previous_at s (at q.newest)) q.tasks q.previous ∙ S.previous;
  seen = length_upto (seen_at s) q.tasks q.seen ∙ S.seen;
  cells = S.cells;
  writer = S.writer;
  reader = S.reader;
  kind = S.kind;
  start_value = S.start_value;
  pointer = length_upto (pointer_at s (at q.writer) (at q.reader) (at q.kind) (at (newest_after ahead s q)) (at (previous_after s q))) q.links q.pointer ∙ S.pointer;
  mark = length_upto (mark_at s (at q.writer) (at q.reader) (at q.kind) (at (seen_after s q))) q.links q.mark ∙ S.mark;
  deadline = S.deadline;
  since = either_length (eqb q.policy 0) q.since _ S.since (length_upto (since_at s x) q.tasks q.since ∙ S.since);
}
next_shape ahead {size} {q} S x (start t) = record {
  defaults = S.defaults;
  phase = rw length-set S.phase;
  newest = S.newest;
  previous = S.previous;
  seen = S.seen;
  cells = S.cells;
  writer = S.writer;
  reader = S.reader;
  kind = S.kind;
  start_value = S.start_value;
  pointer = S.pointer;
  mark = S.mark;
  deadline = S.deadline;
  since = either_length (eqb q.policy 0) q.since _ S.since S.since;
}
next_shape ahead {size} {q} S x (read l) = record {
  defaults = S.defaults;
  phase = S.phase;
  newest = S.newest;
  previous = S.previous;
  seen = S.seen;
  cells = S.cells;
  writer = S.writer;
  reader = S.reader;
  kind = S.kind;
  start_value = S.start_value;
  pointer = S.pointer;
  mark = S.mark;
  deadline = S.deadline;
  since = either_length (eqb q.policy 0) q.since _ S.since S.since;
}
next_shape ahead {size} {q} S x (finish t v) = record {
  defaults = S.defaults;
  phase = rw length-set S.phase;
  newest = S.newest;
  previous = S.previous;
  seen = S.seen;
  cells = rw length-set S.cells;
  writer = S.writer;
  reader = S.reader;
  kind = S.kind;
  start_value = S.start_value;
  pointer = length_upto (freed_at ahead t (at q.writer) (at q.reader)) q.links q.pointer ∙ S.pointer;
  mark = length_upto (freed_at ahead t (at q.writer) (at q.reader)) q.links q.mark ∙ S.mark;
  deadline = S.deadline;
  since = either_length (eqb q.policy 0) q.since _ S.since (rw length-set S.since);
}
