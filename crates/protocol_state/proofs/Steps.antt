-- Each allowed event does to a sound state's boxes what the published protocol does, with the lowest free position; a read gives its number.
-- Assumes nothing.
use mathlib.Core.Path.{◌≡◌, refl, sym, ap, ◌∙◌}
use mathlib.Core.Bool.{Bool, true, false, cond, ◌&&◌}
use mathlib.Core.List.{List}
use Prim.Native.Nat.{ℕ, ◌^◌, ◌≤◌, ◌<◌}
use native.Mathlib.Omega.{arith}
use native.Mathlib.Decide.{ℕ_discrete}
use borrow.Author.Tests.{ltb-true, eq-eqb, ne_eqb}
use lib.Dec.{eqb, ltb}
use lib.ListN.{get_or, length, set}
use lib.Seq.{get_or-set_same, get_or-set_other}
use Rattle.lists.proofs.Bools.{and_left}
use Rattle.protocol.specs.Event.{Event, arrival, start, read, finish, has}
use Rattle.protocol.specs.Table.{marks}
use Rattle.protocol.specs.Ranges.{Position}
use Rattle.protocol.specs.Published.{Lowest, Arrived, Finished, Step, comes, leaves, number}
use Rattle.protocol.proofs.Schedule.{has_below}
use Rattle.protocol_state.specs.Saved.{Size, Saved, Shape, at, cell_of, positions, one_to, delayed_kind, is_mark, table, boxes}
use Rattle.protocol_state.specs.Judge.{judged_arrival, judged_task, sooner_in, judged_on}
use Rattle.protocol_state.specs.Next.{newest_after, previous_after, seen_after, arrived, finished, next_at, value_of}
use Rattle.protocol_state.specs.Sound.{Sound}
use Rattle.protocol_state.proofs.Decision.{reads_running}
use Rattle.protocol_state.proofs.Places.{between, is_between, task_allowed, read_allowed}
use Rattle.protocol_state.proofs.Free.{boxes_inside, lowest_free_lem}
use Rattle.protocol_state.proofs.Arrivals.{newest_at_lem, previous_at_lem, seen_at_lem, aim, pointer_at_lem, mark_at_lem}
use Rattle.protocol_state.proofs.Keeps as keeps

-- a mark that is put, or goes, where b, or stays
marked_if : (b c : Bool) (m : ℕ) → is_mark (cond b (cond c 1 0) m) ≡ cond b c (is_mark m)
marked_if true true m = refl
marked_if true false m = refl
marked_if false c m = refl

-- positions of one task, or of two, do not share a cell
cell_apart : (u p t y : ℕ) → (1 ≤ p) × (p ≤ 10) → (1 ≤ y) × (y ≤ 10) → cell_of u p ≡ cell_of t y → (u ≡ t) × (p ≡ y)
cell_apart u p t y a b e = omega arith

-- a store at position y of task t, read at position p of task u
stored : (xs : List ℕ) (t y v d u p : ℕ) → (1 ≤ y) × (y ≤ 10) → cell_of t y < length xs
    → cond (one_to positions p) (at (set xs (cell_of t y) v) (cell_of u p)) d ≡ cond (eqb u t && eqb p y) v (cond (one_to positions p) (at xs (cell_of u p)) d)
stored xs t y v d u p b l = go (ℕ_discrete u t) (ℕ_discrete p y) where
  other : ((u ≡ t) × (p ≡ y) → ⊥) → (eqb u t && eqb p y) ≡ false
      → cond (one_to positions p) (at (set xs (cell_of t y) v) (cell_of u p)) d ≡ cond (eqb u t && eqb p y) v (cond (one_to positions p) (at xs (cell_of u p)) d)
  other n e = rw e (two (one_to positions p) refl) where
    two : (c : Bool) → one_to positions p ≡ c → cond c (at (set xs (cell_of t y) v) (cell_of u p)) d ≡ cond c (at xs (cell_of u p)) d
    two true i = get_or-set_other xs (cell_of t y) (cell_of u p) v 0 (λ k. n (cell_apart u p t y (between 10 p i) b k))
    two false i = refl

  go : Dec (u ≡ t) → Dec (p ≡ y)
      → cond (one_to positions p) (at (set xs (cell_of t y) v) (cell_of u p)) d ≡ cond (eqb u t && eqb p y) v (cond (one_to positions p) (at xs (cell_of u p)) d)
  go (yes i) (yes k) = rw (i, k, is_between 10 y b, eq-eqb t t refl, eq-eqb y y refl) (get_or-set_same xs (cell_of t y) v 0 l)
  go (yes i) (no k) = other (λ h. k h.1) (rw (eq-eqb u t i) (ne_eqb p y k))
  go (no i) k = other (λ h. i h.0) (rw (ne_eqb u t i))

module _ {ahead : ℕ → ℕ → Bool} {size : Size} (q : Saved) (S : Shape size q) (G : Sound ahead size q) where
  place : (t y : ℕ) → Position (table ahead q) t y → (1 ≤ y) × (y ≤ 10)
  place t y h = omega (arith, keeps.few q G t, h.0, h.1)

  has_room : (t : ℕ) → t < q.tasks → t < size.tasks
  has_room t l = omega (arith, (keeps.room q G).0)

  newest_inside : (t : ℕ) → t < q.tasks → get_or q.newest t 1 ≡ at q.newest t
  newest_inside t l = (boxes_inside S t (has_room t l)).0

  -- an arrival
  arrived_step : (s : ℕ) → judged_arrival s q.tasks (at q.phase) ≡ 0 → Arrived (table ahead q) (Lowest (table ahead q)) s (boxes q) (boxes (arrived ahead s q))
  arrived_step s ok = record {
    previous = λ t. previous t (has s t) refl;
    chosen = λ t e. rw (newest_at_lem q S s small (keeps.room q G).0 ahead t 1, e) (lowest_free_lem ahead q t (keeps.few q G t));
    kept = λ t e. newest_at_lem q S s small (keeps.room q G).0 ahead t 1 ∙ rw e;
    seen = seen_at_lem q S s small (keeps.room q G).0;
    pointer = λ l. pointer_at_lem ahead q S s (keeps.room q G).1 l ∙ pointer l (comes (table ahead q) s l) refl;
    mark = λ l. ap is_mark (mark_at_lem q S s (keeps.room q G).1 l) ∙ marked_if (comes (table ahead q) s l) (marks (table ahead q) l (at (seen_after s q) (at q.writer l))) (at q.mark l);
    cell = λ t p. refl;
  }
    where
      small : s < 2 ^ q.tasks
      small = keeps.small q G S s ok

      after : Shape size (next_at ahead q 0 (arrival s))
      after = keeps.next_shape ahead S 0 (arrival s)

      previous : (t : ℕ) (b : Bool) → has s t ≡ b → get_or (previous_after s q) t 1 ≡ cond b (get_or q.newest t 1) (get_or q.previous t 1)
      previous t true e = previous_at_lem q S s small (keeps.room q G).0 t 1 ∙ rw e (sym (newest_inside t (has_below s q.tasks t small e)))
      previous t false e = previous_at_lem q S s small (keeps.room q G).0 t 1 ∙ rw e

      pointer : (l : ℕ) (b : Bool) → comes (table ahead q) s l ≡ b → cond b (aim ahead s q l) (at q.pointer l)
          ≡ cond b (cond (delayed_kind (at q.kind l)) (get_or (previous_after s q) (at q.writer l) 1) (get_or (newest_after ahead s q) (at q.writer l) 1)) (at q.pointer l)
      pointer l false e = refl
      pointer l true e =
          let w = has_room (at q.writer l) (keeps.obeys q G l (ltb-true l q.links (and_left (ltb l q.links) _ e))).writer in
          let b = boxes_inside after (at q.writer l) w in
          rw (b.1, b.0)

  -- a finish
  finished_step : (t v : ℕ) → judged_task (sooner_in ahead q) 3 t q.tasks (at q.phase) ≡ 0 → Finished (table ahead q) t v (boxes q) (boxes (finished ahead t v q))
  finished_step t v ok =
      let l : t < q.tasks = keeps.finish_known q G S t v ok in
      let y = place t (at q.newest t) (G.newest t l) in
      record {
        newest = λ u. refl;
        previous = λ u. refl;
        seen = λ u. refl;
        pointer = keeps.freed_at_lem q G S t v;
        mark = λ l. ap is_mark (keeps.unmarked_at q G S t v l) ∙ marked_if (leaves (table ahead q) t l) false (at q.mark l);
        cell = λ u p. rw (newest_inside t l) (stored q.cells t (at q.newest t) v (at q.defaults u) u p y (omega (arith, S.cells, has_room t l, y.0, y.1)));
      }

  -- every allowed event is a step of the published protocol
  pub step : (x : ℕ) (e : Event ℕ) → judged_on ahead q e ≡ 0 → Step (table ahead q) (Lowest (table ahead q)) e (boxes q) (boxes (next_at ahead q x e))
  unfolding Step
  step x (arrival s) ok = arrived_step s ok
  step x (start t) ok = refl
  step x (read l) ok = refl
  step x (finish t v) ok = finished_step t v ok

  -- and an allowed read gives the number of the published protocol
  pub number_read_lem : (l : ℕ) → judged_on ahead q (read l) ≡ 0 → value_of q (read l) ≡ number (table ahead q) (boxes q) l
  number_read_lem l ok =
      let k = read_allowed (sooner_in ahead q) l q.tasks q.links (at q.reader) (at q.phase) ok in
      let a = task_allowed (sooner_in ahead q) 2 (at q.reader l) q.tasks (at q.phase) k.1 in
      let w = reads_running (at q.phase (at q.reader l)) (G.phase (at q.reader l) a.0) a.1 in
      let p = place (at q.writer l) (at q.pointer l) (G.present l k.0 (λ z. omega (arith, w.0)), G.pointer l k.0) in
      rw (is_between 10 (at q.pointer l) p)
