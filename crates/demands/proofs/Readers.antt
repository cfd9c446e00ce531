-- No task reads twice from one writer, so N counts a writer's less urgent readers; and what a run remembers of arrivals.
-- Assumes nothing.
use mathlib.Core.Path.{◌≡◌, refl, sym, ap, subst, ◌∙◌}
use mathlib.Core.Logic.{◌≢◌, ◌↔◌}
use mathlib.Core.Bool.{Bool, true, false, cond, ◌&&◌, ◌||◌, true≢false}
use mathlib.Core.List.{List}
use Prim.Native.Nat.{ℕ, zero, suc, ◌+◌, ◌≤◌, ◌<◌}
use native.Mathlib.Decide.{ℕ_discrete}
use native.Mathlib.Omega.{arith}
use borrow.Author.Tests.{eqb-true, ne_eqb, eq-eqb, lt-ltb, ltb-true, le-leb, leb-true}
use lib.Dec.{eqb, leb}
use Rattle.lists.specs.Lists.{some, count}
use Rattle.lists.proofs.Bools.{and_left, and_right, and_both}
use Rattle.protocol.specs.Event.{Event, arrival, start, read, finish}
use Rattle.protocol.specs.Table.{Table, marked, behinds, N}
use Rattle.protocol.specs.Schedule.{Policy, AllPossible}
use Rattle.protocol.specs.ZeroTime.{had}
use Rattle.protocol.specs.Published.{Boxes, Free, Step, Run, fresh, next}
use Rattle.protocol.proofs.Ranges.{ranged}
use Rattle.protocol_state.specs.Saved.{Saved, state_room, ahead_in, table}
use Rattle.protocol_state.specs.Sound.{StandsSound}
use Rattle.protocol_state.proofs.Places.{count_same}
use Rattle.demands.specs.Mailboxes.{less_urgent_readers, Mailboxes, Remembered}

-- a test that nothing passes
count_none : (f : ℕ → Bool) (m : ℕ) → ((r : ℕ) → f r ≡ false) → count f m ≡ 0
unfolding count
count_none f zero law = refl
count_none f (suc m) law = rw (law m) (count_none f m law)

-- one more that passes
count_more : (f g : ℕ → Bool) (k m : ℕ) → k < m → f k ≡ false → g k ≡ true → ((r : ℕ) → r ≢ k → g r ≡ f r) → count g m ≡ count f m + 1
unfolding count
count_more f g k zero l a b law = absurd (omega arith)
count_more f g k (suc m) l a b law = go (ℕ_discrete m k) (λ l. count_more f g k m l a b law)
  where
    go : Dec (m ≡ k) → (k < m → count g m ≡ count f m + 1) → cond (g m) (count g m + 1) (count g m) ≡ cond (f m) (count f m + 1) (count f m) + 1
    go (yes e) i = rw (e, a, b) (ap (λ (n : ℕ). n + 1) (count_same g f k (λ r l. law r (λ x. omega arith))))
    go (no n) i = rw (law m n) (both (f m) (i (omega (arith, n))))
      where
        both : (c : Bool) → count g m ≡ count f m + 1 → cond c (count g m + 1) (count g m) ≡ cond c (count f m + 1) (count f m) + 1
        both true j = ap (λ (n : ℕ). n + 1) j
        both false j = j

-- link j goes from w to r
abbrev joins : (ℕ → ℕ) → (ℕ → ℕ) → ℕ → ℕ → ℕ → Bool
joins W R w r j = eqb (W j) w && eqb (R j) r

module _ (ahead : ℕ → ℕ → Bool) (W R : ℕ → ℕ) (w T L : ℕ) (inside : (l : ℕ) → l < L → R l < T) (single : (j l : ℕ) → j < l → l < L → W j ≡ W l → R j ≢ R l) where
  -- r is behind w, and reads from it by one of the first n links
  abbrev behind_by : ℕ → ℕ → Bool
  behind_by n r = ahead w r && some (joins W R w r) n

  -- no earlier link joins the two
  not_yet : (k l : ℕ) → k ≤ l → l < L → W l ≡ w → some (joins W R w (R l)) k ≡ false
  unfolding some
  not_yet zero l a h e = refl
  not_yet (suc k) l a h e = rw (not_yet k l (omega arith) h e) (go (eqb (W k) w) refl)
    where
      go : (b : Bool) → eqb (W k) w ≡ b → (b && eqb (R k) (R l) || false) ≡ false
      go true i = rw (ne_eqb (R k) (R l) (single k l (omega arith) h (eqb-true (W k) w i ∙ sym e)))
      go false i = refl

  links_readers : (n : ℕ) → n ≤ L → behinds ahead W R w n ≡ count (behind_by n) T
  unfolding count some
  links_readers zero h = sym (count_none (λ r. ahead w r && false) T (λ r. never (ahead w r)))
    where
      never : (b : Bool) → (b && false) ≡ false
      never true = refl
      never false = refl
  links_readers (suc n) h = go (links_readers n (omega arith)) (eqb (W n) w) (ahead w (R n)) refl refl
    where
      -- a link to a reader ahead makes no reader behind
      none_behind : (r : ℕ) → ahead w (R n) ≡ false → (b x : Bool) → eqb (R n) r ≡ b → (ahead w r && x) ≡ (ahead w r && (b || x))
      none_behind r ec true x e = rw (subst (λ (k : ℕ). ahead w k ≡ false) (eqb-true (R n) r e) ec)
      none_behind r ec false x e = refl

      go : behinds ahead W R w n ≡ count (behind_by n) T → (b c : Bool) → eqb (W n) w ≡ b → ahead w (R n) ≡ c
          → cond (b && c) (behinds ahead W R w n + 1) (behinds ahead W R w n) ≡ count (λ r. ahead w r && (eqb (W n) w && eqb (R n) r || some (joins W R w r) n)) T
      go i true true eb ec =
          i' ∙ sym (count_more (behind_by n) (λ r. ahead w r && (eqb (W n) w && eqb (R n) r || some (joins W R w r) n)) (R n) T (inside n (omega arith))
          (rw (not_yet n n (omega arith) (omega arith) (eqb-true (W n) w eb), ec)) (rw (ec, eb, eq-eqb (R n) (R n) refl)) (λ r x. rw (eb, ne_eqb (R n) r (λ y. x (sym y)))))
        where
          i' : behinds ahead W R w n + 1 ≡ count (behind_by n) T + 1
          i' = ap (λ (k : ℕ). k + 1) i
      go i true false eb ec = i ∙ count_same (behind_by n) (λ r. ahead w r && (eqb (W n) w && eqb (R n) r || some (joins W R w r) n)) T (λ r l. rw eb (none_behind r ec (eqb (R n) r) (some (joins W R w r) n) refl))
      go i false c eb ec = i ∙ count_same (behind_by n) (λ r. ahead w r && (eqb (W n) w && eqb (R n) r || some (joins W R w r) n)) T (λ r l. rw eb)

-- what the rules say of a table: its readers are tasks, and no writer has two links to one reader
pub record Apart (T : Table ℕ) : Type 0 where
  pub inside : (l : ℕ) → l < T.links → T.reader l < T.tasks
  pub single : (j l : ℕ) → j < l → l < T.links → T.writer j ≡ T.writer l → T.reader j ≢ T.reader l

-- the table of a sound state
pub sound_apart : (q : Saved) → StandsSound state_room q → Apart (table (ahead_in q) q)
sound_apart q S =
    record { inside = λ l h. (S.rules.each l h).reader; single = λ j l i h. (S.rules.each l h).single j i }

-- nothing is ever put past a task's positions
run_unused : (T : Table ℕ) (may : Policy ℕ) {s : Boxes ℕ} {h : List (Event ℕ)} → Run T (Free T) s h → AllPossible T may h → (t p : ℕ) → N T t + 2 < p → s.cell t p ≡ T.default t
unfolding Step AllPossible
run_unused T may (fresh f) P t p l = f.cell t p
run_unused T may (next (arrival m) r A) P t p l = A.cell t p ∙ run_unused T may r P.1 t p l
run_unused T may (next (start u) r e) P t p l = rw e (run_unused T may r P.1 t p l)
run_unused T may (next (read k) r e) P t p l = rw e (run_unused T may r P.1 t p l)
run_unused T may (next {s = s} (finish u v) r F) P t p l = F.cell t p ∙ go (eqb t u) (eqb p (s.newest u)) refl refl ((ranged T may r P.1).newest u).1 (run_unused T may r P.1 t p l)
  where
    go : (b c : Bool) → eqb t u ≡ b → eqb p (s.newest u) ≡ c → s.newest u ≤ N T u + 2 → s.cell t p ≡ T.default t → cond (b && c) v (s.cell t p) ≡ T.default t
    go true true eb ec high k =
        let same : t ≡ u = eqb-true t u eb in
        let low : N T u + 2 < p = rw (← same) l in
        absurd (omega (arith, eqb-true p (s.newest u) ec))
    go true false eb ec high k = k
    go false c eb ec high k = k

-- positions and pointers of a run are among the mailboxes
pub run_mailboxes : (T : Table ℕ) (may : Policy ℕ) {h : List (Event ℕ)} {s : Boxes ℕ} → Apart T → Run T (Free T) s h → AllPossible T may h → Mailboxes T h s
unfolding less_urgent_readers
run_mailboxes T may {h} {s} A run P =
    let r = ranged T may run P in
    let same : (w : ℕ) → N T w ≡ less_urgent_readers T w =
    λ w. links_readers T.ahead T.writer T.reader w T.tasks T.links A.inside A.single T.links (omega arith) in
    record {
      newest = λ t l. subst (λ (n : ℕ). (1 ≤ s.newest t) × (s.newest t ≤ n + 2)) (same t) (r.newest t);
      previous = λ t l. subst (λ (n : ℕ). (1 ≤ s.previous t) × (s.previous t ≤ n + 2)) (same t) (r.previous t);
      pointer = λ l k. subst (λ (n : ℕ). s.pointer l ≤ n + 2) (same (T.writer l)) (r.pointer l k);
      present = r.present;
      unused = λ t p l k. run_unused T may run P t p (subst (λ (n : ℕ). n + 2 < p) (sym (same t)) k);
    }

-- what a run remembers of arrivals, and where it has marks
pub run_remembered : (T : Table ℕ) (may : Policy ℕ) {h : List (Event ℕ)} {s : Boxes ℕ} → Run T (Free T) s h → AllPossible T may h → Remembered T h s
run_remembered T may {h} {s} run P =
    let r = ranged T may run P in
    record { seen = λ t l. r.seen t; mark = λ l k. subst (λ (b : Bool). Settles l b) (sym (r.mark l k)) (settles (T.delayed l) l) }
  where
    -- the mark b of link l, by its pointer and its writer's arrivals
    Settles : ℕ → Bool → Type 0
    Settles l b = (b ≡ true) ↔ ((T.delayed l ≡ true) × (had T h l < 2) × (1 ≤ s.pointer l))

    settles : (d : Bool) (l : ℕ) → (leb 1 (s.pointer l) && marked d (had T h l) ≡ true) ↔ ((d ≡ true) × (had T h l < 2) × (1 ≤ s.pointer l))
    settles true l = (
      λ e. (refl, ltb-true (had T h l) 2 (and_right (leb 1 (s.pointer l)) _ e), leb-true 1 (s.pointer l) (and_left (leb 1 (s.pointer l)) _ e)),
      λ x. and_both (le-leb 1 (s.pointer l) x.2) (lt-ltb (had T h l) 2 x.1),
    )
    settles false l = (
      λ e. absurd (true≢false (sym (and_right (leb 1 (s.pointer l)) _ e))),
      λ x. absurd (true≢false (sym x.0)),
    )
