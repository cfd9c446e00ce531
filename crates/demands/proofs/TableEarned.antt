-- The refusal of a table that is handed over whole, in words and as the code computes it.
-- Assumes nothing.
use mathlib.Core.Path.{◌≡◌, refl, sym, ap, subst, ◌∙◌}
use mathlib.Core.Logic.{◌≢◌, ◌⊎◌, inl, inr}
use mathlib.Core.Bool.{Bool, true, false, cond, not, ◌||◌}
use mathlib.Core.List.{List, ◌∷◌, ◌++◌}
use Prim.Native.Nat.{ℕ, zero, suc, ◌≤◌, ◌<◌}
use native.Mathlib.Omega.{arith}
use native.Mathlib.Decide.{ℕ_discrete}
use borrow.Author.Tests.{eqb-true, eqb-false, eq-eqb, ne_eqb, ltb-true, ltb-false, lt-ltb, le-ltb, not-true}
use lib.Dec.{eqb, ltb}
use lib.ListN.{length, length-append, take, drop, get_or, take-append-drop}
use lib.Seq.{get_or-take, length-take-le, drop-cons, take_at, get_or_at}
use Rattle.lists.specs.Lists.{leading}
use Rattle.lists.proofs.Bools.{and_left, and_right, and_both, or_left, or_right}
use Rattle.lists.proofs.Lists.{leading_zero}
use Rattle.protocol_state.specs.Records.{Task, deadline_of, no_link, link_of, ahead_of}
use Rattle.protocol_state.specs.Saved.{state_room}
use Rattle.protocol_state.specs.Fresh.{undated, then_dates, judged_lists}
use Rattle.protocol_state.specs.Rules.{fault_after, fault, judged_table}
use Rattle.protocol_state.proofs.Rules.{fault_agrees, obeys, no_fault, no_refusal}
use Rattle.protocol_state.proofs.Places.{leading_none_other}
use Rattle.protocol_state.proofs.Freshes.{fault_same, dated_each, each_dated}
use Rattle.recording_format.specs.Link.{Link, link_fault}
use Rattle.demands.specs.Station.{AllDated, Keeps}
use Rattle.demands.specs.Refusals.{Earns, none, first, LinkBreaks, no_task, direct_to_itself, unknown_kind, direct_ahead, twice, ninth, starts_direct, TableEarns}
use Rattle.demands.specs.Refusals as refusals
use Rattle.demands.proofs.Earned.{earns_one}
use Rattle.demands.proofs.Links.{either, or_second, found, some_at, link_earned}

-- ---- the first of some numbers that is not 0
first_at_lem : (f : ℕ → ℕ) (n : ℕ) → leading f n ≢ 0 → (j : ℕ) × (j < n) × ((i : ℕ) → i < j → f i ≡ 0) × (f j ≡ leading f n)
unfolding leading
first_at_lem f zero ne = absurd (ne refl)
first_at_lem f (suc n) ne = go (ℕ_discrete (leading f n) 0) (first_at_lem f n)
  where
    go : Dec (leading f n ≡ 0) → (leading f n ≢ 0 → (j : ℕ) × (j < n) × ((i : ℕ) → i < j → f i ≡ 0) × (f j ≡ leading f n))
        → (j : ℕ) × (j < suc n) × ((i : ℕ) → i < j → f i ≡ 0) × (f j ≡ cond (eqb (leading f n) 0) (f n) (leading f n))
    go (yes z) g = (n, omega arith, λ i h. leading_zero f n i z h, rw (eq-eqb _ 0 z))
    go (no z) g = let w = g z in (w.0, omega (arith, w.1), w.2, w.3 ∙ rw (ne_eqb _ 0 z))

first_is : (f : ℕ → ℕ) (n j : ℕ) → j < n → ((i : ℕ) → i < j → f i ≡ 0) → f j ≢ 0 → leading f n ≡ f j
unfolding leading
first_is f zero j h z ne = absurd (omega arith)
first_is f (suc n) j h z ne = go (ℕ_discrete j n) (λ k. first_is f n j k z ne)
  where
    go : Dec (j ≡ n) → (j < n → leading f n ≡ f j) → cond (eqb (leading f n) 0) (f n) (leading f n) ≡ f j
    go (yes e) g = rw (eq-eqb _ 0 (leading_none_other f n (λ i k. z i (omega arith)))) (ap f (sym e))
    go (no e) g = let i = g (omega (arith, e)) in rw (ne_eqb (leading f n) 0 (λ y. ne (sym i ∙ y))) i

-- no link earns 2
above_three : {ds : List Task} {ls : List Link} {l : Link} {n : ℕ} → LinkBreaks ds ls l n → 3 < n
above_three (no_task h) = omega arith
above_three (direct_to_itself k e) = omega arith
above_three (unknown_kind a b) = omega arith
above_three (direct_ahead e h) = omega arith
above_three (twice j h a b) = omega arith
above_three (ninth h b) = omega arith
above_three (starts_direct e n) = omega arith

link_other : {ds : List Task} {ls : List Link} {l : Link} {n : ℕ} → Earns (LinkBreaks ds ls l) n → n ≢ 2
link_other (none f) e = omega arith
link_other (first b f) e = omega (arith, above_three b)

-- ---- a table of tasks ds and links ls

module _ (ds : List Task) (ls : List Link) where
  abbrev faults : ℕ → ℕ
  faults = fault (ahead_of ds) (length ds) (link_of ls)

  -- the first links are these links
  link_take : (j i : ℕ) → i < j → link_of (take j ls) i ≡ link_of ls i
  link_take j i h = get_or-take j ls i no_link h

  -- and have their faults
  fault_take : (j i : ℕ) → i < j → fault (ahead_of ds) (length ds) (link_of (take j ls)) i ≡ faults i
  fault_take j i h = fault_same (ahead_of ds) (length ds) j (link_of (take j ls)) (link_of ls) (link_take j) i h

  -- what the code finds at fault in link j is what that link earns after the ones before it
  fault_nth : (j : ℕ) → j < length ls → Earns (LinkBreaks ds (take j ls) (link_of ls j)) (faults j)
  unfolding fault link_fault
  fault_nth j h =
      subst (λ (n : ℕ). Earns (LinkBreaks ds (take j ls) (link_of ls j)) n)
      (ap (λ (n : ℕ). fault_after (ahead_of ds) (length ds) (link_of (take j ls)) n (link_of ls j)) (length-take-le j ls (omega arith))
      ∙ fault_agrees (ahead_of ds) (length ds) j (link_of ls j) (link_take j))
      (link_earned ds (take j ls) (link_of ls j))

  -- a link that is not at fault obeys the rules, among the first links too
  first_keeps : (p j : ℕ) → j ≤ length ls → (1 ≤ length ds) × (length ds ≤ state_room.tasks) → AllDated p ds → length ls ≤ state_room.links → ((i : ℕ) → i < j → faults i ≡ 0)
      → Keeps p ds (take j ls)
  first_keeps p j h few dates least z = record {
    tasks = few;
    dates = dates;
    links = omega (arith, length-take-le j ls h);
    rules = λ i k. let m : i < j = omega (arith, length-take-le j ls h) in obeys (ahead_of ds) (length ds) (link_of (take j ls)) i (fault_take j i m ∙ z i m);
  }

  -- what comes after the counts of tasks and the dates: 3, or the first link's fault, and never 2
  abbrev linked : ℕ
  linked = cond (ltb state_room.links (length ls)) 3 (leading faults (length ls))

  leading_other : leading faults (length ls) ≢ 2
  leading_other e = let w = first_at_lem faults (length ls) (λ z. omega arith) in link_other (fault_nth w.0 w.1) (w.3 ∙ e)

  linked_other : linked ≢ 2
  linked_other = go (ltb state_room.links (length ls))
    where
      go : (b : Bool) → cond b 3 (leading faults (length ls)) ≢ 2
      go true e = omega arith
      go false e = leading_other e

-- what the code computes, under one of the two policies
abbrev judged_here : ℕ → List Task → List Link → ℕ
judged_here p ds ls = judged_lists state_room p ds ls

module _ (p : ℕ) (either_policy : p ≤ 1) (ds : List Task) (ls : List Link) where
  -- a task without a date
  undated_at : undated p ds ≡ true → (p ≡ 1) × ((t : ℕ) × (t < length ds) × (deadline_of ds t ≡ 0))
  undated_at e =
      let n : p ≢ 0 = eqb-false p 0 (not-true (eqb p 0) (and_left (not (eqb p 0)) _ e)) in
      let w = found (λ t. eqb (deadline_of ds t) 0) (length ds) (and_right (not (eqb p 0)) _ e) in
      (omega (arith, n), (w.0, w.1, eqb-true (deadline_of ds w.0) 0 w.2))

  pub judged_table_earned : TableEarns p ds ls (judged_here p ds ls)
  unfolding judged_table
  judged_table_earned = counts (eqb (length ds) 0 || ltb state_room.tasks (length ds)) refl
    where
      Few : Type 0
      Few = (1 ≤ length ds) × (length ds ≤ state_room.tasks)

      links : Few → AllDated p ds → length ls ≤ state_room.links → (x : ℕ) → leading (faults ds ls) (length ls) ≡ x → Dec (x ≡ 0) → TableEarns p ds ls x
      links few dates least x e (yes z) =
          rw z (refusals.kept (record {
            tasks = few;
            dates = dates;
            links = least;
            rules = λ l h. obeys (ahead_of ds) (length ds) (link_of ls) l (leading_zero (faults ds ls) (length ls) l (e ∙ z) h);
          }))
      links few dates least x e (no n) =
          let w = first_at_lem (faults ds ls) (length ls) (λ z. n (sym e ∙ z)) in
          refusals.link least (take w.0 ls) (link_of ls w.0) (drop (suc w.0) ls)
          (sym (take-append-drop w.0 ls) ∙ ap (λ (ys : List Link). take w.0 ls ++ ys) (drop-cons ls w.0 no_link w.1))
          (first_keeps ds ls p w.0 (omega (arith, w.1)) few dates least w.2)
          (subst (λ (k : ℕ). Earns (LinkBreaks ds (take w.0 ls) (link_of ls w.0)) k) (w.3 ∙ e) (fault_nth ds ls w.0 w.1)) n

      third : Few → AllDated p ds → (b : Bool) → ltb state_room.links (length ls) ≡ b → TableEarns p ds ls (cond b 3 (leading (faults ds ls) (length ls)))
      third few dates true e = refusals.links few.0 few.1 dates (ltb-true state_room.links (length ls) e)
      third few dates false e =
          links few dates (ltb-false state_room.links (length ls) e) (leading (faults ds ls) (length ls)) refl (ℕ_discrete (leading (faults ds ls) (length ls)) 0)

      second : Few → (b : Bool) → undated p ds ≡ b → TableEarns p ds ls (cond b 24 (linked ds ls))
      second few true e = let w = undated_at e in refusals.dates few.0 few.1 w.0 w.1.0 w.1.1 w.1.2
      second few false e = third few (dated_each p ds e) (ltb state_room.links (length ls)) refl

      wrong : (eqb (length ds) 0 ≡ true) ⊎ (ltb state_room.tasks (length ds) ≡ true) → (length ds ≡ 0) ⊎ (state_room.tasks < length ds)
      wrong (inl e) = inl (eqb-true (length ds) 0 e)
      wrong (inr e) = inr (ltb-true state_room.tasks (length ds) e)

      counts : (b : Bool) → (eqb (length ds) 0 || ltb state_room.tasks (length ds)) ≡ b → TableEarns p ds ls (then_dates (cond b 2 (linked ds ls)) (undated p ds))
      counts true e = refusals.tasks (wrong (either (eqb (length ds) 0) (ltb state_room.tasks (length ds)) e))
      counts false e =
          let some_task : length ds ≢ 0 = eqb-false (length ds) 0 (or_left (eqb (length ds) 0) _ e) in
          subst (λ (b : Bool). TableEarns p ds ls (cond b 2 (cond (undated p ds) 24 (linked ds ls)))) (sym (ne_eqb (linked ds ls) 2 (linked_other ds ls)))
          (second (omega arith, ltb-false state_room.tasks (length ds) (or_right (eqb (length ds) 0) _ e)) (undated p ds) refl)

  -- with the counts of tasks as they may be, the dates and what follows are left
  judged_on_lem : 1 ≤ length ds → length ds ≤ state_room.tasks → judged_here p ds ls ≡ cond (undated p ds) 24 (linked ds ls)
  unfolding judged_table
  judged_on_lem a b =
      ap (λ (c : Bool). then_dates (cond c 2 (linked ds ls)) (undated p ds)) (neither a b)
      ∙ ap (λ (c : Bool). cond c 2 (cond (undated p ds) 24 (linked ds ls))) (ne_eqb (linked ds ls) 2 (linked_other ds ls))
    where
      neither : 1 ≤ length ds → length ds ≤ state_room.tasks → (eqb (length ds) 0 || ltb state_room.tasks (length ds)) ≡ false
      neither a b = rw (ne_eqb (length ds) 0 (λ z. omega arith), le-ltb state_room.tasks (length ds) b)

  -- and where all have dates, what follows
  judged_after : 1 ≤ length ds → length ds ≤ state_room.tasks → AllDated p ds → judged_here p ds ls ≡ linked ds ls
  judged_after a b dates = judged_on_lem a b ∙ ap (λ (c : Bool). cond c 24 (linked ds ls)) (each_dated p ds either_policy dates)

  -- no other number is earned
  pub table_earns_one : {n : ℕ} → TableEarns p ds ls n → n ≡ judged_here p ds ls
  unfolding judged_table
  table_earns_one (refusals.tasks (inl z)) = rw (eq-eqb (length ds) 0 z)
  table_earns_one (refusals.tasks (inr h)) = rw (or_second (eqb (length ds) 0) (lt-ltb state_room.tasks (length ds) h))
  table_earns_one (refusals.dates a b e t h z) =
      sym (judged_on_lem a b
      ∙ ap (λ (c : Bool). cond c 24 (linked ds ls))
      (and_both (ap not (ne_eqb p 0 (λ y. omega arith))) (some_at (λ t. eqb (deadline_of ds t) 0) (length ds) t h (eq-eqb (deadline_of ds t) 0 z))))
  table_earns_one (refusals.links a b dates h) = sym (judged_after a b dates ∙ rw (lt-ltb state_room.links (length ls) h))
  table_earns_one (refusals.kept k) =
      sym (ap (λ (r : ℕ). then_dates r (undated p ds)) (no_refusal (ahead_of ds) (length ds) (link_of ls) state_room (length ls) k.tasks.0 k.tasks.1 k.links k.rules)
      ∙ ap (λ (c : Bool). cond {A = ℕ} c 24 0) (each_dated p ds either_policy k.dates))
  table_earns_one {n} (refusals.link least before l after e k g ne) =
      sym (judged_after k.tasks.0 k.tasks.1 k.dates ∙ rw (le-ltb state_room.links (length ls) least) there)
    where
      j : ℕ
      j = length before

      inside : j < length ls
      inside = omega (arith, ap length e, length-append before (l ∷ after))

      first_ones_lem : take j ls ≡ before
      first_ones_lem = ap (take j) e ∙ take_at before (l ∷ after) j refl

      this : link_of ls j ≡ l
      this = ap (λ (xs : List Link). get_or xs j no_link) e ∙ get_or_at before l after no_link j refl

      earned : faults ds ls j ≡ n
      earned = earns_one (subst (λ (xs : List Link). Earns (LinkBreaks ds xs (link_of ls j)) (faults ds ls j)) first_ones_lem (fault_nth ds ls j inside)) (subst (λ (x : Link). Earns (LinkBreaks ds before x) n) (sym this) g)

      zero_before : (i : ℕ) → i < j → faults ds ls i ≡ 0
      zero_before i h =
          sym (fault_take ds ls j i h)
          ∙ ap (λ (xs : List Link). fault (ahead_of ds) (length ds) (link_of xs) i) first_ones_lem
          ∙ no_fault (ahead_of ds) (length ds) (link_of before) i (k.rules i h)

      there : leading (faults ds ls) (length ls) ≡ n
      there = first_is (faults ds ls) (length ls) j inside zero_before (λ z. ne (sym earned ∙ z)) ∙ earned
