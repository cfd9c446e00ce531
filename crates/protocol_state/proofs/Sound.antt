-- The test of soundness passes exactly when the sentence on a sound state holds.
-- Assumes nothing.
use mathlib.Core.Path.{◌≡◌, refl, sym, ◌∙◌}
use mathlib.Core.Bool.{Bool, true, false, cond, not, ◌&&◌, ◌||◌, true≢false}
use Prim.Native.Nat.{ℕ, ◌+◌, ◌≤◌, ◌<◌}
use native.Mathlib.Omega.{arith}
use native.Mathlib.Decide.{ℕ_discrete}
use borrow.Author.Tests.{le-leb, leb-true, lt-ltb, ltb-true, eqb-true, eqb-false, eq-eqb, ne_eqb}
use lib.Dec.{eqb, ltb, leb}
use Rattle.lists.specs.Lists.{every}
use Rattle.lists.proofs.Bools.{and_left, and_right, and_both}
use Rattle.lists.proofs.Lists.{every_at, every_of}
use Rattle.protocol.specs.Table.{N}
use Rattle.protocol_state.specs.Saved.{Size, Saved, at, delayed_kind, link_in, table}
use Rattle.protocol_state.specs.Rules.{judged_table}
use Rattle.protocol_deadlines.specs.Timed.{limit}
use Rattle.protocol_state.specs.Sound.{within, seen_is, mark_is, since_is, deadline_is, clock_is, seen_ok, time_ok, task_ok, pointer_ok, task_stands, link_stands, is_sound, Sound}
use Rattle.protocol_state.proofs.Rules.{judged_keeps, keeps_judged}
use Rattle.protocol_state.proofs.Places.{between, is_between, or_not}
use Rattle.protocol_state.proofs.Rules as rules

-- what a pointer y must be: absent at an idle reader, if the writer is ahead; present at an active one
present_is : (b a : Bool) (y : ℕ) → b ≡ false → cond b (not a || eqb y 0) (leb 1 y) ≡ true → 1 ≤ y
present_is true a y e h = absurd (true≢false e)
present_is false a y e h = leb-true 1 y h

absent_is : (b a : Bool) (y : ℕ) → b ≡ true → a ≡ true → cond b (not a || eqb y 0) (leb 1 y) ≡ true → y ≡ 0
absent_is false a y e f h = absurd (true≢false (sym e))
absent_is true a y e f h = eqb-true y 0 (or_not a _ h f)

pointer_is_lem : (b a : Bool) (y : ℕ) → (b ≡ false → 1 ≤ y) → (b ≡ true → a ≡ true → y ≡ 0) → cond b (not a || eqb y 0) (leb 1 y) ≡ true
pointer_is_lem false a y p n = le-leb 1 y (p refl)
pointer_is_lem true true y p n = eq-eqb y 0 (n refl refl)
pointer_is_lem true false y p n = refl

-- what is seen of a task's arrivals: no, one or more, and who has had none is idle
seen_says : (ph a : ℕ) → seen_is ph a ≡ true → (a < 3) × (a ≡ 0 → ph ≡ 0)
seen_says ph a e = (ltb-true a 3 (and_left (ltb a 3) _ e), λ z. eqb-true ph 0 (or_not (eqb a 0) _ (and_right (ltb a 3) _ e) (eq-eqb a 0 z)))

seen_is_lem : (ph a : ℕ) → a < 3 → (a ≡ 0 → ph ≡ 0) → seen_is ph a ≡ true
seen_is_lem ph a l i = and_both (lt-ltb a 3 l) (go (eqb a 0) refl)
  where
    go : (b : Bool) → eqb a 0 ≡ b → (not b || eqb ph 0) ≡ true
    go true e = eq-eqb ph 0 (i (eqb-true a 0 e))
    go false e = refl

-- the mark m of a link of kind k, by its pointer y and by its writer's arrivals a
abbrev Marked : ℕ → ℕ → ℕ → ℕ → Type 0
Marked k y a m = (m ≤ 1) × (m ≡ 1 → (delayed_kind k ≡ true) × (1 ≤ y)) × (delayed_kind k ≡ true → 1 ≤ y → a < 2 → m ≡ 1)

mark_says : (k y a m : ℕ) → mark_is k y a m ≡ true → Marked k y a m
mark_says k y a m e = go (delayed_kind k && leb 1 y) refl (ltb a 2) refl e
  where
    there : (delayed_kind k && leb 1 y) ≡ true → (delayed_kind k ≡ true) × (1 ≤ y)
    there i = (and_left (delayed_kind k) _ i, leb-true 1 y (and_right (delayed_kind k) _ i))

    go : (b : Bool) → (delayed_kind k && leb 1 y) ≡ b → (c : Bool) → ltb a 2 ≡ c → cond b (cond c (eqb m 1) (leb m 1)) (eqb m 0) ≡ true → Marked k y a m
    go true i true j f = let z : m ≡ 1 = eqb-true m 1 f in (omega arith, λ x. there i, λ x p l. z)
    go true i false j f = (leb-true m 1 f, λ x. there i, λ x p l. absurd (true≢false (sym (lt-ltb a 2 l) ∙ j)))
    go false i c j f =
        let z : m ≡ 0 = eqb-true m 0 f in
        (omega arith, λ x. absurd (omega arith), λ x p l. absurd (true≢false (sym (and_both x (le-leb 1 y p)) ∙ i)))

mark_is_lem : (k y a m : ℕ) → Marked k y a m → mark_is k y a m ≡ true
mark_is_lem k y a m M = go (delayed_kind k && leb 1 y) refl (ltb a 2) refl
  where
    go : (b : Bool) → (delayed_kind k && leb 1 y) ≡ b → (c : Bool) → ltb a 2 ≡ c → cond b (cond c (eqb m 1) (leb m 1)) (eqb m 0) ≡ true
    go true i true j = eq-eqb m 1 (M.2 (and_left (delayed_kind k) _ i) (leb-true 1 y (and_right (delayed_kind k) _ i)) (ltb-true a 2 j))
    go true i false j = le-leb m 1 M.0
    go false i c j = eq-eqb m 0 (none (ℕ_discrete m 1))
      where
        none : Dec (m ≡ 1) → m ≡ 0
        none (yes z) = let h = M.1 z in absurd (true≢false (sym (and_both h.0 (le-leb 1 y h.1)) ∙ i))
        none (no z) = omega (arith, M.0)

-- the arrival tick y of a task with this phase, by the last tick z
since_says : (ph y z : ℕ) → since_is ph y z ≡ true → (y ≤ z) × (ph ≡ 0 → y ≡ 0)
since_says ph y z e = go (eqb ph 0) refl e
  where
    go : (b : Bool) → eqb ph 0 ≡ b → leb y (cond b 0 z) ≡ true → (y ≤ z) × (ph ≡ 0 → y ≡ 0)
    go true i f = let l : y ≤ 0 = leb-true y 0 f in (omega arith, λ k. omega arith)
    go false i f = (leb-true y z f, λ k. absurd (eqb-false ph 0 i k))

since_is_lem : (ph y z : ℕ) → y ≤ z → (ph ≡ 0 → y ≡ 0) → since_is ph y z ≡ true
since_is_lem ph y z l i = go (eqb ph 0) refl
  where
    go : (b : Bool) → eqb ph 0 ≡ b → leb y (cond b 0 z) ≡ true
    go true e = le-leb y 0 (omega (arith, i (eqb-true ph 0 e)))
    go false e = le-leb y z l

-- a relative deadline d under the policy p
deadline_says : (p d : ℕ) → deadline_is p d ≡ true → (p ≡ 1 → 1 ≤ d) × (p ≡ 0 → d ≡ 0)
deadline_says p d e = go (eqb p 0) refl e
  where
    go : (b : Bool) → eqb p 0 ≡ b → cond b (eqb d 0) (leb 1 d) ≡ true → (p ≡ 1 → 1 ≤ d) × (p ≡ 0 → d ≡ 0)
    go true i f = let z : p ≡ 0 = eqb-true p 0 i in (λ k. absurd (omega arith), λ k. eqb-true d 0 f)
    go false i f = (λ k. leb-true 1 d f, λ k. absurd (eqb-false p 0 i k))

deadline_is_lem : (p d : ℕ) → p ≤ 1 → (p ≡ 1 → 1 ≤ d) → (p ≡ 0 → d ≡ 0) → deadline_is p d ≡ true
deadline_is_lem p d l one none = go (eqb p 0) refl
  where
    go : (b : Bool) → eqb p 0 ≡ b → cond b (eqb d 0) (leb 1 d) ≡ true
    go true e = eq-eqb d 0 (none (eqb-true p 0 e))
    go false e = le-leb 1 d (one (omega (arith, eqb-false p 0 e)))

-- the policy p and the last tick z
clock_says : (p z : ℕ) → clock_is p z ≡ true → (p ≤ 1) × (z ≤ limit) × (p ≡ 0 → z ≡ 0)
clock_says p z e = go (eqb p 0) refl (and_right (leb p 1) _ e)
  where
    few : p ≤ 1
    few = leb-true p 1 (and_left (leb p 1) _ e)

    go : (b : Bool) → eqb p 0 ≡ b → leb z (cond b 0 limit) ≡ true → (p ≤ 1) × (z ≤ limit) × (p ≡ 0 → z ≡ 0)
    go true i f = let l : z ≤ 0 = leb-true z 0 f in (few, omega arith, λ k. omega arith)
    go false i f = (few, leb-true z limit f, λ k. absurd (eqb-false p 0 i k))

clock_is_lem : (p z : ℕ) → p ≤ 1 → z ≤ limit → (p ≡ 0 → z ≡ 0) → clock_is p z ≡ true
clock_is_lem p z l h none = and_both (le-leb p 1 l) (go (eqb p 0) refl)
  where
    go : (b : Bool) → eqb p 0 ≡ b → leb z (cond b 0 limit) ≡ true
    go true e = le-leb z 0 (omega (arith, none (eqb-true p 0 e)))
    go false e = le-leb z limit h

module _ (ahead : ℕ → ℕ → Bool) (size : Size) (q : Saved) where
  abbrev a_task : ℕ → Bool
  a_task = task_stands ahead q

  abbrev a_link : ℕ → Bool
  a_link = link_stands ahead q

  -- so of link l
  abbrev MarkedAt : ℕ → Type 0
  MarkedAt l = Marked (at q.kind l) (at q.pointer l) (at q.seen (at q.writer l)) (at q.mark l)

  abbrev judgement : ℕ
  judgement = judged_table ahead q.tasks (link_in q) size q.links

  -- where the test passes, there is room for the counts
  pub sound_room : is_sound ahead size q ≡ true → (q.tasks ≤ size.tasks) × (q.links ≤ size.links)
  unfolding is_sound
  sound_room s = rules.room ahead q.tasks (link_in q) size q.links (eqb-true _ 0 (and_left (eqb judgement 0) _ s))

  -- where the test passes, the sentence holds
  pub sound_says : is_sound ahead size q ≡ true → Sound ahead size q
  unfolding is_sound
  sound_says e =
      let clocked = and_right (eqb judgement 0) _ e in
      let clock = clock_says q.policy q.last (and_left (clock_is q.policy q.last) _ clocked) in
      let rest = and_right (clock_is q.policy q.last) _ clocked in
      let each : (t : ℕ) → t < q.tasks → a_task t ≡ true = λ t l. every_at a_task q.tasks t (and_left (every a_task q.tasks) _ rest) l in
      let both : (l : ℕ) → l < q.links → a_link l ≡ true = λ l h. every_at a_link q.links l (and_right (every a_task q.tasks) _ rest) h in
      let tasks : (t : ℕ) → t < q.tasks → task_ok ahead q t ≡ true = λ t l. and_left (task_ok ahead q t) _ (each t l) in
      let seens : (t : ℕ) → t < q.tasks → (at q.seen t < 3) × (at q.seen t ≡ 0 → at q.phase t ≡ 0) = λ t l. seen_says _ _ (and_left (seen_ok q t) _ (and_right (task_ok ahead q t) _ (each t l))) in
      let timed : (t : ℕ) → t < q.tasks → time_ok q t ≡ true = λ t l. and_right (seen_ok q t) _ (and_right (task_ok ahead q t) _ (each t l)) in
      let sinces : (t : ℕ) → t < q.tasks → (at q.since t ≤ q.last) × (at q.phase t ≡ 0 → at q.since t ≡ 0) =
      λ t l. since_says (at q.phase t) (at q.since t) q.last (and_left (since_is (at q.phase t) (at q.since t) q.last) _ (timed t l)) in
      let deadlines : (t : ℕ) → t < q.tasks → (q.policy ≡ 1 → 1 ≤ at q.deadline t) × (q.policy ≡ 0 → at q.deadline t ≡ 0) =
      λ t l. deadline_says q.policy (at q.deadline t) (and_right (since_is (at q.phase t) (at q.since t) q.last) _ (timed t l)) in
      let pointers : (l : ℕ) → l < q.links → pointer_ok ahead q l ≡ true = λ l h. and_left (pointer_ok ahead q l) _ (both l h) in
      let marks : (l : ℕ) → l < q.links → MarkedAt l = λ l h. mark_says (at q.kind l) (at q.pointer l) _ (at q.mark l) (and_right (pointer_ok ahead q l) _ (both l h)) in
      record {
        rules = judged_keeps ahead q.tasks (link_in q) size q.links (eqb-true judgement 0 (and_left (eqb judgement 0) _ e));
        phase = λ t l. ltb-true (at q.phase t) 3 (and_left (ltb (at q.phase t) 3) _ (tasks t l));
        newest = λ t l. between (N (table ahead q) t + 2) (at q.newest t)
            (and_left (within (N (table ahead q) t) (at q.newest t)) _ (and_right (ltb (at q.phase t) 3) _ (tasks t l)));
        previous = λ t l. between (N (table ahead q) t + 2) (at q.previous t)
            (and_right (within (N (table ahead q) t) (at q.newest t)) _ (and_right (ltb (at q.phase t) 3) _ (tasks t l)));
        pointer = λ l h. leb-true (at q.pointer l) _ (and_left (leb (at q.pointer l) _) _ (pointers l h));
        present = λ l h n. present_is _ (ahead (at q.writer l) (at q.reader l)) (at q.pointer l) (ne_eqb _ 0 n) (and_right (leb (at q.pointer l) _) _ (pointers l h));
        absent = λ l h a z. absent_is _ (ahead (at q.writer l) (at q.reader l)) (at q.pointer l) (eq-eqb _ 0 z) a (and_right (leb (at q.pointer l) _) _ (pointers l h));
        seen = λ t l. (seens t l).0;
        unseen = λ t l. (seens t l).1;
        mark = λ l h. (marks l h).0;
        held = λ l h. (marks l h).1;
        early = λ l h. (marks l h).2;
        times = record {
          either = clock.0;
          none_later = λ t l. (sinces t l).0;
          idle = λ t l. (sinces t l).1;
          small = clock.1;
          dated = λ p t l. (deadlines t l).0 p;
          undated = λ p t l. (deadlines t l).1 p;
          unclocked = clock.2;
        };
      }

  -- and where it holds, the test passes
  pub says_sound : Sound ahead size q → is_sound ahead size q ≡ true
  unfolding is_sound
  says_sound G =
      and_both (eq-eqb judgement 0 (keeps_judged ahead q.tasks (link_in q) size q.links G.rules))
      (and_both (clock_is_lem q.policy q.last G.times.either G.times.small G.times.unclocked)
      (and_both
      (every_of a_task q.tasks (λ t l. and_both
      (and_both (lt-ltb _ 3 (G.phase t l)) (and_both (is_between _ _ (G.newest t l)) (is_between _ _ (G.previous t l))))
      (and_both (seen_is_lem _ _ (G.seen t l) (G.unseen t l))
      (and_both (since_is_lem (at q.phase t) (at q.since t) q.last (G.times.none_later t l) (G.times.idle t l))
      (deadline_is_lem q.policy (at q.deadline t) G.times.either (λ p. G.times.dated p t l) (λ p. G.times.undated p t l))))))
      (every_of a_link q.links (λ l h. and_both
      (and_both (le-leb _ _ (G.pointer l h))
      (pointer_is_lem (eqb (at q.phase (at q.reader l)) 0) (ahead (at q.writer l) (at q.reader l)) (at q.pointer l)
      (λ n. G.present l h (eqb-false _ 0 n)) (λ z a. G.absent l h a (eqb-true _ 0 z))))
      (mark_is_lem (at q.kind l) (at q.pointer l) _ (at q.mark l) (G.mark l h, G.held l h, G.early l h))))))
