-- The refusal of an event at its tick, in words and as the code computes it: by the phases and ticks of a sound state, and by the history.
-- Assumes nothing.
use mathlib.Core.Path.{◌≡◌, refl, sym, ap, subst, ◌∙◌}
use mathlib.Core.Logic.{◌≢◌, ◌⊎◌, inl, inr}
use mathlib.Core.Bool.{Bool, true, false, cond, not, ◌&&◌, ◌||◌, true≢false}
use mathlib.Core.List.{List, [], ◌∷◌}
use Prim.Native.Nat.{ℕ, ◌^◌, ◌≤◌, ◌<◌}
use native.Mathlib.Omega.{arith}
use borrow.Author.Tests.{eqb-true, ne_eqb, ltb-true, lt-ltb, leb-true, leb-false, le-leb, lt-leb}
use lib.Dec.{eqb, ltb, leb, lit<}
use lib.ListN.{length}
use Rattle.lists.specs.Lists.{some}
use Rattle.lists.proofs.Bools.{and_left, and_right, and_both}
use Rattle.protocol.specs.Event.{Event, arrival, start, read, finish, has}
use Rattle.protocol.specs.Table.{Table}
use Rattle.protocol.specs.History.{reads}
use Rattle.protocol.specs.Schedule.{judged}
use Rattle.protocol.proofs.Schedule.{has_not}
use Rattle.protocol_deadlines.specs.Timed.{Timed, timed, limit, untimed, last, tried, late, judged_at}
use Rattle.protocol_state.specs.Saved.{Saved, state_room, at, ahead_in, busy, table}
use Rattle.protocol_state.specs.Judge.{allows, may_arrive, preempted, judged_arrival, judged_task, judged_read, due_in, late_in, sooner_in, judged_on, judged_on_at}
use Rattle.protocol_state.specs.Decision.{decided, rule}
use Rattle.protocol_state.specs.Sound.{StandsSound}
use Rattle.protocol_state.proofs.Decision.{decided_rule}
use Rattle.protocol_state.proofs.Phases.{sooner_both, judged_both}
use Rattle.protocol_state.proofs.Places.{every_none_fails, some_same}
use Rattle.recording_core.specs.Playing.{full, no_room, then_room}
use Rattle.recording_core.specs.Promise.{refused_by}
use Rattle.demands.specs.Refusals.{turn, Earns, none, first, Standing, by_history, goes_before, EventBreaks, RecordBreaks, nobody, a_stranger, starts_no_task, reads_no_link, finishes_no_task, too_large, falls, arrives_again, starts_not_waiting, reads_not_running, finishes_not_running, starts_out_of_turn, reads_out_of_turn, finishes_out_of_turn, finishes_late}
use Rattle.demands.specs.Refusals as refusals
use Rattle.demands.proofs.Bits.{high_bit}
use Rattle.demands.proofs.Links.{either, or_first, or_second, found, some_at}
use Rattle.demands.proofs.Earned.{earns_alike, Test, test, chain, Fires, here, later, chain_earns}

not_false : {b : Bool} → not b ≡ true → b ≡ false
not_false {b} e = go b refl e
  where
    go : (c : Bool) → b ≡ c → not c ≡ true → b ≡ false
    go true i u = absurd (true≢false (sym u))
    go false i u = i

not_of : {b : Bool} → b ≡ false → not b ≡ true
not_of e = rw e

module _ (T : Table ℕ) (stands : Standing) (x : ℕ) where
  -- a job that goes before that of task t is active
  abbrev held_back : ℕ → Bool
  held_back t = some (λ u. goes_before T stands u t && stands.active u) T.tasks

  -- 12, which is tried first
  abbrev unknown : Event ℕ → Bool
  unknown (arrival m) = eqb m 0 || leb (2 ^ T.tasks) m
  unknown (start t) = leb T.tasks t
  unknown (read l) = leb T.links l
  unknown (finish t v) = leb T.tasks t

  -- the tests of each kind of event that follow those of the tick
  abbrev others : Event ℕ → List Test
  others (arrival m) = test 13 (some (λ t. has m t && stands.active t) T.tasks) ∷ []
  others (start t) = test 14 (not (stands.waiting t)) ∷ test 16 (held_back t) ∷ []
  others (read l) = test 15 (not (stands.running (T.reader l))) ∷ test 16 (held_back (T.reader l)) ∷ []
  others (finish t v) = test 15 (not (stands.running t)) ∷ test 16 (held_back t) ∷ test 23 (ltb (stands.due t) x) ∷ []

  abbrev tests : Event ℕ → List Test
  tests e = test 12 (unknown e) ∷ test 22 (ltb limit x) ∷ test 21 (ltb x stands.last) ∷ others e

  -- a set that has a task past the table
  past_table : (m t : ℕ) → T.tasks ≤ t → has m t ≡ true → leb (2 ^ T.tasks) m ≡ true
  past_table m t h e = go (leb (2 ^ T.tasks) m) refl
    where
      go : (b : Bool) → leb (2 ^ T.tasks) m ≡ b → leb (2 ^ T.tasks) m ≡ true
      go true i = i
      go false i = absurd (true≢false (sym e ∙ has_not m T.tasks t (leb-false _ m i) h))

  fires_unknown : (e : Event ℕ) → unknown e ≡ true → EventBreaks T stands x e 12
  fires_unknown (arrival m) e = go (either (eqb m 0) (leb (2 ^ T.tasks) m) e)
    where
      go : (eqb m 0 ≡ true) ⊎ (leb (2 ^ T.tasks) m ≡ true) → EventBreaks T stands x (arrival m) 12
      go (inl i) = rw (eqb-true m 0 i) nobody
      go (inr i) = let w = high_bit m T.tasks (leb-true _ m i) in a_stranger w.0 w.1 w.2
  fires_unknown (start t) e = starts_no_task (leb-true _ _ e)
  fires_unknown (read l) e = reads_no_link (leb-true _ _ e)
  fires_unknown (finish t v) e = finishes_no_task (leb-true _ _ e)

  -- who holds it back
  waits : (t : ℕ) → held_back t ≡ true → (u : ℕ) × (u < T.tasks) × (goes_before T stands u t ≡ true) × (stands.active u ≡ true)
  waits t e =
      let w = found (λ u. goes_before T stands u t && stands.active u) T.tasks e in
      (w.0, w.1, and_left (goes_before T stands w.0 t) _ w.2, and_right (goes_before T stands w.0 t) _ w.2)

  holds : (t u : ℕ) → u < T.tasks → goes_before T stands u t ≡ true → stands.active u ≡ true → held_back t ≡ true
  holds t u h a b = some_at (λ u. goes_before T stands u t && stands.active u) T.tasks u h (and_both a b)

  broken_fires : {e : Event ℕ} {n : ℕ} → EventBreaks T stands x e n → Fires (tests e) n
  broken_fires nobody = here (or_first (leb (2 ^ T.tasks) 0) refl)
  broken_fires (a_stranger {m} t h e) = here (or_second (eqb m 0) (past_table m t h e))
  broken_fires (starts_no_task h) = here (le-leb _ _ h)
  broken_fires (reads_no_link h) = here (le-leb _ _ h)
  broken_fires (finishes_no_task h) = here (le-leb _ _ h)
  broken_fires (too_large h) = later (here (lt-ltb _ _ h))
  broken_fires (falls h) = later (later (here (lt-ltb _ _ h)))
  broken_fires (arrives_again {m} t h e a) = later (later (later (here (some_at (λ t. has m t && stands.active t) T.tasks t h (and_both e a)))))
  broken_fires (starts_not_waiting e) = later (later (later (here (not_of e))))
  broken_fires (reads_not_running e) = later (later (later (here (not_of e))))
  broken_fires (finishes_not_running e) = later (later (later (here (not_of e))))
  broken_fires (starts_out_of_turn {t} u h a b) = later (later (later (later (here (holds t u h a b)))))
  broken_fires (reads_out_of_turn {l} u h a b) = later (later (later (later (here (holds (T.reader l) u h a b)))))
  broken_fires (finishes_out_of_turn {t} u h a b) = later (later (later (later (here (holds t u h a b)))))
  broken_fires (finishes_late h) = later (later (later (later (later (here (lt-ltb _ _ h))))))

  fires_others : (e : Event ℕ) {n : ℕ} → Fires (others e) n → EventBreaks T stands x e n
  fires_others (arrival m) (here e) =
      let w = found (λ t. has m t && stands.active t) T.tasks e in
      arrives_again w.0 w.1 (and_left (has m w.0) _ w.2) (and_right (has m w.0) _ w.2)
  fires_others (start t) (here e) = starts_not_waiting (not_false e)
  fires_others (start t) (later (here e)) = let w = waits t e in starts_out_of_turn w.0 w.1 w.2 w.3
  fires_others (read l) (here e) = reads_not_running (not_false e)
  fires_others (read l) (later (here e)) = let w = waits (T.reader l) e in reads_out_of_turn w.0 w.1 w.2 w.3
  fires_others (finish t v) (here e) = finishes_not_running (not_false e)
  fires_others (finish t v) (later (here e)) = let w = waits t e in finishes_out_of_turn w.0 w.1 w.2 w.3
  fires_others (finish t v) (later (later (here e))) = finishes_late (ltb-true _ _ e)
  fires_others (arrival m) {n = n} (later past) = elim past [ ]
  fires_others (start t) {n = n} (later (later past)) = elim past [ ]
  fires_others (read l) {n = n} (later (later past)) = elim past [ ]
  fires_others (finish t v) {n = n} (later (later (later past))) = elim past [ ]

  fires_broken : (e : Event ℕ) {n : ℕ} → Fires (tests e) n → EventBreaks T stands x e n
  fires_broken e (here i) = fires_unknown e i
  fires_broken e (later (here i)) = too_large (ltb-true limit x i)
  fires_broken e (later (later (here i))) = falls (ltb-true x stands.last i)
  fires_broken e (later (later (later f))) = fires_others e f

  -- the first test that holds is what the event earns
  chain_earned : (e : Event ℕ) → Earns (EventBreaks T stands x e) (chain (tests e))
  unfolding turn
  chain_earned e = earns_alike (λ n f. fires_broken e f) (λ n b. broken_fires b) (in_turn e)
    where
      in_turn : (e : Event ℕ) → Earns (Fires (tests e)) (chain (tests e))
      in_turn (arrival m) = chain_earns 0 (tests (arrival m)) (lit< tt, (lit< tt, (lit< tt, (lit< tt, tt))))
      in_turn (start t) = chain_earns 0 (tests (start t)) (lit< tt, (lit< tt, (lit< tt, (lit< tt, (lit< tt, tt)))))
      in_turn (read l) = chain_earns 0 (tests (read l)) (lit< tt, (lit< tt, (lit< tt, (lit< tt, (lit< tt, tt)))))
      in_turn (finish t v) = chain_earns 0 (tests (finish t v)) (lit< tt, (lit< tt, (lit< tt, (lit< tt, (lit< tt, (lit< tt, tt))))))

  -- the rules of events are tried after 0 and before 18
  between : {e : Event ℕ} {n : ℕ} → EventBreaks T stands x e n → (turn 0 < turn n) × (turn n < turn 18)
  unfolding turn
  between nobody = (lit< tt, lit< tt)
  between (a_stranger t k e) = (lit< tt, lit< tt)
  between (starts_no_task k) = (lit< tt, lit< tt)
  between (reads_no_link k) = (lit< tt, lit< tt)
  between (finishes_no_task k) = (lit< tt, lit< tt)
  between (too_large k) = (lit< tt, lit< tt)
  between (falls k) = (lit< tt, lit< tt)
  between (arrives_again t k e a) = (lit< tt, lit< tt)
  between (starts_not_waiting e) = (lit< tt, lit< tt)
  between (reads_not_running e) = (lit< tt, lit< tt)
  between (finishes_not_running e) = (lit< tt, lit< tt)
  between (starts_out_of_turn u k a b) = (lit< tt, lit< tt)
  between (reads_out_of_turn u k a b) = (lit< tt, lit< tt)
  between (finishes_out_of_turn u k a b) = (lit< tt, lit< tt)
  between (finishes_late k) = (lit< tt, lit< tt)

-- in turn and phase, asked one way or the other
turn_asked : (p b : Bool) (k : ℕ) → cond p (cond (not b) 0 16) k ≡ cond (not p) k (cond b 16 0)
turn_asked true true k = refl
turn_asked true false k = refl
turn_asked false b k = refl

turn_held : (p b : Bool) (k : ℕ) → cond p (cond b 16 0) k ≡ cond (not p) k (cond b 16 0)
turn_held true b k = refl
turn_held false b k = refl

-- the tests of the tick come after 12: of an arrival, 13 if b
tried_arrival : (a b : Bool) (z x : ℕ) → tried (cond a 12 (cond b 13 0)) z x 0 ≡ cond a 12 (cond (ltb limit x) 22 (cond (ltb x z) 21 (cond b 13 0)))
tried_arrival true b z x = refl
tried_arrival false true z x = refl
tried_arrival false false z x = refl

-- of a start, a read or a finish, k if p and 16 if b; what is late comes last
tried_task : (a p b : Bool) (k z x late : ℕ) → k ≢ 12 → k ≢ 0
    → tried (cond a 12 (cond p k (cond b 16 0))) z x late ≡ cond a 12 (cond (ltb limit x) 22 (cond (ltb x z) 21 (cond p k (cond b 16 late))))
tried_task true p b k z x late m n = refl
tried_task false true b k z x late m n = rw (ne_eqb k 12 m, ne_eqb k 0 n)
tried_task false false true k z x late m n = refl
tried_task false false false k z x late m n = refl

-- by the history
module _ (T : Table ℕ) (H : List (Timed ℕ)) where
  abbrev stands : Standing
  stands = by_history T H

  judged_chain : (x : ℕ) (e : Event ℕ) → judged_at T H x e ≡ chain (tests T stands x e)
  unfolding judged_at judged late
  judged_chain x (arrival m) = tried_arrival (unknown T stands x (arrival m)) (some (λ t. has m t && stands.active t) T.tasks) (last H) x
  judged_chain x (start t) =
      ap (λ (n : ℕ). tried (cond (leb T.tasks t) 12 n) (last H) x 0) (turn_asked (stands.waiting t) (held_back T stands x t) 14)
      ∙ tried_task (leb T.tasks t) (not (stands.waiting t)) (held_back T stands x t) 14 (last H) x 0 (λ z. omega arith) (λ z. omega arith)
  judged_chain x (read l) =
      ap (λ (n : ℕ). tried (cond (leb T.links l) 12 n) (last H) x 0) (turn_asked (stands.running (T.reader l)) (held_back T stands x (T.reader l)) 15)
      ∙ tried_task (leb T.links l) (not (stands.running (T.reader l))) (held_back T stands x (T.reader l)) 15 (last H) x 0 (λ z. omega arith) (λ z. omega arith)
  judged_chain x (finish t v) =
      ap (λ (n : ℕ). tried (cond (leb T.tasks t) 12 n) (last H) x (cond (ltb (stands.due t) x) 23 0)) (turn_asked (stands.running t) (held_back T stands x t) 15)
      ∙ tried_task (leb T.tasks t) (not (stands.running t)) (held_back T stands x t) 15 (last H) x (cond (ltb (stands.due t) x) 23 0) (λ z. omega arith) (λ z. omega arith)

  pub judged_earned : (x : ℕ) (e : Event ℕ) → Earns (EventBreaks T stands x e) (judged_at T H x e)
  judged_earned x e = subst (λ (n : ℕ). Earns (EventBreaks T stands x e) n) (sym (judged_chain x e)) (chain_earned T stands x e)

  -- in a recording: then 18, where there is no room
  module _ (out : List ℕ) (x : ℕ) where
    abbrev filled : Bool
    filled = full out (reads (untimed H))

    -- what breaks no rule of events can only lack room
    only_room : (e : Event ℕ) → ((n : ℕ) → EventBreaks T stands x e n → ⊥) → {n : ℕ} → RecordBreaks T out H x e n → (n ≡ 18) × (no_room e filled ≡ 18)
    only_room e f (refusals.rule b) = absurd (f _ b)
    only_room e f (refusals.no_room k) = (refl, rw (le-leb (length out) (reads (untimed H)) k))

    room_earned : (e : Event ℕ) → ((n : ℕ) → EventBreaks T stands x e n → ⊥) → Earns (RecordBreaks T out H x e) (no_room e filled)
    room_earned (arrival m) f = none (λ n b. let z = (only_room (arrival m) f b).1 in omega arith)
    room_earned (start t) f = none (λ n b. let z = (only_room (start t) f b).1 in omega arith)
    room_earned (read l) f = go filled refl
      where
        go : (b : Bool) → filled ≡ b → Earns (RecordBreaks T out H x (read l)) (cond b 18 0)
        go true i = first (refusals.no_room (leb-true (length out) (reads (untimed H)) i)) (λ n k b. let z = ap turn (only_room (read l) f b).0 in omega arith)
        go false i = none (λ n b. let y : ◌≡◌ {A = ℕ} 0 18 = rw i at (only_room (read l) f b).1 in omega arith)
    room_earned (finish t v) f = none (λ n b. let z = (only_room (finish t v) f b).1 in omega arith)

    -- before the turn of a rule that is broken nothing fits but rules
    before : (e : Event ℕ) (r : ℕ) {n : ℕ} → turn r < turn 18 → turn n < turn r → (EventBreaks T stands x e n → ⊥) → RecordBreaks T out H x e n → ⊥
    before e r m k g (refusals.rule c) = g c
    before e r m k g (refusals.no_room c) = omega arith

    pub record_earned : (e : Event ℕ) → Earns (RecordBreaks T out H x e) (refused_by T out H (timed x e))
    record_earned e = go (judged_earned x e) refl
      where
        go : {y : ℕ} → Earns (EventBreaks T stands x e) y → judged_at T H x e ≡ y → Earns (RecordBreaks T out H x e) (refused_by T out H (timed x e))
        go (none f) i = subst (λ (y : ℕ). Earns (RecordBreaks T out H x e) (then_room y e filled)) (sym i) (room_earned e f)
        go (first {r = r} b f) i =
            let w = between T stands x b in
            subst (λ (y : ℕ). Earns (RecordBreaks T out H x e) y)
            (sym (ap (λ (y : ℕ). then_room y e filled) i ∙ rw (ne_eqb r 0 (λ z. let u = ap turn z in omega (arith, w.0)))))
            (first (refusals.rule b) (λ n k c. before e r w.1 k (λ d. f n k d) c))

-- by the phases and the ticks of a sound state: 0 idle, 1 waiting, 2 running
abbrev pub phases_of : Saved → Standing
phases_of q = record {
  active = busy q;
  waiting = λ t. eqb (at q.phase t) 1;
  running = λ t. eqb (at q.phase t) 2;
  due = due_in q;
  last = q.last;
}

-- a decision that is the next phase d or the refusal n
chosen : (x : ℕ) (b : Bool) (d n y : ℕ) → allows d ≡ true → allows n ≡ false → x ≡ cond b d n → cond (allows x) y x ≡ cond b y n
chosen x true d n y i j e = rw (e, i)
chosen x false d n y i j e = rw (e, j)

turns : (b : Bool) (x y : ℕ) → cond (not b) x y ≡ cond b y x
turns true x y = refl
turns false x y = refl

module _ (q : Saved) (S : StandsSound state_room q) (x : ℕ) where
  abbrev T : Table ℕ
  T = table (ahead_in q) q

  abbrev sooner : ℕ → ℕ → Bool
  sooner = sooner_in (ahead_in q) q

  abbrev held : ℕ → Bool
  held = held_back T (phases_of q) x

  may_arrive_lem : (m t : ℕ) → t < q.tasks → may_arrive m (at q.phase) t ≡ not (has m t && busy q t)
  may_arrive_lem m t l = rw (decided_rule 0 (at q.phase t) (omega arith) (S.phase t l)) (go (has m t) (eqb (at q.phase t) 0))
    where
      go : (x y : Bool) → (not x || allows (cond y 1 13)) ≡ not (x && not y)
      go true true = refl
      go true false = refl
      go false y = refl

  -- who goes before task t of the table
  preempted_held : (t : ℕ) → t < q.tasks → preempted sooner t q.tasks (at q.phase) ≡ held t
  preempted_held t l =
      some_same (λ u. sooner u t && busy q u) (λ u. goes_before T (phases_of q) u t && busy q u) q.tasks
      (λ u k. ap (λ (b : Bool). b && busy q u) (sooner_both q S (λ u t. refl) u t k l))

  -- an event by task t of the table
  task_refusal : (k t b n : ℕ) → k < 4 → t < q.tasks → (d : ℕ) → allows d ≡ true → allows n ≡ false → rule k (at q.phase t) ≡ cond (eqb (at q.phase t) b) d n
      → cond (allows (decided k (at q.phase t))) (cond (preempted sooner t q.tasks (at q.phase)) 16 0) (decided k (at q.phase t))
      ≡ cond (not (eqb (at q.phase t) b)) n (cond (held t) 16 0)
  task_refusal k t b n hk l d i j e =
      ap (λ (c : Bool). cond (allows (decided k (at q.phase t))) (cond c 16 0) (decided k (at q.phase t))) (preempted_held t l)
      ∙ chosen (decided k (at q.phase t)) (eqb (at q.phase t) b) d n (cond (held t) 16 0) i j (decided_rule k (at q.phase t) hk (S.phase t l) ∙ e)
      ∙ turn_held (eqb (at q.phase t) b) (held t) n

  judged_task_lem : (k t b n : ℕ) → k < 4 → (d : ℕ) → allows d ≡ true → allows n ≡ false → rule k (at q.phase t) ≡ cond (eqb (at q.phase t) b) d n
      → judged_task sooner k t q.tasks (at q.phase) ≡ cond (leb q.tasks t) 12 (cond (not (eqb (at q.phase t) b)) n (cond (held t) 16 0))
  unfolding judged_task
  judged_task_lem k t b n hk d i j e = go (leb q.tasks t) refl
    where
      go : (c : Bool) → leb q.tasks t ≡ c
          → cond c 12 (cond (allows (decided k (at q.phase t))) (cond (preempted sooner t q.tasks (at q.phase)) 16 0) (decided k (at q.phase t)))
          ≡ cond c 12 (cond (not (eqb (at q.phase t) b)) n (cond (held t) 16 0))
      go true u = refl
      go false u = task_refusal k t b n hk (omega (arith, leb-false q.tasks t u)) d i j e

  -- 12 to 16, ticks left aside
  judged_arrival_lem : (m : ℕ) → judged_arrival m q.tasks (at q.phase) ≡ cond (unknown T (phases_of q) x (arrival m)) 12 (cond (some (λ t. has m t && busy q t) q.tasks) 13 0)
  unfolding judged_arrival
  judged_arrival_lem m =
      ap (λ (b : Bool). cond (eqb m 0 || leb (2 ^ q.tasks) m) 12 (cond b 0 13)) (every_none_fails (may_arrive m (at q.phase)) (λ t. has m t && busy q t) q.tasks (may_arrive_lem m))
      ∙ ap (λ (n : ℕ). cond (eqb m 0 || leb (2 ^ q.tasks) m) 12 n) (turns (some (λ t. has m t && busy q t) q.tasks) 0 13)

  judged_read_lem : (l : ℕ) → judged_read sooner l q.tasks q.links (at q.reader) (at q.phase)
      ≡ cond (leb q.links l) 12 (cond (not (eqb (at q.phase (at q.reader l)) 2)) 15 (cond (held (at q.reader l)) 16 0))
  unfolding judged_read
  judged_read_lem l = go (leb q.links l) refl
    where
      go : (c : Bool) → leb q.links l ≡ c → cond c 12 (judged_task sooner 2 (at q.reader l) q.tasks (at q.phase))
          ≡ cond c 12 (cond (not (eqb (at q.phase (at q.reader l)) 2)) 15 (cond (held (at q.reader l)) 16 0))
      go true u = refl
      go false u =
          judged_task_lem 2 (at q.reader l) 2 15 (omega arith) 2 refl refl refl
          ∙ rw (lt-leb q.tasks (at q.reader l)
          (S.rules.each l (omega (arith, leb-false q.links l u))).reader) refl

  -- with the tick
  tried_chain : (e : Event ℕ) → tried (judged_on (ahead_in q) q e) q.last x (late_in q x e) ≡ chain (tests T (phases_of q) x e)
  tried_chain (arrival m) =
      ap (λ (n : ℕ). tried n q.last x 0) (judged_arrival_lem m)
      ∙ tried_arrival (unknown T (phases_of q) x (arrival m)) (some (λ t. has m t && busy q t) q.tasks) q.last x
  tried_chain (start t) =
      ap (λ (n : ℕ). tried n q.last x 0) (judged_task_lem 1 t 1 14 (omega arith) 2 refl refl refl)
      ∙ tried_task (leb q.tasks t) (not (eqb (at q.phase t) 1)) (held t) 14 q.last x 0 (λ z. omega arith) (λ z. omega arith)
  tried_chain (read l) =
      ap (λ (n : ℕ). tried n q.last x 0) (judged_read_lem l)
      ∙ tried_task (leb q.links l) (not (eqb (at q.phase (at q.reader l)) 2)) (held (at q.reader l)) 15 q.last x 0 (λ z. omega arith) (λ z. omega arith)
  tried_chain (finish t v) =
      ap (λ (n : ℕ). tried n q.last x (cond (ltb (due_in q t) x) 23 0)) (judged_task_lem 3 t 2 15 (omega arith) 0 refl refl refl)
      ∙ tried_task (leb q.tasks t) (not (eqb (at q.phase t) 2)) (held t) 15 q.last x (cond (ltb (due_in q t) x) 23 0) (λ z. omega arith) (λ z. omega arith)

  -- under fixed priorities that is 0
  pub phases_earned : (q.policy ≡ 0 → x ≡ 0) → (e : Event ℕ) → Earns (EventBreaks T (phases_of q) x e) (judged_on_at (ahead_in q) q x e)
  phases_earned tickless e = subst (λ (n : ℕ). Earns (EventBreaks T (phases_of q) x e) n) (sym (judged_both q S x tickless e ∙ tried_chain e)) (chain_earned T (phases_of q) x e)
