-- The phases and the ticks say what the history says, so the refusal of a sound state is the one that the table and the history alone decide.
-- Assumes nothing.
use mathlib.Core.Path.{◌≡◌, refl, sym, ap, ◌∙◌}
use mathlib.Core.Logic.{◌≢◌}
use mathlib.Core.Bool.{Bool, true, false, cond, not, ◌&&◌, ◌||◌, and-false, true≢false}
use mathlib.Core.List.{List, ◌∷◌}
use Prim.Native.Nat.{ℕ, suc, ◌^◌, ◌<◌}
use native.Mathlib.Omega.{arith}
use native.Mathlib.Decide.{ℕ_discrete}
use borrow.Author.Tests.{lt-ltb, le-ltb, lt-leb, leb-false, eqb-true, ne_eqb}
use lib.Dec.{eqb, ltb, leb}
use lib.ListN.{set}
use lib.Seq.{get_or-set_other}
use Rattle.lists.specs.Lists.{some, upto}
use Rattle.protocol.specs.Event.{Event, arrival, start, read, finish, has}
use Rattle.protocol.specs.History.{arrivals, starts, finishes, active, up_to}
use Rattle.protocol.specs.History as history
use Rattle.protocol.specs.Schedule.{judged}
use Rattle.protocol.proofs.Counts.{arrivals_in_lem, arrivals_out, starts_same, starts_other, finishes_same, finishes_other}
use Rattle.protocol.proofs.Schedule.{has_below}
use Rattle.protocol_deadlines.specs.Deadline.{smaller, ahead_by, ByDeadline}
use Rattle.protocol_deadlines.specs.Timed.{Timed, timed, limit, untimed, last, ticks, since, late, tried, earliest_at, judged_at}
use Rattle.protocol_deadlines.proofs.Orders.{smaller_tie}
use Rattle.protocol_deadlines.proofs.Turn.{earliest_active}
use Rattle.protocol_deadlines.proofs.Timed.{since_in_lem, since_out}
use Rattle.protocol_state.specs.Saved.{Size, Saved, Shape, at, table}
use Rattle.protocol_state.specs.Decision.{decided}
use Rattle.protocol_state.specs.Judge.{allows, may_arrive, judged_arrival, preempted, judged_task, judged_read, due_in, late_in, sooner_in, judged_on, judged_on_at}
use Rattle.protocol_state.specs.Next.{next, since_at, since_after, next_at}
use Rattle.protocol_state.specs.Sound.{Sound}
use Rattle.protocol_state.specs.Reached.{InPhase, idle, waiting, running, Agrees, Ticks}
use Rattle.protocol_state.proofs.Decision.{decided_rule}
use Rattle.protocol_state.proofs.Places.{changed, some_same, every_none_fails}
use Rattle.protocol_state.proofs.Keeps.{obeys, room, small, were_idle, phase_kept, was_waiting, was_running}

-- ---- a step of one task
arrives : {a s f : ℕ} → InPhase 0 a s f → InPhase 1 (suc a) s f
arrives idle = waiting

begins : {a s f : ℕ} → InPhase 1 a s f → InPhase 2 a (suc s) f
begins waiting = running

ends : {a s f : ℕ} → InPhase 2 a s f → InPhase 0 a s (suc f)
ends running = idle

-- each allowed event keeps phases and history in agreement
pub agrees_next : {ahead : ℕ → ℕ → Bool} {size : Size} {q : Saved} → Shape size q → Sound ahead size q → (h : List (Event ℕ)) → Agrees h q
    → (x : ℕ) (e : Event ℕ) → judged_on ahead q e ≡ 0 → Agrees (e ∷ h) (next_at ahead q x e)
unfolding arrivals starts finishes
agrees_next {ahead} {size} {q} S G h A x (arrival m) ok t = go (has m t) refl where
  go : (b : Bool) → has m t ≡ b → InPhase (at (next ahead q (arrival m)).phase t) (arrivals (arrival m ∷ h) t) (starts h t) (finishes h t)
  go true e =
      let i = were_idle q G S m ok t e in
      rw (i.1, arrivals_in_lem h m t e) (arrives (rw i.0 at (A t)))
  go false e = rw (phase_kept q G S m ok t e, arrivals_out h m t e) (A t)
agrees_next {ahead} {size} {q} S G h A x (start u) ok t = go (ℕ_discrete t u) where
  go : Dec (t ≡ u) → InPhase (at (next ahead q (start u)).phase t) (arrivals h t) (starts (start u ∷ h) t) (finishes h t)
  go (yes e) =
      let i = was_waiting q G S u ok in
      rw (e, i.1, starts_same h u) (begins (rw i.0 at (A u)))
  go (no e) = rw (get_or-set_other q.phase u t _ 0 e, starts_other h u t (λ k. e (sym k))) (A t)
agrees_next S G h A x (read l) ok t = A t
agrees_next {ahead} {size} {q} S G h A x (finish u v) ok t = go (ℕ_discrete t u) where
  go : Dec (t ≡ u) → InPhase (at (next ahead q (finish u v)).phase t) (arrivals h t) (starts h t) (finishes (finish u v ∷ h) t)
  go (yes e) =
      let i = was_running q G S u v ok in
      rw (e, i.1, finishes_same h u v) (ends (rw i.0 at (A u)))
  go (no e) = rw (get_or-set_other q.phase u t _ 0 e, finishes_other h u t v (λ k. e (sym k))) (A t)

-- ---- a phase, by the counts
-- active exactly if not idle
pub active_is : {p a s f : ℕ} → InPhase p a s f → ltb f a ≡ not (eqb p 0)
active_is (idle {n}) = le-ltb n n (omega arith)
active_is (waiting {n}) = lt-ltb n (suc n) (omega arith)
active_is (running {n}) = lt-ltb n (suc n) (omega arith)

-- waiting by the history exactly in phase 1
pub waiting_is : {p a s f : ℕ} → InPhase p a s f → ltb s a ≡ eqb p 1
waiting_is (idle {n}) = le-ltb n n (omega arith)
waiting_is (waiting {n}) = lt-ltb n (suc n) (omega arith)
waiting_is (running {n}) = le-ltb (suc n) (suc n) (omega arith)

-- running by the history exactly in phase 2
pub running_is : {p a s f : ℕ} → InPhase p a s f → ltb f s ≡ eqb p 2
running_is (idle {n}) = le-ltb n n (omega arith)
running_is (waiting {n}) = le-ltb n n (omega arith)
running_is (running {n}) = lt-ltb n (suc n) (omega arith)

swap : (x y : ℕ) (b : Bool) → cond (not b) x y ≡ cond b y x
swap x y true = refl
swap x y false = refl

guarded : (b : Bool) (x y : ℕ) → (b ≡ false → x ≡ y) → cond b 12 x ≡ cond b 12 y
guarded true x y h = refl
guarded false x y h = h refl

-- refusals that agree where there is no other
late_same : (r z x a b : ℕ) → (r ≡ 0 → a ≡ b) → tried r z x a ≡ tried r z x b
late_same r z x a b f = ap (λ (y : ℕ). cond (eqb r 12) 12 (cond (ltb limit x) 22 (cond (ltb x z) 21 y))) (go (eqb r 0) refl)
  where
    go : (c : Bool) → eqb r 0 ≡ c → cond c a r ≡ cond c b r
    go true e = f (eqb-true r 0 e)
    go false e = refl

-- ---- who goes before whom: in a sound state one definition, under both policies
module _ {ahead : ℕ → ℕ → Bool} {size : Size} (q : Saved) (G : Sound ahead size q) (O : ByDeadline (table ahead q)) where
  pub sooner_both : (u t : ℕ) → u < q.tasks → t < q.tasks → sooner_in ahead q u t ≡ smaller (due_in q u) (due_in q t) (ahead u t)
  unfolding sooner_in ahead_by
  sooner_both u t k l = go (eqb q.policy 0) refl
    where
      go : (b : Bool) → eqb q.policy 0 ≡ b → cond b (ltb u t) (smaller (due_in q u) (due_in q t) (ahead u t)) ≡ smaller (due_in q u) (due_in q t) (ahead u t)
      go false e = refl
      go true e =
          let p : q.policy ≡ 0 = eqb-true q.policy 0 e in
          let z = G.times.unclocked p in
          let du = G.times.undated p u k in
          let dt = G.times.undated p t l in
          let a : ahead u t ≡ ltb u t = O u t ∙ smaller_tie _ _ (ltb u t) (du ∙ sym dt) in
          sym (smaller_tie (due_in q u) (due_in q t) (ahead u t) (omega (arith, z, du, dt, G.times.none_later u k, G.times.none_later t l)) ∙ a)

-- ---- so is the refusal at a tick, which under fixed priorities is 0
no_tick : (r z x late : ℕ) → z ≡ 0 → x ≡ 0 → late ≡ 0 → r ≡ tried r z x late
no_tick r z x late a b c = rw (le-ltb limit x (omega arith), le-ltb x z (omega arith), c) (go (eqb r 12) refl (eqb r 0) refl)
  where
    go : (b : Bool) → eqb r 12 ≡ b → (d : Bool) → eqb r 0 ≡ d → r ≡ cond b 12 (cond d 0 r)
    go true e d f = eqb-true r 12 e
    go false e true f = eqb-true r 0 f
    go false e false f = refl

late_never : (q : Saved) (x : ℕ) (e : Event ℕ) → x ≡ 0 → late_in q x e ≡ 0
late_never q x (arrival m) z = refl
late_never q x (start t) z = refl
late_never q x (read l) z = refl
late_never q x (finish t v) z = rw (le-ltb (due_in q t) x (omega arith))

pub judged_both : {ahead : ℕ → ℕ → Bool} {size : Size} (q : Saved) → Sound ahead size q → (x : ℕ) → (q.policy ≡ 0 → x ≡ 0) → (e : Event ℕ)
    → judged_on_at ahead q x e ≡ tried (judged_on ahead q e) q.last x (late_in q x e)
unfolding judged_on_at
judged_both {ahead} q G x none e = go (eqb q.policy 0) refl
  where
    go : (b : Bool) → eqb q.policy 0 ≡ b → cond b (judged_on ahead q e) (tried (judged_on ahead q e) q.last x (late_in q x e))
        ≡ tried (judged_on ahead q e) q.last x (late_in q x e)
    go false i = refl
    go true i =
        let p = eqb-true q.policy 0 i in
        no_tick (judged_on ahead q e) q.last x (late_in q x e) (G.times.unclocked p) (none p) (late_never q x e (none p))

module _ {ahead : ℕ → ℕ → Bool} {size : Size} (q : Saved) (G : Sound ahead size q) (O : ByDeadline (table ahead q)) (H : List (Timed ℕ)) (A : Agrees (untimed H) q) (K : Ticks H q) where
  abbrev h : List (Event ℕ)
  h = untimed H

  -- a job that goes before that of t, which is active, is active: by the phases and ticks, and by the history
  preempted_is : (t : ℕ) → t < q.tasks → active h t ≡ true → not (preempted (sooner_in ahead q) t q.tasks (at q.phase)) ≡ earliest_at (table ahead q) H h t
  preempted_is t l e =
      ap not (some_same (λ u. sooner_in ahead q u t && not (eqb (at q.phase u) 0)) (λ u. smaller (due_in q u) (due_in q t) (ahead u t) && active h u) q.tasks
      (λ u k. rw (active_is (A u), sooner_both q G O u t k l)))
      ∙ sym (earliest_active (table ahead q) (ticks H) h (at q.since) (λ u f. sym (K.since u f)) t e)

  -- a start, a read or a finish by task t, of kind k, which needs the phase a, that of an active task
  in_turn : (k t a y z : ℕ) (fits : Bool) → t < q.tasks → a ≢ 0 → fits ≡ eqb (at q.phase t) a → decided k (at q.phase t) ≡ cond (eqb (at q.phase t) a) y z
      → allows y ≡ true → allows z ≡ false
      → cond (allows (decided k (at q.phase t))) (cond (preempted (sooner_in ahead q) t q.tasks (at q.phase)) 16 0) (decided k (at q.phase t))
      ≡ cond fits (cond (earliest_at (table ahead q) H h t) 0 16) z
  in_turn k t a y z fits l n ef ed ly lz = rw (ed, ef) (go (eqb (at q.phase t) a) refl) where
    go : (b : Bool) → eqb (at q.phase t) a ≡ b → cond (allows (cond b y z)) (cond (preempted (sooner_in ahead q) t q.tasks (at q.phase)) 16 0) (cond b y z)
        ≡ cond b (cond (earliest_at (table ahead q) H h t) 0 16) z
    go true i =
        let up : at q.phase t ≢ 0 = λ c. n (sym (eqb-true _ a i) ∙ c) in
        let e : active h t ≡ true = rw (active_is (A t), ne_eqb _ 0 up) in
        rw (ly, sym (preempted_is t l e)) (sym (swap 0 16 (preempted (sooner_in ahead q) t q.tasks (at q.phase))))
    go false i = rw lz

  running_turn : (k t y : ℕ) → t < q.tasks → decided k (at q.phase t) ≡ cond (eqb (at q.phase t) 2) y 15 → allows y ≡ true
      → cond (allows (decided k (at q.phase t))) (cond (preempted (sooner_in ahead q) t q.tasks (at q.phase)) 16 0) (decided k (at q.phase t))
      ≡ cond (history.running h t) (cond (earliest_at (table ahead q) H h t) 0 16) 15
  running_turn k t y l d ok = in_turn k t 2 y 15 (history.running h t) l (λ z. omega arith) (running_is (A t)) d ok refl

  -- an arrival: who may arrive is not active
  may_arrive_lem : (m t : ℕ) → t < q.tasks → may_arrive m (at q.phase) t ≡ not (has m t && active h t)
  may_arrive_lem m t l = rw (active_is (A t), decided_rule 0 (at q.phase t) (omega arith) (G.phase t l)) (two (has m t) (eqb (at q.phase t) 0)) where
    two : (b c : Bool) → (not b || allows (cond c 1 13)) ≡ not (b && not c)
    two true true = refl
    two true false = refl
    two false c = refl

  -- the refusal without ticks is what the table and the history say
  pub judged_by_history : (e : Event ℕ) → judged_on ahead q e ≡ judged (table ahead q) (earliest_at (table ahead q) H) h e
  unfolding judged judged_arrival judged_task judged_read
  judged_by_history (arrival m) = guarded (eqb m 0 || leb (2 ^ q.tasks) m) _ _ (λ e.
      rw (every_none_fails (may_arrive m (at q.phase)) (λ t. has m t && active h t) q.tasks (may_arrive_lem m)) (swap 0 13 (some (λ t. has m t && active h t) q.tasks)))
  judged_by_history (start t) = guarded (leb q.tasks t) _ _ (λ e.
      let l : t < q.tasks = leb-false q.tasks t e in
      in_turn 1 t 1 2 14 (history.waiting h t) l (λ z. omega arith) (waiting_is (A t)) (decided_rule 1 (at q.phase t) (omega arith) (G.phase t l)) refl refl)
  judged_by_history (read l) = guarded (leb q.links l) _ _ (λ e.
      let r : at q.reader l < q.tasks = (obeys q G l (leb-false q.links l e)).reader in
      rw (lt-leb q.tasks (at q.reader l) r)
      (running_turn 2 (at q.reader l) 2 r (decided_rule 2 (at q.phase (at q.reader l)) (omega arith) (G.phase (at q.reader l) r)) refl))
  judged_by_history (finish t v) = guarded (leb q.tasks t) _ _ (λ e.
      let l : t < q.tasks = leb-false q.tasks t e in
      running_turn 3 t 0 l (decided_rule 3 (at q.phase t) (omega arith) (G.phase t l)) refl)

  -- a finish that is otherwise allowed is late by the state where it is by the history
  late_is : (S : Shape size q) (x : ℕ) (e : Event ℕ) → judged_on ahead q e ≡ 0 → late_in q x e ≡ late (table ahead q) (ticks H) h x e
  unfolding late
  late_is S x (arrival m) ok = refl
  late_is S x (start t) ok = refl
  late_is S x (read l) ok = refl
  late_is S x (finish t v) ok =
      let p = (was_running q G S t v ok).0 in
      let up : at q.phase t ≢ 0 = λ z. omega arith in
      rw (K.since t (rw (active_is (A t), ne_eqb _ 0 up)))

  -- so is the refusal at a tick
  pub judged_at_tick : Shape size q → (x : ℕ) → (q.policy ≡ 0 → x ≡ 0) → (e : Event ℕ) → judged_on_at ahead q x e ≡ judged_at (table ahead q) H x e
  unfolding judged_at
  judged_at_tick S x none e =
      judged_both q G x none e
      ∙ late_same (judged_on ahead q e) q.last x (late_in q x e) (late (table ahead q) (ticks H) h x e) (late_is S x e)
      ∙ rw (judged_by_history e, K.last)

-- ---- arrival ticks, by the state and by the history
module _ {ahead : ℕ → ℕ → Bool} {size : Size} (q : Saved) (S : Shape size q) (G : Sound ahead size q) (H : List (Timed ℕ)) (K : Ticks H q) (x : ℕ) where
  arrival_ticks : (m : ℕ) → judged_on ahead q (arrival m) ≡ 0 → (t : ℕ) (b : Bool) → has m t ≡ b → active (untimed (timed x (arrival m) ∷ H)) t ≡ true
      → at (upto (since_at m x) q.tasks q.since) t ≡ since (timed x (arrival m) ∷ H) t
  unfolding untimed finishes
  arrival_ticks m ok t true e f =
      changed (has m) (λ i y. x) q.tasks q.since (omega (arith, S.since, (room q G).0)) t 0
      ∙ rw (lt-ltb t q.tasks (has_below m q.tasks t (small q G S m ok) e), e) (sym (since_in_lem H x m t e))
  arrival_ticks m ok t false e f =
      changed (has m) (λ i y. x) q.tasks q.since (omega (arith, S.since, (room q G).0)) t 0
      ∙ rw (e, and-false (ltb t q.tasks)) (K.since t (rw (arrivals_out (untimed H) m t e) at f) ∙ sym (since_out H x m t e))

  start_ticks : (u t : ℕ) → active (untimed (timed x (start u) ∷ H)) t ≡ true → at q.since t ≡ since (timed x (start u) ∷ H) t
  unfolding untimed arrivals finishes ticks up_to
  start_ticks u t f = K.since t f

  read_ticks : (l t : ℕ) → active (untimed (timed x (read l) ∷ H)) t ≡ true → at q.since t ≡ since (timed x (read l) ∷ H) t
  unfolding untimed arrivals finishes ticks up_to
  read_ticks l t f = K.since t f

  -- who finishes is then idle
  ended : (A : Agrees (untimed H) q) (u v : ℕ) → judged_on ahead q (finish u v) ≡ 0 → InPhase 0 (arrivals (untimed H) u) (starts (untimed H) u) (suc (finishes (untimed H) u))
  ended A u v ok =
      let i = was_running q G S u v ok in
      ends (rw i.0 at (A u))

  finish_ticks : (A : Agrees (untimed H) q) (u v : ℕ) → judged_on ahead q (finish u v) ≡ 0 → (t : ℕ) → Dec (t ≡ u) → active (untimed (timed x (finish u v) ∷ H)) t ≡ true
      → at (set q.since u 0) t ≡ since (timed x (finish u v) ∷ H) t
  unfolding untimed arrivals ticks up_to
  finish_ticks A u v ok t (yes e) f = absurd (true≢false (sym f ∙ rw (e, finishes_same (untimed H) u v) (active_is (ended A u v ok))))
  finish_ticks A u v ok t (no e) f = get_or-set_other q.since u t 0 0 e ∙ K.since t (rw (finishes_other (untimed H) u t v (λ k. e (sym k))) at f)

  -- under fixed priorities no arrival tick changes: all are 0, and so is x
  arrival_still : (m : ℕ) → judged_on ahead q (arrival m) ≡ 0 → q.policy ≡ 0 → x ≡ 0 → (t : ℕ) (b : Bool) → has m t ≡ b → active (untimed (timed x (arrival m) ∷ H)) t ≡ true
      → at q.since t ≡ since (timed x (arrival m) ∷ H) t
  unfolding untimed finishes
  arrival_still m ok p z t true e f =
      let l = has_below m q.tasks t (small q G S m ok) e in
      let i = since_in_lem H x m t e in
      omega (arith, G.times.none_later t l, G.times.unclocked p, i, z)
  arrival_still m ok p z t false e f = K.since t (rw (arrivals_out (untimed H) m t e) at f) ∙ sym (since_out H x m t e)

  finish_still : (A : Agrees (untimed H) q) (u v : ℕ) → judged_on ahead q (finish u v) ≡ 0 → (t : ℕ) → Dec (t ≡ u) → active (untimed (timed x (finish u v) ∷ H)) t ≡ true
      → at q.since t ≡ since (timed x (finish u v) ∷ H) t
  unfolding untimed arrivals ticks up_to
  finish_still A u v ok t (yes e) f = absurd (true≢false (sym f ∙ rw (e, finishes_same (untimed H) u v) (active_is (ended A u v ok))))
  finish_still A u v ok t (no e) f = K.since t (rw (finishes_other (untimed H) u t v (λ k. e (sym k))) at f)

  -- the last tick
  last_tick : (none : q.policy ≡ 0 → x ≡ 0) → cond (eqb q.policy 0) q.last x ≡ x
  last_tick none = go (eqb q.policy 0) refl
    where
      go : (b : Bool) → eqb q.policy 0 ≡ b → cond b q.last x ≡ x
      go true e = let p = eqb-true q.policy 0 e in G.times.unclocked p ∙ sym (none p)
      go false e = refl

  -- one of the two lists
  either_tick : (none : q.policy ≡ 0 → x ≡ 0) (ys : List ℕ) (t y : ℕ) → (q.policy ≡ 0 → x ≡ 0 → at q.since t ≡ y) → at ys t ≡ y
      → at (cond (eqb q.policy 0) q.since ys) t ≡ y
  either_tick none ys t y f g = go (eqb q.policy 0) refl
    where
      go : (b : Bool) → eqb q.policy 0 ≡ b → at (cond b q.since ys) t ≡ y
      go true e = let p = eqb-true q.policy 0 e in f p (none p)
      go false e = g

-- each allowed event keeps ticks and history in agreement; under fixed priorities its tick is 0
pub ticks_next : {ahead : ℕ → ℕ → Bool} {size : Size} {q : Saved} → Shape size q → Sound ahead size q → (H : List (Timed ℕ)) → Agrees (untimed H) q → Ticks H q
    → (x : ℕ) → (q.policy ≡ 0 → x ≡ 0) → (e : Event ℕ) → judged_on ahead q e ≡ 0 → Ticks (timed x e ∷ H) (next_at ahead q x e)
unfolding last since_after
ticks_next {q = q} S G H A K x none (arrival m) ok = record {
  last = last_tick q S G H K x none;
  since = λ t f. either_tick q S G H K x none (upto (since_at m x) q.tasks q.since) t (since (timed x (arrival m) ∷ H) t)
      (λ p z. arrival_still q S G H K x m ok p z t (has m t) refl f) (arrival_ticks q S G H K x m ok t (has m t) refl f);
}
ticks_next {q = q} S G H A K x none (start u) ok = record {
  last = last_tick q S G H K x none;
  since = λ t f. either_tick q S G H K x none q.since t (since (timed x (start u) ∷ H) t) (λ p z. start_ticks q S G H K x u t f) (start_ticks q S G H K x u t f);
}
ticks_next {q = q} S G H A K x none (read l) ok = record {
  last = last_tick q S G H K x none;
  since = λ t f. either_tick q S G H K x none q.since t (since (timed x (read l) ∷ H) t) (λ p z. read_ticks q S G H K x l t f) (read_ticks q S G H K x l t f);
}
ticks_next {q = q} S G H A K x none (finish u v) ok = record {
  last = last_tick q S G H K x none;
  since = λ t f. either_tick q S G H K x none (set q.since u 0) t (since (timed x (finish u v) ∷ H) t)
      (λ p z. finish_still q S G H K x A u v ok t (ℕ_discrete t u) f) (finish_ticks q S G H K x A u v ok t (ℕ_discrete t u) f);
}
