-- The answer to an event: 19 exactly where the state is not sound or of the other policy, a refusal leaves the state and gives 0, and what is sound stays sound.
-- Assumes nothing.
use mathlib.Core.Path.{◌≡◌, refl, sym, ap, ◌∙◌}
use mathlib.Core.Logic.{◌≢◌, ◌⊎◌, inl, inr}
use mathlib.Core.Bool.{Bool, true, false, cond, ◌||◌}
use Prim.Native.Nat.{ℕ, ◌^◌, ◌≤◌, ◌<◌}
use native.Mathlib.Omega.{arith}
use borrow.Author.Tests.{eqb-true, eqb-false, ne_eqb}
use lib.Dec.{eqb, ltb, leb, lit<}
use Rattle.lists.specs.Lists.{every}
use Rattle.lists.proofs.Bools.{and_right, cond_small}
use Rattle.protocol.specs.Event.{Event, arrival, start, read, finish}
use Rattle.protocol_deadlines.specs.Timed.{limit, tried}
use Rattle.protocol_deadlines.proofs.Timed.{tried_zero}
use Rattle.protocol_state.specs.Saved.{Size, Saved, Shape, at, ahead_in}
use Rattle.protocol_state.specs.Decision.{decided}
use Rattle.protocol_state.specs.Judge.{allows, may_arrive, preempted, judged_arrival, judged_task, judged_read, due_in, late_in, sooner_in, judged_on, judged_on_at}
use Rattle.protocol_state.specs.Next.{next_at, value_of}
use Rattle.protocol_state.specs.Sound.{is_sound, tested_sound}
use Rattle.protocol_state.specs.Give.{Reply, reply, settled, Call, plainly, ticked, call_policy, call_tick, call_event, sound_for, give, given_to}
use Rattle.protocol_state.proofs.Decision.{decided_small}
use Rattle.protocol_state.proofs.Sound.{sound_says, says_sound}
use Rattle.protocol_state.proofs.Keeps.{FitsTick, order_same, next_shape, next_sound}

module _ {sound : Bool} (r : ℕ) (q q' : Saved) (v : ℕ) where
  -- an unsound state is answered 19
  pub unsound : sound ≡ false → settled sound r q q' v ≡ reply q 19 0
  unfolding settled
  unsound e = rw e

  -- a refusal leaves the state and gives 0
  pub refused : sound ≡ true → r ≢ 0 → settled sound r q q' v ≡ reply q r 0
  unfolding settled
  refused e n = rw (e, ne_eqb r 0 n)

  -- and otherwise the event is done
  pub done : sound ≡ true → r ≡ 0 → settled sound r q q' v ≡ reply q' 0 v
  unfolding settled
  done e z = rw (e, z)

-- the two ways of an answer: done, or refused
abbrev pub Ways : Bool → ℕ → Saved → Saved → ℕ → Reply → Type 0
Ways sound r q q' v a = ((sound ≡ true) × (r ≡ 0) × (a ≡ reply q' 0 v)) ⊎ ((a.state ≡ q) × (a.refusal ≢ 0) × (a.value ≡ 0))

-- an answer goes one of them
ways : (sound : Bool) (r : ℕ) (q q' : Saved) (v : ℕ) → Ways sound r q q' v (settled sound r q q' v)
unfolding settled
ways false r q q' v = inr (refl, (λ z. omega arith), refl)
ways true r q q' v = go (eqb r 0) refl where
  go : (b : Bool) → eqb r 0 ≡ b → Ways true r q q' v (cond b (reply q' 0 v) (reply q r 0))
  go true e = inl (refl, eqb-true r 0 e, refl)
  go false e = inr (refl, eqb-false r 0 e, refl)

task_small : (before : ℕ → ℕ → Bool) (k t T : ℕ) (ph : ℕ → ℕ) → judged_task before k t T ph ≤ 16
unfolding judged_task
task_small before k t T ph =
    cond_small (leb T t) (omega arith)
    (cond_small (allows (decided k (ph t))) (cond_small (preempted before t T ph) (omega arith) (omega arith)) (omega (arith, decided_small k (ph t))))

-- with ticks there are the refusals without them, and 21 to 23
tried_ways : (r z x late : ℕ) → (tried r z x late ≡ r) ⊎ ((21 ≤ tried r z x late) ⊎ (tried r z x late ≡ late))
tried_ways r z x late = go (eqb r 12) refl (ltb limit x) (ltb x z) (eqb r 0)
  where
    go : (a : Bool) → eqb r 12 ≡ a → (b c d : Bool) → (cond a 12 (cond b 22 (cond c 21 (cond d late r))) ≡ r)
        ⊎ ((21 ≤ cond a 12 (cond b 22 (cond c 21 (cond d late r)))) ⊎ (cond a 12 (cond b 22 (cond c 21 (cond d late r))) ≡ late))
    go true e b c d = inl (sym (eqb-true r 12 e))
    go false e true c d = inr (inl (omega arith))
    go false e false true d = inr (inl (omega arith))
    go false e false false true = inr (inr refl)
    go false e false false false = inl refl

late_ways : (q : Saved) (x : ℕ) (e : Event ℕ) → (late_in q x e ≡ 0) ⊎ (late_in q x e ≡ 23)
late_ways q x (arrival m) = inl refl
late_ways q x (start t) = inl refl
late_ways q x (read l) = inl refl
late_ways q x (finish t v) = go (ltb (due_in q t) x)
  where
    go : (b : Bool) → (cond {A = ℕ} b 23 0 ≡ 0) ⊎ (cond {A = ℕ} b 23 0 ≡ 23)
    go true = inr refl
    go false = inl refl

module _ (ahead : ℕ → ℕ → Bool) where
  -- no event is judged above 16, ticks left aside
  judged_small : (q : Saved) (e : Event ℕ) → judged_on ahead q e ≤ 16
  unfolding judged_arrival judged_read
  judged_small q (arrival m) =
      cond_small (eqb m 0 || leb (2 ^ q.tasks) m) (omega arith) (cond_small (every (may_arrive m (at q.phase)) q.tasks) (omega arith) (omega arith))
  judged_small q (start t) = task_small (sooner_in ahead q) 1 t q.tasks (at q.phase)
  judged_small q (read l) = cond_small (leb q.links l) (omega arith) (task_small (sooner_in ahead q) 2 (at q.reader l) q.tasks (at q.phase))
  judged_small q (finish t v) = task_small (sooner_in ahead q) 3 t q.tasks (at q.phase)

  -- so none is judged 17 to 20, at whatever tick
  pub never_judged : (q : Saved) (x : ℕ) (e : Event ℕ) (n : ℕ) → 16 < n → n < 21 → judged_on_at ahead q x e ≢ n
  unfolding judged_on_at
  never_judged q x e n above below = go (eqb q.policy 0)
    where
      ticked_never : (tried (judged_on ahead q e) q.last x (late_in q x e) ≡ judged_on ahead q e) ⊎ ((21 ≤ tried (judged_on ahead q e) q.last x (late_in q x e)) ⊎ (tried (judged_on ahead q e) q.last x (late_in q x e) ≡ late_in q x e))
          → (late_in q x e ≡ 0) ⊎ (late_in q x e ≡ 23) → tried (judged_on ahead q e) q.last x (late_in q x e) ≡ n → ⊥
      ticked_never (inl a) b i = let s = judged_small q e in omega (arith, above, a, i, s)
      ticked_never (inr (inl a)) b i = omega (arith, below, a, i)
      ticked_never (inr (inr a)) (inl b) i = omega (arith, above, a, b, i)
      ticked_never (inr (inr a)) (inr b) i = omega (arith, below, a, b, i)

      go : (b : Bool) → cond b (judged_on ahead q e) (tried (judged_on ahead q e) q.last x (late_in q x e)) ≡ n → ⊥
      go true i = let s = judged_small q e in omega (arith, above, i, s)
      go false i = ticked_never (tried_ways (judged_on ahead q e) q.last x (late_in q x e)) (late_ways q x e) i

  -- what is accepted is so without ticks; and under deadlines no tick falls, and none is too large
  pub judged_parts : (q : Saved) (x : ℕ) (e : Event ℕ) → judged_on_at ahead q x e ≡ 0 → (judged_on ahead q e ≡ 0) × (q.policy ≢ 0 → FitsTick q x)
  unfolding judged_on_at
  judged_parts q x e = go (eqb q.policy 0) refl
    where
      go : (b : Bool) → eqb q.policy 0 ≡ b → cond b (judged_on ahead q e) (tried (judged_on ahead q e) q.last x (late_in q x e)) ≡ 0
          → (judged_on ahead q e ≡ 0) × (q.policy ≢ 0 → FitsTick q x)
      go true i z = (z, λ n. absurd (n (eqb-true q.policy 0 i)))
      go false i z = let w = tried_zero (judged_on ahead q e) q.last x (late_in q x e) z in (w.0, λ n. (w.1, w.2))

  module _ (size : Size) (p : ℕ) (q : Saved) (x : ℕ) (e : Event ℕ) where
    abbrev answer : Reply
    answer = give ahead size p q x e

    -- so does the answer to an event
    pub give_ways : Ways (sound_for ahead size p q) (judged_on_at ahead q x e) q (next_at ahead q x e) (value_of q e) (give ahead size p q x e)
    give_ways = ways (sound_for ahead size p q) (judged_on_at ahead q x e) q (next_at ahead q x e) (value_of q e)

    -- an unsound state is answered 19, and one of the other policy
    pub give_unsound : sound_for ahead size p q ≡ false → give ahead size p q x e ≡ reply q 19 0
    give_unsound = unsound (judged_on_at ahead q x e) q (next_at ahead q x e) (value_of q e)

    -- a refusal leaves a sound state and gives 0
    pub give_refused : sound_for ahead size p q ≡ true → judged_on_at ahead q x e ≢ 0 → give ahead size p q x e ≡ reply q (judged_on_at ahead q x e) 0
    give_refused = refused (judged_on_at ahead q x e) q (next_at ahead q x e) (value_of q e)

    -- and otherwise the event is done
    pub give_done : sound_for ahead size p q ≡ true → judged_on_at ahead q x e ≡ 0 → give ahead size p q x e ≡ reply (next_at ahead q x e) 0 (value_of q e)
    give_done = done (judged_on_at ahead q x e) q (next_at ahead q x e) (value_of q e)

    -- the refusal of a sound state
    pub give_refusal : sound_for ahead size p q ≡ true → (give ahead size p q x e).refusal ≡ judged_on_at ahead q x e
    give_refusal s = go (eqb (judged_on_at ahead q x e) 0) refl where
      go : (b : Bool) → eqb (judged_on_at ahead q x e) 0 ≡ b → (give ahead size p q x e).refusal ≡ judged_on_at ahead q x e
      go true i = ap (λ (a : Reply). a.refusal) (give_done s (eqb-true _ 0 i)) ∙ sym (eqb-true _ 0 i)
      go false i = ap (λ (a : Reply). a.refusal) (give_refused s (eqb-false _ 0 i))

    -- 19 exactly where the state is not sound, or of the other policy
    pub nineteen : ((give ahead size p q x e).refusal ≡ 19 → sound_for ahead size p q ≡ false) × (sound_for ahead size p q ≡ false → give ahead size p q x e ≡ reply q 19 0)
    nineteen = (go (sound_for ahead size p q) refl, give_unsound) where
      go : (b : Bool) → sound_for ahead size p q ≡ b → (give ahead size p q x e).refusal ≡ 19 → sound_for ahead size p q ≡ false
      go false s i = s
      go true s i = absurd (never_judged q x e 19 (lit< tt) (lit< tt) (sym (give_refusal s) ∙ i))

    -- a refusal gives the state as lent and the value 0
    pub refused_same : (give ahead size p q x e).refusal ≢ 0 → ((give ahead size p q x e).state ≡ q) × ((give ahead size p q x e).value ≡ 0)
    refused_same n = go give_ways where
      go : Ways (sound_for ahead size p q) (judged_on_at ahead q x e) q (next_at ahead q x e) (value_of q e) answer → (answer.state ≡ q) × (answer.value ≡ 0)
      go (inl w) = absurd (n (ap (λ (a : Reply). a.refusal) w.2))
      go (inr w) = (w.0, w.2)

    -- what is handed back has its shape
    pub give_shape : Shape size q → Shape size (give ahead size p q x e).state
    give_shape S = go give_ways where
      go : Ways (sound_for ahead size p q) (judged_on_at ahead q x e) q (next_at ahead q x e) (value_of q e) answer → Shape size answer.state
      go (inl w) = rw w.2 (next_shape ahead S x e)
      go (inr w) = rw w.0 S

    -- a state that is answered otherwise than with 19 is of the policy
    pub own_policy : sound_for ahead size p q ≡ true → q.policy ≡ p
    own_policy s = eqb-true q.policy p (and_right (is_sound ahead size q) _ s)

    -- and the same order of tasks
    pub give_order : ahead_in (give ahead size p q x e).state ≡ ahead_in q
    give_order = go give_ways where
      go : Ways (sound_for ahead size p q) (judged_on_at ahead q x e) q (next_at ahead q x e) (value_of q e) answer → ahead_in answer.state ≡ ahead_in q
      go (inl w) = ap (λ (a : Reply). ahead_in a.state) w.2 ∙ order_same ahead q x e
      go (inr w) = ap ahead_in w.0

    -- the state that comes back has its shape, and is sound if the one that was lent is
    pub give_sound : Shape size q → is_sound ahead size q ≡ true → Shape size (give ahead size p q x e).state × (is_sound ahead size (give ahead size p q x e).state ≡ true)
    give_sound S s = go give_ways where
      go : Ways (sound_for ahead size p q) (judged_on_at ahead q x e) q (next_at ahead q x e) (value_of q e) answer → Shape size answer.state × (is_sound ahead size answer.state ≡ true)
      go (inl w) =
          let j = judged_parts q x e w.1 in
          rw w.2 (next_shape ahead S x e, says_sound ahead size (next_at ahead q x e) (next_sound S (sound_says ahead size q s) x j.1 e j.0))
      go (inr w) = rw w.0 (S, s)

-- a call for fixed priorities has no tick
pub call_tick_lem : (c : Call) → call_policy c ≡ 0 → call_tick c ≡ 0
call_tick_lem (plainly e) z = refl
call_tick_lem (ticked x e) z = absurd (omega arith)

-- a call on a sound state by the order of its own tasks leaves one that is sound by its own
pub called_sound : (size : Size) (q : Saved) (c : Call) → Shape size q → tested_sound size q ≡ true → tested_sound size (given_to size q c).state ≡ true
called_sound size q c S s =
    ap (λ (ahead : ℕ → ℕ → Bool). is_sound ahead size (given_to size q c).state) (give_order (ahead_in q) size (call_policy c) q (call_tick c) (call_event c))
    ∙ (give_sound (ahead_in q) size (call_policy c) q (call_tick c) (call_event c) S s).1
