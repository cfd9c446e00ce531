-- What a table makes, way by way: refused, or fresh; the state is sound either way. And a sound state stays sound.
-- Assumes nothing.
use mathlib.Core.Path.{◌≡◌, refl, sym, ap, ◌∙◌}
use mathlib.Core.Logic.{◌≢◌}
use mathlib.Core.Bool.{Bool, true, false, cond, not, ◌&&◌, ◌||◌}
use mathlib.Core.List.{List}
use Prim.Native.Nat.{ℕ, ◌≤◌, ◌<◌, min}
use native.Mathlib.Nat.{min-eq_left}
use native.Mathlib.Omega.{arith}
use native.Mathlib.Decide.{dec_le}
use borrow.Author.Tests.{lt-ltb, eqb-true, ne_eqb}
use lib.Dec.{eqb}
use lib.ListN.{length}
use Rattle.lists.specs.Lists.{some}
use Rattle.protocol_state.specs.Records.{Task, Link, deadline_of, first_tasks, first_links, link_of, ahead_of}
use Rattle.protocol_state.specs.Saved.{Size, Saved, state_room, at, ahead_in, link_in}
use Rattle.protocol_state.specs.Rules.{judged_table}
use Rattle.protocol_state.specs.Fresh.{fresh_of, single, undated, Policed, then_dates, judged_lists, made}
use Rattle.protocol_state.specs.Fresh as fresh
use Rattle.protocol_state.specs.Sound.{tested_sound}
use Rattle.protocol_state.specs.Give.{Reply, reply, Call}
use Rattle.protocol_state.proofs.Places.{some_same}
use Rattle.protocol_state.proofs.Rules.{room}
use Rattle.protocol_state.proofs.Records.{first_tasks_length, first_links_length, column_tasks}
use Rattle.protocol_state.proofs.Freshes.{judged_agrees, judged_dated, made_sound}
use Rattle.protocol_state.proofs.Give.{called_sound}
use Rattle.regions.specs.Regions.{region}
use Rattle.mailbox_layout.specs.Layout.{cut, cut_values, cut_times, deadline_region, policy_region, deadline_in, policy_in, link_held, state_of}
use Rattle.mailbox_layout.specs.Fresh.{fresh_control, fresh_values, fresh_times}
use Rattle.mailbox_layout.proofs.Whole.{filled_shape}
use Rattle.mailbox_layout.proofs.Tables.{fresh_state, link_held_lem, order_held}
use Rattle.mailbox.specs.States.{saved, made_of, judged_from, made_from, Gives, passing, StaysSound}
use Rattle.mailbox.specs.declared.State.{State}
use Rattle.mailbox.specs.declared.Step.{Step}
use Rattle.mailbox.specs.declared.Made.{Made}

-- more tasks than the room are 2, whatever else
too_many : (ahead : ℕ → ℕ → Bool) (T : ℕ) (link : ℕ → Link) (size : Size) (L : ℕ) → size.tasks < T → judged_table ahead T link size L ≡ 2
unfolding judged_table
too_many ahead T link size L h = rw (lt-ltb size.tasks T h) (go (eqb T 0) _)
  where
    go : (b : Bool) (other : ℕ) → cond (b || true) 2 other ≡ 2
    go true other = refl
    go false other = refl

-- so what is not 2 has room for its tasks
not_too_many : (ahead : ℕ → ℕ → Bool) (T : ℕ) (link : ℕ → Link) (size : Size) (L : ℕ) → judged_table ahead T link size L ≢ 2 → T ≤ size.tasks
not_too_many ahead T link size L h = go (dec_le T size.tasks)
  where
    go : Dec (T ≤ size.tasks) → T ≤ size.tasks
    go (yes l) = l
    go (no l) = absurd (h (too_many ahead T link size L (omega arith)))

-- the control c and the values v hold the first links of the arrays W, R, K and B, v and the times x the first tasks of D and X, under the policy p
module _ (p T L : ℕ) (D X W R K B c v x : List ℕ) (held : cut c ≡ fresh_control (first_links (min L state_room.links) W R K B))
    (valued : cut_values v ≡ fresh_values (first_tasks (min T state_room.tasks) D X) (first_links (min L state_room.links) W R K B))
    (dated : cut_times x ≡ fresh_times p (first_tasks (min T state_room.tasks) D X)) where
  abbrev ts : List Task
  ts = first_tasks T D X

  abbrev ls : List Link
  ls = first_links L W R K B

  abbrev state : Saved
  state = state_of T L c v x

  -- where there is room for them, they hold all of them
  held_all : L ≤ state_room.links → cut c ≡ fresh_control ls
  held_all h = held ∙ ap (λ (n : ℕ). fresh_control (first_links n W R K B)) (min-eq_left h)

  valued_all : L ≤ state_room.links → cut_values v ≡ fresh_values (first_tasks (min T state_room.tasks) D X) ls
  valued_all h = valued ∙ ap (λ (n : ℕ). fresh_values (first_tasks (min T state_room.tasks) D X) (first_links n W R K B)) (min-eq_left h)

  dated_all : T ≤ state_room.tasks → cut_times x ≡ fresh_times p ts
  dated_all h = dated ∙ ap (λ (n : ℕ). fresh_times p (first_tasks n D X)) (min-eq_left h)

  -- so the links are judged as the table's
  links_judged : T ≤ state_room.tasks → judged_table (ahead_in state) T (link_in state) state_room L ≡ judged_table (ahead_of ts) (length ts) (link_of ls) state_room (length ls)
  links_judged h =
      ap (λ (ahead : ℕ → ℕ → Bool). judged_table ahead T (link_held c v) state_room L) (order_held p ts x (dated_all h) (omega (arith, first_tasks_length T D X)))
      ∙ judged_agrees (ahead_of ts) state_room T L (link_held c v) (link_of ls)
      (λ k l i. link_held_lem (first_tasks (min T state_room.tasks) D X) ls c v (held_all k) (valued_all k) (omega (arith, first_links_length L W R K B)) l)
      ∙ rw (first_tasks_length T D X, first_links_length L W R K B)

  -- and 24 is asked of the same deadlines
  dates_judged : T ≤ state_room.tasks → (not (eqb state.policy 0) && some (λ t. eqb (at state.deadline t) 0) T) ≡ undated p ts
  dates_judged h =
      let e = dated_all h in
      let pol : policy_in x ≡ p = ap (λ (rs : List (List ℕ)). at (region rs policy_region) 0) e in
      let one : (t : ℕ) → at (deadline_in x) t ≡ deadline_of ts t =
      λ t. ap (λ (rs : List (List ℕ)). at (region rs deadline_region) t) e ∙ column_tasks state_room.tasks (λ (k : Task). k.deadline) refl ts (omega (arith, first_tasks_length T D X)) t in
      rw (pol, first_tasks_length T D X) (ap (λ (b : Bool). not (eqb p 0) && b) (some_same (λ t. eqb (at (deadline_in x) t) 0) (λ t. eqb (deadline_of ts t) 0) T (λ t l. rw (one t))))

  table_judged : judged_from state ≡ judged_lists state_room p ts ls
  table_judged = go (dec_le T state_room.tasks)
    where
      go : Dec (T ≤ state_room.tasks) → judged_from state ≡ judged_lists state_room p ts ls
      go (yes h) =
          ap (λ (r : ℕ). then_dates r (not (eqb state.policy 0) && some (λ t. eqb (at state.deadline t) 0) T)) (links_judged h)
          ∙ ap (then_dates (judged_table (ahead_of ts) (length ts) (link_of ls) state_room (length ls))) (dates_judged h)
      go (no h) =
          let n = first_tasks_length T D X in
          let a = too_many (ahead_in state) T (link_in state) state_room L (omega arith) in
          let b = too_many (ahead_of ts) (length ts) (link_of ls) state_room (length ls) (omega arith) in
          rw (a, b)

  fresh_here : judged_from state ≡ 0 → state ≡ fresh_of state_room p ts ls
  fresh_here e =
      let j = judged_dated (judged_table (ahead_of ts) (length ts) (link_of ls) state_room (length ls)) (undated p ts) (sym table_judged ∙ e) in
      let fits = room (ahead_of ts) (length ts) (link_of ls) state_room (length ls) j.0 in
      let t : T ≤ state_room.tasks = rw (first_tasks_length T D X) at fits.0 in
      let l : L ≤ state_room.links = rw (first_links_length L W R K B) at fits.1 in
      fresh_state p ts ls c v x (sym (first_tasks_length T D X)) (sym (first_links_length L W R K B)) (held_all l)
      (valued_all l ∙ ap (λ (n : ℕ). fresh_values (first_tasks n D X) ls) (min-eq_left t)) (dated_all t)

  -- what it makes is what the table makes
  pub made_from_lem : made_from (state_of T L c v x) ≡ made state_room p (first_tasks T D X) (first_links L W R K B)
  unfolding made
  made_from_lem = go (eqb (judged_from state) 0) refl
    where
      go : (b : Bool) → eqb (judged_from state) 0 ≡ b →
          cond {A = fresh.Made} (eqb (judged_from state) 0) (record { refusal = 0; state = state }) (record { refusal = judged_from state; state = single state_room })
          ≡ cond {A = fresh.Made} (eqb (judged_lists state_room p ts ls) 0) (record { refusal = 0; state = fresh_of state_room p ts ls }) (record { refusal = judged_lists state_room p ts ls; state = single state_room })
      go true e = rw (← table_judged, e, fresh_here (eqb-true _ 0 e))
      go false e = rw (← table_judged, e)

-- the table of a state that nothing has happened in, way by way: r is its refusal, t the one without 24
module _ (q : State) {t r : ℕ} (judged : t ≡ judged_table (ahead_in (saved q)) q.tasks (link_in (saved q)) state_room q.links)
    (dates : (t ≢ 2 → q.tasks ≤ state_room.tasks) → r ≡ then_dates t (not (eqb (saved q).policy 0) && some (λ t. eqb (at (saved q).deadline t) 0) q.tasks)) where
  from_judged : r ≡ judged_from (saved q)
  from_judged = dates (λ h. not_too_many _ q.tasks _ state_room q.links (λ i. h (judged ∙ i))) ∙ rw judged

  pub from_refused : (s : State) → r ≢ 0 → saved s ≡ single state_room → made_of (record { refusal = r; state = s }) ≡ made_from (saved q)
  from_refused s h e = rw (e, ← from_judged, ne_eqb r 0 h)

  pub from_kept : (s : State) → s ≡ q → r ≡ 0 → made_of (record { refusal = 0; state = s }) ≡ made_from (saved q)
  from_kept s e z = rw (e, ← from_judged, z)

-- the state that a table makes is sound, whatever the numbers
pub makes_sound : (p T L : ℕ) (D X W R K B : List ℕ) → Policed p (first_tasks T D X) → (m : Made) → made_of m ≡ made state_room p (first_tasks T D X) (first_links L W R K B) → passing m.state ≡ true
makes_sound p T L D X W R K B policed m i =
    ap (λ (m : fresh.Made). tested_sound state_room m.state) i ∙ made_sound state_room (omega arith) p (first_tasks T D X) (first_links L W R K B) policed

-- the same state is the same reply
pub same_reply : (p q : State) {k x : ℕ} {a : Reply} → p ≡ q → reply (saved q) k x ≡ a → reply (saved p) k x ≡ a
same_reply p q {k} {x} i e = ap (λ (s : State). reply (saved s) k x) i ∙ e

-- whatever is handed back as the protocol's reply
pub stays : (q : State) (c : Call) {r : Step} → Gives q c r → StaysSound q r
stays q c g s =
    ap (λ (a : Reply). tested_sound state_room a.state) g.answer
    ∙ called_sound state_room (saved q) c (filled_shape q.tasks q.links q.control q.values q.times g.lent) s
