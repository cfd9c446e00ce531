-- A replay is a sequence of calls in which the events before its place were accepted.
-- Assumes nothing.
use mathlib.Core.Path.{◌≡◌, refl, sym, ap, subst, ◌∙◌}
use mathlib.Core.Bool.{Bool, true}
use mathlib.Core.List.{List, [], ◌∷◌, ◌++◌, append_assoc, append-nil}
use Prim.Native.Nat.{ℕ, ◌≤◌}
use native.Mathlib.Decide.{ℕ_discrete}
use native.Mathlib.Omega.{arith}
use borrow.Author.Tests.{eq-eqb}
use lib.ListN.{length, drop}
use Rattle.protocol.specs.Event.{Event}
use Rattle.protocol.specs.Table.{Table}
use Rattle.protocol.specs.History.{reads, past}
use Rattle.protocol.specs.ZeroTime.{ideals}
use Rattle.protocol_deadlines.specs.Timed.{Timed, timed, untimed}
use Rattle.protocol_state.specs.Records.{Task, Link, link_of, writers, readers, kinds, start_values, first_tasks, first_links, ahead_of}
use Rattle.protocol_state.specs.Saved.{Saved, state_room, ahead_in, table}
use Rattle.protocol_state.specs.Fresh.{Policed, fresh_of, judged_lists, made}
use Rattle.protocol_state.specs.Fresh as state
use Rattle.protocol_state.specs.Next.{value_of}
use Rattle.protocol_state.specs.Give.{Reply, reply, Call, plainly, ticked, call_policy, call_tick, call_event, sound_for, given_to}
use Rattle.protocol_state.proofs.Rules as rules
use Rattle.protocol_state.proofs.Freshes.{dated_each}
use Rattle.protocol_state.proofs.Give.{give_done}
use Rattle.protocol_state.proofs.History.{reached_for}
use Rattle.byte_format.specs.Play.{Allowed, finally}
use Rattle.recording_format.specs.Recording.{state_after}
use Rattle.recording_core.specs.Playing.{Playing, core_of, judged_alone, stepped_alone, judged_in, stepped_in}
use Rattle.recording_core.specs.Promise.{placed}
use Rattle.recording_core.specs.Right.{Right}
use Rattle.recording_core.proofs.Right.{Still, both_zero, right_fresh, right_finally}
use Rattle.mailbox.proofs.Packed.{packed, step_to, given_packed, made_to, made_to_lem}
use Rattle.mailbox.specs.declared.State.{State}
use Rattle.demands.specs.Station.{station, HandedOver, Keeps}
use Rattle.demands.specs.Calls.{numbers_of, Calls, fresh, accepted}
use Rattle.demands.specs.Order.{turned}
use Rattle.demands.specs.Recordings.{Listed}
use Rattle.demands.proofs.Tables.{fresh_station, own_station, Handed, handed, first_links_own}
use Rattle.demands.proofs.Orders.{past_snoc, untimed_past, length_turned, placed_listed}
use Rattle.demands.proofs.Calls.{timed_call, come_ahead, without_dates}
use Rattle.demands.proofs.Runs.{calls_ideals, calls_count}

-- the fresh state of a table that earns no refusal is what `State::fresh` hands back, or `State::fresh_dated`
pub made_ok : (p : ℕ) (ds : List Task) (ls : List Link) → judged_lists state_room p ds ls ≡ 0 → made state_room p ds ls ≡ record { refusal = 0; state = fresh_of state_room p ds ls }
unfolding made
made_ok p ds ls ok = rw (eq-eqb _ 0 ok)

-- of a table in arrays
in_arrays : {p : ℕ} {X : List ℕ} → HandedOver p X → (n l : ℕ) (D W R K B : List ℕ) → judged_lists state_room p (first_tasks n D X) (first_links l W R K B) ≡ 0
    → Calls (station (first_tasks n D X) (first_links l W R K B)) [] [] (packed (fresh_of state_room p (first_tasks n D X) (first_links l W R K B)))
in_arrays {p} {X} over n l D W R K B ok =
    let i = made_ok p (first_tasks n D X) (first_links l W R K B) ok in
    subst (λ (m : state.Made). Calls (station (first_tasks n D X) (first_links l W R K B)) [] [] (packed m.state)) i
    (fresh over n l D W R K B (made_to (made state_room p (first_tasks n D X) (first_links l W R K B))) (made_to_lem p n l D X W R K B) (ap (λ (m : state.Made). m.refusal) i))

-- and of its lists
pub begins : (p : ℕ) (ds : List Task) (ls : List Link) → Policed p ds → judged_lists state_room p ds ls ≡ 0 → Calls (station ds ls) [] [] (packed (fresh_of state_room p ds ls))
begins p ds ls policed = go (handed p ds policed)
  where
    Begins : List Task → List Link → Type 0
    Begins ts xs = judged_lists state_room p ts xs ≡ 0 → Calls (station ts xs) [] [] (packed (fresh_of state_room p ts xs))

    go : Handed p ds → Begins ds ls
    go x =
        subst (λ (ts : List Task). Begins ts ls) x.own
        (subst (λ (xs : List Link). Begins (first_tasks (length ds) x.D x.X) xs) (first_links_own ls)
        (in_arrays x.over (length ds) (length ls) x.D (writers ls) (readers ls) (kinds ls) (start_values ls)))

-- an event at a tick, as a call for the policy p
record CallOf (p : ℕ) (y : Timed ℕ) : Type 0 where
  call : Call
  policy : p ≡ call_policy call
  same : timed_call call ≡ y

call_of_lem : (p x : ℕ) (e : Event ℕ) → p ≤ 1 → (p ≡ 0 → x ≡ 0) → CallOf p (timed x e)
call_of_lem p x e few none = go (ℕ_discrete p 0)
  where
    go : Dec (p ≡ 0) → CallOf p (timed x e)
    go (yes z) = record { call = plainly e; policy = z; same = ap (λ (k : ℕ). timed k e) (sym (none z)) }
    go (no n) = record { call = ticked x e; policy = omega (arith, n, few); same = refl }

-- an event that a replay does is a call that is accepted
module _ {q₀ : Saved} {out : List ℕ} {H : List (Timed ℕ)} {q : Playing} (R : Right state_room q₀ out H q) where
  module _ (k : Call) (own : q₀.policy ≡ call_policy k) (z : judged_in q (timed_call k) ≡ 0) where
    passes : sound_for (ahead_in q.state) state_room (call_policy k) q.state ≡ true
    passes = ap (λ (ahead : ℕ → ℕ → Bool). sound_for ahead state_room (call_policy k) q.state) (come_ahead R.reached) ∙ reached_for R.reached (call_policy k) own

    does : given_to state_room q.state k ≡ reply (stepped_alone q.state (timed_call k)) 0 (value_of q.state (call_event k))
    unfolding judged_in
    does = give_done (ahead_in q.state) state_room (call_policy k) q.state (call_tick k) (call_event k) passes (both_zero (judged_alone q.state (timed_call k)) _ z).0

    by_call : {T : Table ℕ} {es : List (Timed ℕ)} {ns : List ℕ} → Calls T es ns (packed q.state)
        → (os : List ℕ) × Calls T (es ++ (timed_call k ∷ [])) os (packed (stepped_in q (timed_call k)).state)
    unfolding stepped_in
    by_call {T} {es} {ns} c = (
      ns ++ numbers_of (call_event k) (step_to (given_to state_room q.state k)),
      subst (λ (x : State). Calls T (es ++ (timed_call k ∷ [])) (ns ++ numbers_of (call_event k) (step_to (given_to state_room q.state k))) x) (ap (λ (x : Reply). packed x.state) does)
          (accepted c k (step_to (given_to state_room q.state k)) (given_packed q.state k R.reached.shape) (ap (λ (x : Reply). x.refusal) does)),
    )

  call_more : {y : Timed ℕ} → CallOf q₀.policy y → judged_in q y ≡ 0 → {T : Table ℕ} {es : List (Timed ℕ)} {ns : List ℕ} → Calls T es ns (packed q.state)
      → (os : List ℕ) × Calls T (es ++ (y ∷ [])) os (packed (stepped_in q y).state)
  call_more K z {T} {es} c =
      subst (λ (y : Timed ℕ). judged_in q y ≡ 0 → (os : List ℕ) × Calls T (es ++ (y ∷ [])) os (packed (stepped_in q y).state)) K.same (λ j. by_call K.call K.policy j c) z

  right_more : (x : ℕ) (e : Event ℕ) → (q₀.policy ≡ 0 → x ≡ 0) → judged_in q (timed x e) ≡ 0 → Right state_room q₀ out (timed x e ∷ H) (stepped_in q (timed x e))
  unfolding past finally Allowed Still
  right_more x e none z = right_finally (timed x e ∷ []) (none, tt) R (z, tt)

  -- for a policy is one of the two
  one_of_two : q₀.policy ≤ 1
  one_of_two = subst (λ (p : ℕ). p ≤ 1) R.reached.policy R.reached.sound.times.either

-- all of them
calls_more : {q₀ : Saved} {out : List ℕ} (T : Table ℕ) (xs es : List (Timed ℕ)) (ns : List ℕ) {q : Playing} → Still q₀.policy xs → Right state_room q₀ out (past [] es) q
    → Calls T es ns (packed q.state) → Allowed judged_in stepped_in q xs
    → (os : List ℕ) × Calls T (es ++ xs) os (packed (finally stepped_in q xs).state)
unfolding Allowed finally Still
calls_more T [] es ns S R c A = (ns, rw (append-nil es) c)
calls_more {q₀} {out} T (timed x e ∷ xs) es ns {q} S R c A =
    let d = call_more R (call_of_lem q₀.policy x e (one_of_two R) S.0) A.0 c in
    let i = calls_more T xs (es ++ (timed x e ∷ [])) d.0 S.1
    (subst (λ (H : List (Timed ℕ)). Right state_room q₀ out H (stepped_in q (timed x e))) (sym (past_snoc [] es (timed x e))) (right_more R x e S.0 A.0)) d.1 A.1 in
    (i.0, subst (λ (ys : List (Timed ℕ)). Calls T ys i.0 (packed (finally stepped_in (stepped_in q (timed x e)) xs).state)) (append_assoc es (timed x e ∷ []) xs) i.1)

-- the list then is the numbers of the calls and the untouched rest
right_listed : {q₀ : Saved} {out : List ℕ} {q : Playing} {T : Table ℕ} {es : List (Timed ℕ)} {ns : List ℕ} {x : State} → table (ahead_in q₀) q₀ ≡ T
    → Right state_room q₀ out (past [] es) q → Calls T es ns x → Listed ns out q.list
unfolding untimed
right_listed {q₀} {out} {q} {T} {es} {ns} i R c =
    let h : List (Event ℕ) = past [] (untimed es) in
    let plain : untimed (past [] es) ≡ h = untimed_past [] es in
    let vs : List ℕ = ideals T h in
    let room : length vs ≤ length out = omega (arith, calls_count c, R.room, ap reads plain) in
    let same : ns ≡ turned vs = calls_ideals c in
    let long : length ns ≡ length vs = ap length same ∙ length_turned vs in
    record {
      room = omega arith;
      holds = R.list ∙ ap (λ (x : List (Event ℕ)). placed (ideals (table (ahead_in q₀) q₀) x) out) plain ∙ ap (λ (t : Table ℕ). placed (ideals t h) out) i ∙ placed_listed vs out room
          ∙ ap (λ (xs : List ℕ). xs ++ drop (length vs) out) (sym same) ∙ ap (λ (n : ℕ). ns ++ drop n out) (sym long);
    }

-- what the events of a table come to in a replay under the policy p
pub record Went (p : ℕ) (out : List ℕ) (ds : List Task) (ls : List Link) (es : List (Timed ℕ)) (q : Playing) : Type 0 where
  pub ns : List ℕ
  pub calls : Calls (station ds ls) es ns (packed q.state)
  pub listed : Listed ns out q.list
  pub right : Right state_room (fresh_of state_room p ds ls) out (past [] es) q
  -- the table of the fresh state, by the order of the tasks and by the state's own
  pub same : table (ahead_of ds) (fresh_of state_room p ds ls) ≡ station ds ls
  pub own : table (ahead_in (fresh_of state_room p ds ls)) (fresh_of state_room p ds ls) ≡ station ds ls
  pub keeps : Keeps p ds ls

-- a table that earns no refusal keeps the rules
pub keeps_of : (p : ℕ) (ds : List Task) (ls : List Link) → judged_lists state_room p ds ls ≡ 0 → Keeps p ds ls
keeps_of p ds ls ok =
    let j = without_dates p ds ls ok in
    let n = rules.counts (ahead_of ds) (length ds) (link_of ls) state_room (length ls) j.0 in
    record {
      tasks = (n.0, omega (arith, n.1));
      dates = dated_each p ds j.1;
      links = n.2;
      rules = rules.obeyed (ahead_of ds) (length ds) (link_of ls) state_room (length ls) j.0;
    }

-- the fresh state is one of the policy
fresh_still : (p : ℕ) (ds : List Task) (ls : List Link) (es : List (Timed ℕ)) → Still p es → Still (fresh_of state_room p ds ls).policy es
unfolding fresh_of
fresh_still p ds ls es S = S

pub went : (p : ℕ) (out : List ℕ) (ds : List Task) (ls : List Link) (es : List (Timed ℕ)) → Policed p ds → Still p es → judged_lists state_room p ds ls ≡ 0
    → Allowed judged_in stepped_in ((core_of state_room p out).start ds ls) es → Went p out ds ls es (state_after (core_of state_room p out) ds ls es)
unfolding past
went p out ds ls es policed still ok A =
    let few = rules.room (ahead_of ds) (length ds) (link_of ls) state_room (length ls) (without_dates p ds ls ok).0 in
    let R = right_fresh state_room p ds ls ok policed out in
    let S : Still (fresh_of state_room p ds ls).policy es = fresh_still p ds ls es still in
    let m = calls_more (station ds ls) es [] [] S R (begins p ds ls policed ok) A in
    let F = right_finally es S R A in
    let i = own_station p ds ls few.0 few.1 in
    record { ns = m.0; calls = m.1; listed = right_listed i F m.1; right = F; same = fresh_station p ds ls few.0 few.1; own = i; keeps = keeps_of p ds ls ok }
