-- Whatever calls come to is what a replay of the accepted events on the fresh saved state reaches.
-- Assumes nothing.
use mathlib.Core.Path.{◌≡◌, refl, sym, ap, subst, ◌∙◌}
use mathlib.Core.Logic.{◌≢◌, inl, inr}
use mathlib.Core.Bool.{Bool, false}
use mathlib.Core.List.{List, [], ◌∷◌, ◌++◌, append-nil}
use Prim.Native.Nat.{ℕ}
use lib.ListN.{length}
use Rattle.protocol.specs.Event.{Event, arrival, start, read, finish}
use Rattle.protocol.specs.Table.{Table}
use Rattle.protocol.specs.History.{past}
use Rattle.protocol_deadlines.specs.Deadline.{ahead_by}
use Rattle.protocol_deadlines.specs.Timed.{Timed, timed}
use Rattle.protocol_state.specs.Records.{Task, Link, link_of, first_tasks, first_links, ahead_of}
use Rattle.protocol_state.specs.Saved.{Saved, state_room, ahead_in, table}
use Rattle.protocol_state.specs.Rules.{judged_table}
use Rattle.protocol_state.specs.Fresh.{undated, Policed, fresh_of, judged_lists}
use Rattle.protocol_state.specs.Fresh as state
use Rattle.protocol_state.specs.Judge.{judged_on_at}
use Rattle.protocol_state.specs.Next.{next_at, value_of}
use Rattle.protocol_state.specs.Give.{Reply, reply, Call, call_policy, call_tick, call_event, Progress, note, sound_for, called, after_call}
use Rattle.protocol_state.specs.Reached.{Reached}
use Rattle.protocol_state.proofs.Rules as rules
use Rattle.protocol_state.proofs.Freshes.{judged_dated, made_fresh, fresh_ahead}
use Rattle.protocol_state.proofs.Give.{Ways, give_ways, own_policy, refused_same}
use Rattle.protocol_state.proofs.History.{after_done, reached_after, reached_fresh}
use Rattle.recording_core.proofs.Right.{own_order}
use Rattle.mailbox.specs.States.{saved, IsWhole}
use Rattle.mailbox.proofs.Packed.{saved_same}
use Rattle.mailbox.specs.declared.State.{State}
use Rattle.mailbox.specs.declared.Step.{Step}
use Rattle.mailbox.specs.declared.Made.{Made}
use Rattle.demands.specs.Station.{station}
use Rattle.demands.specs.States.{policy_in}
use Rattle.demands.specs.Calls.{Makes, Gives, numbers_of, Calls, fresh, accepted, refused}
use Rattle.demands.specs.Order.{turned}
use Rattle.demands.proofs.Tables.{own_station, handed_policed}
use Rattle.demands.proofs.Orders.{past_snoc}

-- what stands after some calls
abbrev pub stands : State → List (Timed ℕ) → List ℕ → Progress
stands q H os = record { state = saved q; history = H; numbers = os }

-- the event of a call at its tick
abbrev pub timed_call : Call → Timed ℕ
timed_call c = timed (call_tick c) (call_event c)

-- the fresh state q₀ of the table, and the numbers read with the last one first, such that they reach it
pub record Come (T : Table ℕ) (es : List (Timed ℕ)) (ns : List ℕ) (q : State) : Type 0 where
  pub begin : Saved
  pub same : table (ahead_in begin) begin ≡ T
  pub os : List ℕ
  pub reached : Reached (ahead_in begin) state_room begin (stands q (past [] es) os)
  pub turns : ns ≡ turned os

-- the order of the tasks is that of the fresh state
pub come_ahead : {q₀ : Saved} {o : Progress} → Reached (ahead_in q₀) state_room q₀ o → ahead_in o.state ≡ ahead_in q₀
come_ahead r = ap (λ (T : Table ℕ). ahead_by T.deadline) r.same

-- an accepted call is one event more
after_accepted : (ahead : ℕ → ℕ → Bool) (q : State) → ahead_in (saved q) ≡ ahead → (H : List (Timed ℕ)) (os : List ℕ) (c : Call) (r : Step) → Gives q c r → r.answer.refusal ≡ 0
    → after_call ahead state_room (stands q H os) c ≡ stands r.state (timed_call c ∷ H) (note (call_event c) r.answer.value os)
after_accepted ahead q same H os c r call z =
    let a : called ahead state_room (saved q) c ≡ reply (saved r.state) r.answer.refusal r.answer.value =
    ap (λ (x : ℕ → ℕ → Bool). called x state_room (saved q) c) (sym same) ∙ sym call.answer in
    after_done ahead state_room (stands q H os) c (saved r.state) r.answer.value (a ∙ ap (λ (n : ℕ). reply (saved r.state) n r.answer.value) z)

-- an accepted call was for the policy of the state, and the event was allowed
pub call_done : (q : State) (c : Call) (r : Step) → Gives q c r → r.answer.refusal ≡ 0
    → (policy_in q ≡ call_policy c) × (judged_on_at (ahead_in (saved q)) (saved q) (call_tick c) (call_event c) ≡ 0)
    × (saved r.state ≡ next_at (ahead_in (saved q)) (saved q) (call_tick c) (call_event c)) × (r.answer.value ≡ value_of (saved q) (call_event c))
call_done q c r call z = go (give_ways (ahead_in (saved q)) state_room (call_policy c) (saved q) (call_tick c) (call_event c))
  where
    go : Ways (sound_for (ahead_in (saved q)) state_room (call_policy c) (saved q)) (judged_on_at (ahead_in (saved q)) (saved q) (call_tick c) (call_event c)) (saved q)
        (next_at (ahead_in (saved q)) (saved q) (call_tick c) (call_event c)) (value_of (saved q) (call_event c)) (called (ahead_in (saved q)) state_room (saved q) c)
        → (policy_in q ≡ call_policy c) × (judged_on_at (ahead_in (saved q)) (saved q) (call_tick c) (call_event c) ≡ 0)
        × (saved r.state ≡ next_at (ahead_in (saved q)) (saved q) (call_tick c) (call_event c)) × (r.answer.value ≡ value_of (saved q) (call_event c))
    go (inl w) = (
      own_policy (ahead_in (saved q)) state_room (call_policy c) (saved q) (call_tick c) (call_event c) w.0,
      w.1,
      ap (λ (x : Reply). x.state) (call.answer ∙ w.2),
      ap (λ (x : Reply). x.value) (call.answer ∙ w.2),
    )
    go (inr w) = absurd (w.1 (ap (λ (x : Reply). x.refusal) (sym call.answer) ∙ z))

-- a refused one hands the state back
pub same_state : (q : State) (c : Call) (r : Step) → Gives q c r → r.answer.refusal ≢ 0 → r.state ≡ q
same_state q c r call n =
    saved_same r.state q call.whole call.lent
    (ap (λ (x : Reply). x.state) call.answer
    ∙ (refused_same (ahead_in (saved q)) state_room (call_policy c) (saved q) (call_tick c) (call_event c) (λ z. n (ap (λ (x : Reply). x.refusal) call.answer ∙ z))).0)

-- the number of a read, in either order
noted : (e : Event ℕ) (r : Step) (os : List ℕ) → turned os ++ numbers_of e r ≡ turned (note e r.answer.value os)
unfolding turned
noted (arrival m) r os = append-nil (turned os)
noted (start t) r os = append-nil (turned os)
noted (read l) r os = refl
noted (finish t v) r os = append-nil (turned os)

-- a table that was accepted keeps the rules, and its state is the fresh one
pub made_is : (p n l : ℕ) (D X W R K B : List ℕ) (m : Made) → Makes p n l D X W R K B m → m.refusal ≡ 0
    → (judged_lists state_room p (first_tasks n D X) (first_links l W R K B) ≡ 0) × (saved m.state ≡ fresh_of state_room p (first_tasks n D X) (first_links l W R K B))
made_is p n l D X W R K B m said ok =
    let i = made_fresh state_room p (first_tasks n D X) (first_links l W R K B) (ap (λ (x : state.Made). x.refusal) (sym said.answer) ∙ ok) in
    (i.0, ap (λ (x : state.Made). x.state) said.answer ∙ i.1)

module _ (p : ℕ) (ds : List Task) (ls : List Link) (ok : judged_lists state_room p ds ls ≡ 0) where
  -- what it comes to that the table earns no refusal: neither without 24, nor for want of a date
  pub without_dates : (judged_table (ahead_of ds) (length ds) (link_of ls) state_room (length ls) ≡ 0) × (undated p ds ≡ false)
  without_dates = judged_dated (judged_table (ahead_of ds) (length ds) (link_of ls) state_room (length ls)) (undated p ds) ok

  come_fresh : (q : State) → Policed p ds → saved q ≡ fresh_of state_room p ds ls → Come (station ds ls) [] [] q
  unfolding past turned
  come_fresh q policed i =
      let few = rules.room (ahead_of ds) (length ds) (link_of ls) state_room (length ls) without_dates.0 in
      record {
        begin = fresh_of state_room p ds ls;
        same = own_station p ds ls few.0 few.1;
        os = [];
        reached = subst (λ (x : Saved). Reached (ahead_in (fresh_of state_room p ds ls)) state_room (fresh_of state_room p ds ls) (record { state = x; history = []; numbers = [] })) (sym i)
            (subst (λ (ahead : ℕ → ℕ → Bool). Reached ahead state_room (fresh_of state_room p ds ls) (record { state = fresh_of state_room p ds ls; history = []; numbers = [] }))
            (sym (fresh_ahead state_room p ds ls few.0)) (reached_fresh (ahead_of ds) state_room p ds ls without_dates.0 policed without_dates.1));
        turns = refl;
      }

module _ {T : Table ℕ} {es : List (Timed ℕ)} {ns : List ℕ} {q : State} (C : Come T es ns q) (c : Call) (r : Step) (call : Gives q c r) where
  come_accepted : r.answer.refusal ≡ 0 → Come T (es ++ (timed_call c ∷ [])) (ns ++ numbers_of (call_event c) r) r.state
  come_accepted z = record {
    begin = C.begin;
    same = C.same;
    os = note (call_event c) r.answer.value C.os;
    reached = subst (λ (H : List (Timed ℕ)). Reached (ahead_in C.begin) state_room C.begin (stands r.state H (note (call_event c) r.answer.value C.os)))
        (sym (past_snoc [] es (timed_call c)))
        (subst (λ (o : Progress). Reached (ahead_in C.begin) state_room C.begin o)
        (after_accepted (ahead_in C.begin) q (come_ahead C.reached) (past [] es) C.os c r call z) (reached_after (own_order C.begin) C.reached c));
    turns = ap (λ (xs : List ℕ). xs ++ numbers_of (call_event c) r) C.turns ∙ noted (call_event c) r C.os;
  }

  come_refused : r.answer.refusal ≢ 0 → Come T es ns r.state
  come_refused n = subst (λ (x : State). Come T es ns x) (sym (same_state q c r call n)) C

pub comes : {T : Table ℕ} {es : List (Timed ℕ)} {ns : List ℕ} {q : State} → Calls T es ns q → Come T es ns q
comes (fresh {p} {X} over n l D W R K B m said ok) =
    let i = made_is p n l D X W R K B m said ok in
    come_fresh p (first_tasks n D X) (first_links l W R K B) i.0 m.state (handed_policed over n D) i.1
comes (accepted d c r call z) = come_accepted (comes d) c r call z
comes (refused d c r call n) = come_refused (comes d) c r call n

-- and its arrays have their lengths
pub calls_whole : {T : Table ℕ} {es : List (Timed ℕ)} {ns : List ℕ} {q : State} → Calls T es ns q → IsWhole q
calls_whole (fresh over n l D W R K B m said ok) = said.whole
calls_whole (accepted d c r call z) = call.whole
calls_whole (refused d c r call n) = call.whole
