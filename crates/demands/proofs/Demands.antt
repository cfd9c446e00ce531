-- The three demands hold, and what document 01 says besides of a whole recording.
-- Assumes nothing.
use mathlib.Core.Path.{◌≡◌, refl, sym, ap, subst, ◌∙◌}
use mathlib.Core.Logic.{◌≢◌, ◌⊎◌, inl, inr, ◌↔◌}
use mathlib.Core.Bool.{Bool, true, false, cond, ◌&&◌}
use mathlib.Core.List.{List, [], ◌∷◌}
use Prim.Native.Nat.{ℕ, ◌≤◌}
use borrow.Author.Tests.{eqb-true, eq-eqb, ne_eqb}
use lib.Dec.{eqb}
use lib.ListN.{length}
use Rattle.protocol.specs.Event as protocol
use Rattle.protocol_deadlines.specs.Timed.{Timed}
use Rattle.protocol.specs.Table.{Table}
use Rattle.protocol_state.specs.Saved.{Saved, state_room, ahead_in}
use Rattle.protocol_state.specs.Sound.{StandsSound, tested_sound}
use Rattle.protocol_state.specs.Fresh as state
use Rattle.protocol_state.specs.Fresh.{made, judged_lists}
use Rattle.protocol_state.specs.Give.{Reply, sound_for, given_to}
use Rattle.protocol_state.proofs.Sound.{sound_says, says_sound}
use Rattle.protocol_state.proofs.Give.{give_refusal, give_unsound, refused_same, call_tick_lem}
use Rattle.protocol.specs.History.{past}
use Rattle.protocol_state.specs.Records.{Task}
use Rattle.recording_demands.proofs.Contract.{learnt_ensured, ensured_learnt}
use Rattle.recording_demands.proofs.Rest.{unread}
use Rattle.demands.proofs.Contract.{table_told, call_told}
use Rattle.mailbox_event.specs.Plain.{plain}
use Rattle.mailbox.specs.States.{saved}
use Rattle.mailbox.proofs.Packed.{saved_same}
use Rattle.mailbox.specs.declared.State.{State}
use Rattle.mailbox.specs.declared.Step.{Step}
use Rattle.mailbox.specs.declared.Made.{Made}
use Rattle.byte_format.specs.Number.{Bytes}
use Rattle.recording_format.proofs.AllKinds.{kind_length}
use Rattle.recording_format.specs.Link.{Link}
use Rattle.recording_format.specs.RecordingKind.{by_kind, any_kind}
use Rattle.recording_format.specs.declared.WhichKind.{WhichKind}
use Rattle.recording_core.specs.Playing.{core_of}
use Rattle.recording.specs.declared.Answer.{Answer}
use Rattle.recording_demands.specs.Ensured.{Replays}
use Rattle.demands.specs.Recordings.{Genuine, Listed, AtTable, Explained}
use Rattle.demands.specs.Station.{station, HandedOver, Keeps, first_tasks, first_links}
use Rattle.demands.specs.States.{IsSound, table_in, policy_in, standing_in}
use Rattle.demands.specs.Calls.{Call, plainly, ticked, call_policy, call_tick, call_event, Makes, Gives, Calls}
use Rattle.demands.specs.Refusals.{Earns, TableEarns, EventBreaks, by_history}
use Rattle.demands.specs.Refusals as refusals
use Rattle.demands.specs.Border.{AsksNothing, Tells}
use Rattle.demands.specs.Demands.{as_lent, Demand1, Demand2, Demand3, WholeRecordings}
use Rattle.demands.proofs.Tables.{handed_policed}
use Rattle.demands.proofs.Earned.{earns_exactly}
use Rattle.demands.proofs.TableEarned.{judged_table_earned, table_earns_one}
use Rattle.demands.proofs.Events.{phases_earned, judged_earned}
use Rattle.demands.proofs.Calls.{same_state}
use Rattle.demands.proofs.Runs.{calls_refusal, calls_event, calls_published, calls_there, calls_order, calls_no_time, calls_direct, calls_delayed, calls_start_value, calls_finished}
use Rattle.demands.proofs.Course.{one_course}
use Rattle.demands.proofs.AnyState.{any_state, any_number, silent}
use Rattle.demands.proofs.Replays.{keeps_of}
use Rattle.demands.proofs.Genuine.{genuine_kept, one_reading, exactly, accepted_calls}
use Rattle.demands.proofs.Explained.{single_held, every_answer}
use Rattle.demands.proofs.Only.{explained_is, explained_whole, only, totals}
use Rattle.demands.proofs.Unknown.{unknown_first, unknown_event, unknown_link}
use Rattle.demands.proofs.Cuts.{one_answer, power_cut, nothing_lost}

asks_nothing : AsksNothing
asks_nothing = record {
  replay = λ κs lent. tt;
  rest = λ κs lent. tt;
  fresh = λ κs lent. tt;
  arrival = λ κs lent. tt;
  start = λ κs lent. tt;
  read = λ κs lent. tt;
  finish = λ κs lent. tt;
  event = λ κs lent. tt;
  fresh_dated = λ κs lent. tt;
  arrival_at = λ κs lent. tt;
  start_at = λ κs lent. tt;
  read_at = λ κs lent. tt;
  finish_at = λ κs lent. tt;
  event_at = λ κs lent. tt;
}

-- what a caller learns of each call is what the demands take of it
tells : Tells
tells = record {
  replay = λ κs lent a left. (learnt_ensured κs lent a left, ensured_learnt κs lent a left);
  rest = λ κs lent part left. (λ learnt. learnt, λ said. said);
  fresh = λ κs lent m left. table_told m;
  arrival = λ κs lent r left. call_told lent.0 (plainly (protocol.arrival lent.1.0)) r;
  start = λ κs lent r left. call_told lent.0 (plainly (protocol.start lent.1.0)) r;
  read = λ κs lent r left. call_told lent.0 (plainly (protocol.read lent.1.0)) r;
  finish = λ κs lent r left. call_told lent.0 (plainly (protocol.finish lent.1.0 lent.1.1.0)) r;
  event = λ κs lent r left. call_told lent.0 (plainly (plain lent.1.0)) r;
  fresh_dated = λ κs lent m left. table_told m;
  arrival_at = λ κs lent r left. call_told lent.0 (ticked lent.1.0 (protocol.arrival lent.1.1.0)) r;
  start_at = λ κs lent r left. call_told lent.0 (ticked lent.1.0 (protocol.start lent.1.1.0)) r;
  read_at = λ κs lent r left. call_told lent.0 (ticked lent.1.0 (protocol.read lent.1.1.0)) r;
  finish_at = λ κs lent r left. call_told lent.0 (ticked lent.1.0 (protocol.finish lent.1.1.0 lent.1.1.1.0)) r;
  event_at = λ κs lent r left. call_told lent.0 (ticked lent.1.0 (plain lent.1.1.0)) r;
}

-- ---- a table, under the policy p
-- the refusal of what a table makes is what the table is judged
made_refusal : (p : ℕ) (ds : List Task) (ls : List Link) → (made state_room p ds ls).refusal ≡ judged_lists state_room p ds ls
unfolding made
made_refusal p ds ls = go (eqb (judged_lists state_room p ds ls) 0) refl
  where
    go : (b : Bool) → eqb (judged_lists state_room p ds ls) 0 ≡ b
        → (cond {A = state.Made} b (record { refusal = 0; state = state.fresh_of state_room p ds ls }) (record { refusal = judged_lists state_room p ds ls; state = state.single state_room })).refusal
        ≡ judged_lists state_room p ds ls
    go true e = sym (eqb-true _ 0 e)
    go false e = refl

module _ (p T L : ℕ) (D X W R K B : List ℕ) (m : Made) (said : Makes p T L D X W R K B m) where
  abbrev ds : List Task
  ds = first_tasks T D X

  abbrev ls : List Link
  ls = first_links L W R K B

  refusal_is : m.refusal ≡ judged_lists state_room p ds ls
  refusal_is = ap (λ (x : state.Made). x.refusal) said.answer ∙ made_refusal p ds ls

  -- a table that is refused makes the single task's state
  table_refused : m.refusal ≢ 0 → Makes 0 1 0 (0 ∷ []) [] [] [] [] [] (record { refusal = 0; state = m.state })
  unfolding made
  table_refused n =
      let e : eqb (judged_lists state_room p ds ls) 0 ≡ false = ne_eqb _ 0 (λ z. n (refusal_is ∙ z)) in
      let single : (made state_room p ds ls).state ≡ state.single state_room = rw e in
      single_held m.state (ap (λ (x : state.Made). x.state) said.answer ∙ single) said.whole

  module _ (either : p ≤ 1) where
    number_earned : (n : ℕ) → (m.refusal ≡ n) ↔ TableEarns p ds ls n
    number_earned n = (
      λ z. subst (λ (k : ℕ). TableEarns p ds ls k) (sym refusal_is ∙ z) (judged_table_earned p either ds ls),
      λ t. refusal_is ∙ sym (table_earns_one p either ds ls t),
    )

    kept_exactly : (m.refusal ≡ 0) ↔ Keeps p ds ls
    kept_exactly = (λ z. keeps_of p ds ls (sym refusal_is ∙ z), λ k. (number_earned 0).1 (refusals.kept k))

-- as it is handed over
table_number : {p : ℕ} {X : List ℕ} → HandedOver p X → (T L : ℕ) (D W R K B : List ℕ) (m : Made) → Makes p T L D X W R K B m
    → (n : ℕ) → (m.refusal ≡ n) ↔ TableEarns p (first_tasks T D X) (first_links L W R K B) n
table_number {p} {X} over T L D W R K B m said = number_earned p T L D X W R K B m said (handed_policed over T D).either

table_kept : {p : ℕ} {X : List ℕ} → HandedOver p X → (T L : ℕ) (D W R K B : List ℕ) (m : Made) → Makes p T L D X W R K B m
    → (m.refusal ≡ 0) ↔ Keeps p (first_tasks T D X) (first_links L W R K B)
table_kept {p} {X} over T L D W R K B m said = kept_exactly p T L D X W R K B m said (handed_policed over T D).either

-- ---- an event given to any state

-- a state that is not sound fails the test
pub not_sound : (q : Saved) → (StandsSound state_room q → ⊥) → tested_sound state_room q ≡ false
not_sound q n = go (tested_sound state_room q) refl
  where
    go : (b : Bool) → tested_sound state_room q ≡ b → tested_sound state_room q ≡ false
    go true i = absurd (n (sound_says (ahead_in q) state_room q i))
    go false i = i

-- nothing is both so and not
and_none : (b : Bool) → (b && false) ≡ false
and_none true = refl
and_none false = refl

module _ (q : State) (c : Call) (r : Step) (call : Gives q c r) where
  event_number : IsSound q → policy_in q ≡ call_policy c → (n : ℕ) → (r.answer.refusal ≡ n) ↔ Earns (EventBreaks (table_in q) (standing_in q) (call_tick c) (call_event c)) n
  event_number S own =
      let passes : sound_for (ahead_in (saved q)) state_room (call_policy c) (saved q) ≡ true = rw (says_sound (ahead_in (saved q)) state_room (saved q) S, eq-eqb (policy_in q) (call_policy c) own) in
      earns_exactly
      (ap (λ (x : Reply). x.refusal) call.answer ∙ give_refusal (ahead_in (saved q)) state_room (call_policy c) (saved q) (call_tick c) (call_event c) passes)
      (phases_earned (saved q) S (call_tick c) (λ z. call_tick_lem c (sym own ∙ z)) (call_event c))

  -- a state that does not pass for this call
  not_passed : sound_for (ahead_in (saved q)) state_room (call_policy c) (saved q) ≡ false → r ≡ as_lent q 19
  not_passed n =
      let u = call.answer ∙ give_unsound (ahead_in (saved q)) state_room (call_policy c) (saved q) (call_tick c) (call_event c) n in
      λ j. record {
        state = saved_same r.state q call.whole call.lent (ap (λ (x : Reply). x.state) u) j;
        answer = record { refusal = (u j).refusal; value = (u j).value };
      }

  unknown_state : (IsSound q → ⊥) → r ≡ as_lent q 19
  unknown_state n = not_passed (rw (not_sound (saved q) n))

  other_policy : policy_in q ≢ call_policy c → r ≡ as_lent q 19
  other_policy n = not_passed (rw (ne_eqb (policy_in q) (call_policy c) n) (and_none (tested_sound state_room (saved q))))

  unchanged : r.answer.refusal ≢ 0 → r ≡ as_lent q r.answer.refusal
  unchanged n =
      let i : (given_to state_room (saved q) c).refusal ≢ 0 = λ z. n (ap (λ (x : Reply). x.refusal) call.answer ∙ z) in
      let u = refused_same (ahead_in (saved q)) state_room (call_policy c) (saved q) (call_tick c) (call_event c) i in
      λ j. record {
        state = same_state q c r call n j;
        answer = record { refusal = r.answer.refusal; value = (ap (λ (x : Reply). x.value) call.answer ∙ u.1) j };
      }

-- after any calls
number_there : {T : Table ℕ} {es : List (Timed ℕ)} {ns : List ℕ} {q : State} → Calls T es ns q → (k : Call) (r : Step) → Gives q k r → policy_in q ≡ call_policy k
    → (n : ℕ) → (r.answer.refusal ≡ n) ↔ Earns (EventBreaks T (by_history T (past [] es)) (call_tick k) (call_event k)) n
number_there {T} {es} c k r call own = earns_exactly (calls_refusal c k r call own) (judged_earned T (past [] es) (call_tick k) (call_event k))

-- a recording as calls, or refused in its table
as_calls : {s out list : List ℕ} {a : Answer} → Replays s out a list
    → AtTable s out a list ⊎ ((T : Table ℕ) × (es : List (Timed ℕ)) × (ns : List ℕ) × Calls T es ns a.state × Listed ns out list)
as_calls said = go (every_answer said)
  where
    go : {s out list : List ℕ} {a : Answer} → Explained s out a list
        → AtTable s out a list ⊎ ((T : Table ℕ) × (es : List (Timed ℕ)) × (ns : List ℕ) × Calls T es ns a.state × Listed ns out list)
    go (inl x) = inl x
    go (inr x) = inr (station x.ds x.ls, x.es, x.ns, x.calls, x.listed)

-- what the bytes explain is what the replay answers
told : {s out list : List ℕ} {a : Answer} → Bytes s → Explained s out a list → Replays s out a list
told b x = record { answer = explained_is x; whole = explained_whole x; bytes = b }

-- no recording is longer
longest : {which : WhichKind} {s out : List ℕ} {ds : List Task} {ls : List Link} {es : List (Timed ℕ)} → Genuine which s out ds ls es → length s ≤ by_kind which 60293 60805 60869
longest {which} {s} {out} {ds} {ls} {es} g = kind_length which (core_of state_room (any_kind which).policy out) s ds ls es (genuine_kept g)

-- ---- the theorems
pub demand_1 : Demand1
demand_1 = record {
  asks = asks_nothing;
  tells = tells;
  unknown_state = unknown_state;
  other_policy = other_policy;
  unknown_first = unknown_first;
  unknown_event = unknown_event;
  unknown_link = unknown_link;
  table_number = table_number;
  event_number = event_number;
  number_there = number_there;
  table_refused = table_refused;
  silent = silent;
  place = every_answer;
  told = told;
  only = only;
  unchanged = unchanged;
}

pub demand_2 : Demand2
demand_2 = record {
  recording = exactly;
  one_reading = one_reading;
  table = table_kept;
  event = calls_event;
  protocol = calls_published;
  there = calls_there;
  any_state = any_state;
  any_number = any_number;
  replayed = accepted_calls;
  one_course = one_course;
}

pub demand_3 : Demand3
demand_3 = record { recordings = as_calls; order = calls_order; no_time = calls_no_time; direct = calls_direct; delayed = calls_delayed; start_value = calls_start_value; finished = calls_finished }

pub whole_recordings : WholeRecordings
whole_recordings = record { totals = totals; power_cut = power_cut; nothing_lost = λ g a b all. nothing_lost g b a all; rest = unread; longest = longest; one_answer = one_answer }
