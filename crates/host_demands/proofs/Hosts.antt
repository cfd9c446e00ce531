-- The calls of hosts are the calls that the demands speak of.
-- Assumes nothing.
use mathlib.Core.Path.{◌≡◌, refl, sym, ap, ◌∙◌}
use mathlib.Core.Bool.{Bool, true, false}
use mathlib.Core.List.{List}
use Prim.Native.Nat.{ℕ, ◌-◌, ◌≤◌}
use native.Mathlib.Omega.{arith}
use borrow.Author.Tests.{eqb-true, eq-eqb, ne_eqb}
use lib.Dec.{eqb}
use lib.ListN.{length, drop, length-drop}
use Rattle.protocol.specs.Event.{Event, arrival, start, read, finish}
use Rattle.protocol_state.specs.Saved.{Saved, state_room, at, ahead_in}
use Rattle.protocol_state.specs.Sound.{is_sound}
use Rattle.protocol_state.specs.Give.{reply, settled, given_to}
use Rattle.protocol_state.proofs.Sound.{sound_says, says_sound}
use Rattle.protocol_state.proofs.Give.{unsound, refused}
use Rattle.mailbox.specs.declared.State.{State}
use Rattle.exports.specs.Made.{made_as}
use Rattle.recording.specs.declared.Answer.{Answer}
use Rattle.recording_demands.specs.Ensured.{Replays}
use Rattle.recording_demands.specs.Rest.{Unread}
use Rattle.recording_demands.proofs.Rest.{unread}
use Rattle.recording_write_demands.specs.Ensured.{Writes}
use Rattle.demands.specs.Calls.{Gives}
use Rattle.lists.proofs.Bools.{and_left, and_right}
use Rattle.mailbox_event.specs.Plain.{policy_for}
use Rattle.mailbox_event.specs.declared.When.{When}
use Rattle.mailbox_call.specs.Calls.{Request, known, unknown, requested, handed_over, sound_when, request_reply}
use Rattle.host_demands.specs.Hosts.{HostGives, HostReplays, HostWrites, HostRests, HostAsksNothing, HostTells, HostSays, an_arrival, a_start, a_read, a_finish, Holds, IsFor, host_answer, last_of, Hosts}

host_asks : HostAsksNothing
host_asks = record { fresh = λ κs lent. tt; fresh_dated = λ κs lent. tt; event = λ κs lent. tt; event_at = λ κs lent. tt; replay = λ κs lent. tt; write = λ κs lent. tt; rest = λ κs lent. tt; sizes = λ κs lent. tt }

host_tells : HostTells
host_tells = record {
  fresh = λ κs lent r left learnt. learnt;
  fresh_dated = λ κs lent r left learnt. learnt;
  event = λ κs lent r left learnt. (learnt.0, λ n. let k = learnt.1 n in record { control = k.0; values = k.1.0; times = k.1.1 });
  event_at = λ κs lent r left learnt. (learnt.0, λ n. let k = learnt.1 n in record { control = k.0; values = k.1.0; times = k.1.1 });
  replay = λ κs lent r left learnt. learnt;
  write = λ κs lent r left learnt. learnt;
  rest = λ κs lent n left learnt. learnt;
  sizes = λ κs lent u left learnt. learnt;
}

-- the code's reading of the three numbers
says_known : {kind which value : ℕ} {e : Event ℕ} → HostSays kind which value e → requested kind which value ≡ known e
unfolding requested
says_known an_arrival = refl
says_known a_start = refl
says_known a_read = refl
says_known a_finish = refl

says_unknown : (kind which value : ℕ) → ((e : Event ℕ) → HostSays kind which value e → ⊥) → requested kind which value ≡ unknown
unfolding requested
says_unknown kind which value none =
    rw (
      ne_eqb kind 1 (λ i. none (arrival which) (rw i an_arrival)),
      ne_eqb kind 2 (λ i. none (start which) (rw i a_start)),
      ne_eqb kind 3 (λ i. none (read which) (rw i a_read)),
      ne_eqb kind 4 (λ i. none (finish which value) (rw i a_finish)),
    )

-- the test of the code says that the state is sound and of the policy
sound_when_lem : (w : When) (q : Saved) → IsFor w q → sound_when w q ≡ true
sound_when_lem w q (S, i) = rw (says_sound (ahead_in q) state_room q S, eq-eqb q.policy (policy_for w) i)

not_when : (w : When) (q : Saved) → (IsFor w q → ⊥) → sound_when w q ≡ false
not_when w q n = go (sound_when w q) refl
  where
    go : (b : Bool) → sound_when w q ≡ b → sound_when w q ≡ false
    go false e = e
    go true e =
        absurd (n (sound_says (ahead_in q) state_room q (and_left (is_sound (ahead_in q) state_room q) _ e), eqb-true q.policy (policy_for w) (and_right (is_sound (ahead_in q) state_room q) _ e)))

module _ (w : When) (q q' : Saved) (kind which value r v : ℕ) (said : HostGives w q kind which value r v q') where
  answer_is : {c : Request} → requested kind which value ≡ c → reply q' r v ≡ request_reply w q c
  answer_is i = said ∙ ap (λ (c : Request). request_reply w q c) i

  event_is : (e : Event ℕ) → HostSays kind which value e → (p p' : State) → Holds p q → Holds p' q' →
      Gives p (handed_over w e) (record { state = p'; answer = record { refusal = r; value = v } })
  event_is e s p p' h h' = record {
    answer = ap (λ (x : Saved). reply x r v) h'.same ∙ answer_is (says_known s) ∙ ap (λ (x : Saved). given_to state_room x (handed_over w e)) (sym h.same);
    lent = h.whole;
    whole = h'.whole;
  }

  -- the answer to a kind that is unknown
  unknown_is : ((e : Event ℕ) → HostSays kind which value e → ⊥) → (IsFor w q → reply q' r v ≡ reply q 11 0) × ((IsFor w q → ⊥) → reply q' r v ≡ reply q 19 0)
  unknown_is none =
      let e = answer_is (says_unknown kind which value none) in
      (λ S. e ∙ refused 11 q q 0 (sound_when_lem w q S) (λ z. omega arith), λ n. e ∙ unsound 11 q q 0 (not_when w q n))

-- the parts of a replay's answer
replay_is : {s out cs list : List ℕ} {r m : ℕ} {q : Saved} → HostReplays s out r m cs q list → (p : State) → Holds p q → Replays s out (host_answer r m cs p) list
replay_is {s} {out} {cs} (R, b) p h = record {
  whole = h.whole;
  answer = λ i. record {
    refusal = R.refusal i;
    place = R.place i;
    state = record {
      state = (h.same ∙ R.state) i;
      counts = record { arrivals = at (R.counts i) 0; starts = at (R.counts i) 1; reads = at (R.counts i) 2; finishes = at (R.counts i) 3 };
      list = R.list i;
    };
  };
  bytes = b;
}

write_is : {told : ℕ} {ds lw ew old new : List ℕ} {r m : ℕ} → HostWrites told ds lw ew old r m new → Writes told ds lw ew old (record { refusal = r; place = m }) new
write_is (W, n) = record { answer = λ i. record { refusal = W.refusal i; place = W.place i }; buffer = W.bytes; numbers = n }

-- a part from a place on is as many of the last bytes
last_part : (s : List ℕ) (m n : ℕ) → m ≤ length s → n ≡ length (drop m s) → (n ≤ length s) × (last_of n s ≡ drop m s)
last_part s m n w e =
    let k : n ≡ length s - m = e ∙ length-drop m s in
    let back : length s - n ≡ m = omega arith in
    (omega arith, ap (λ (x : ℕ). drop x s) back)

rest_is : {s out list : List ℕ} {a : Answer} {n : ℕ} → Replays s out a list → HostRests s a.place n → (n ≤ length s) × Unread s a.refusal a.place (last_of n s)
rest_is {s} {out} {list} {a} {n} said e =
    let p = last_part s a.place n (unread said refl).within e in
    (p.0, unread said p.1)

pub hosts : Hosts
hosts = record {
  asks = host_asks;
  tells = host_tells;
  fresh = λ p T L D X W R K B r q said s h. record { answer = ap (made_as r) h.same ∙ said; whole = h.whole };
  event = event_is;
  unknown = unknown_is;
  replay = replay_is;
  write = write_is;
  rest = rest_is;
}
