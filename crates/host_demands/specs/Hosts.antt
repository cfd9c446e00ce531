-- The calls of C and Rust hosts: each is one that the demands speak of, on a state that the host keeps in its own memory. They are those of `exports`; a host links
-- `exports_c`, which has each of them with the same clauses, and tools/test-scripts holds the two texts against each other. A reader begins at `Hosts`, the last
-- record here; proofs/Hosts.antt has `hosts`.
-- Assumes nothing.
use Rattle.std.specs.Prelude.{◌≡◌, ◌≢◌, List, [], ◌∷◌, ℕ, ◌-◌, ◌≤◌, length, drop}
use contract.Lifetimes.{Lfts}
use Rattle.std.specs.Borrow.{MutBor}
use denote.Triple.Clauses.{AtExit}
use borrow.Fn.Kinds.{Dens, res_t, ended_of}
use Rattle.protocol.specs.Event.{Event, arrival, start, read, finish}
use Rattle.protocol_state.specs.Saved.{Saved, state_room, at}
use Rattle.protocol_state.specs.Sound.{StandsSound}
use Rattle.protocol_state.specs.Fresh.{made}
use Rattle.protocol_state.specs.Give.{reply}
use Rattle.protocol_state.specs.Records.{first_tasks, first_links}
use Rattle.byte_format.specs.Number.{Bytes}
use Rattle.recording_format.specs.Words.{Words}
use Rattle.mailbox_layout.specs.Layout.{state_of}
use Rattle.mailbox.specs.States.{saved, IsWhole}
use Rattle.mailbox.specs.declared.State.{State}
use Rattle.recording.specs.declared.Answer.{Answer}
use Rattle.recording_demands.specs.Ensured.{Replays}
use Rattle.recording_demands.specs.Rest.{Unread}
use Rattle.recording_write_demands.specs.Ensured.{Writes}
use Rattle.demands.specs.Calls.{Makes, Gives}
use Rattle.mailbox_event.specs.Plain.{policy_for}
use Rattle.mailbox_event.specs.declared.When.{When}
use Rattle.mailbox_event.specs.declared.When.TheVariants.{Untimed, At}
use Rattle.mailbox_call.specs.Calls.{requested, handed_over, request_reply}
use Rattle.exports.specs.Made.{made_as}
use Rattle.exports.specs.Replayed.{Replayed}
use Rattle.exports.specs.Wrote.{Wrote}
use Rattle.exports.proofs.fresh.parnusild_fresh_32_96_66.Kinds as of_fresh
use Rattle.exports.proofs.fresh.parnusild_fresh_32_96_66.Reads as on_fresh
use Rattle.exports.proofs.fresh.parnusild_fresh_dated_32_96_66.Kinds as of_fresh_dated
use Rattle.exports.proofs.fresh.parnusild_fresh_dated_32_96_66.Reads as on_fresh_dated
use Rattle.exports.proofs.event.parnusild_event_32_96_66.Kinds as of_event
use Rattle.exports.proofs.event.parnusild_event_32_96_66.Reads as on_event
use Rattle.exports.proofs.event.parnusild_event_at_32_96_66.Kinds as of_event_at
use Rattle.exports.proofs.event.parnusild_event_at_32_96_66.Reads as on_event_at
use Rattle.exports.proofs.replay.parnusild_replay_32_96_66.Kinds as of_replay
use Rattle.exports.proofs.replay.parnusild_replay_32_96_66.Reads as on_replay
use Rattle.exports.proofs.write.parnusild_write_32_96_66.Kinds as of_write
use Rattle.exports.proofs.write.parnusild_write_32_96_66.Reads as on_write
use Rattle.exports.proofs.rest.parnusild_rest_32_96_66.Kinds as of_rest
use Rattle.exports.proofs.rest.parnusild_rest_32_96_66.Reads as on_rest
use Rattle.exports.proofs.sizes.parnusild_sizes.Kinds as of_sizes
use Rattle.exports.proofs.sizes.parnusild_sizes.Reads as on_sizes

-- ---- what the contracts in the source say

-- `parnusild_fresh_32_96_66`, under the policy 0, and `parnusild_fresh_dated_32_96_66`, under 1, lent a table with the relative deadlines X, none for the first:
-- it answers r and leaves the state q
abbrev pub HostMakes : ℕ → ℕ → ℕ → List ℕ → List ℕ → List ℕ → List ℕ → List ℕ → List ℕ → ℕ → Saved → Type 0
HostMakes p T L D X W R K B r q = made_as r q ≡ made state_room p (first_tasks T D X) (first_links L W R K B)

-- `parnusild_event_32_96_66`, without a tick, and `parnusild_event_at_32_96_66`, at one, lent the state q: it answers r and the number v, and leaves the state q'
abbrev pub HostGives : When → Saved → ℕ → ℕ → ℕ → ℕ → ℕ → Saved → Type 0
HostGives w q kind which value r v q' = reply q' r v ≡ request_reply w q (requested kind which value)

-- `parnusild_replay_32_96_66`, lent the bytes s and the list out: it answers r at the place m, with the counts cs, and leaves the state q and `list`
abbrev pub HostReplays : List ℕ → List ℕ → ℕ → ℕ → List ℕ → Saved → List ℕ → Type 0
HostReplays s out r m cs q list = Replayed s out r m cs q list × Bytes s

-- `parnusild_write_32_96_66`, told a kind and lent the numbers ds of tasks, lw of links and ew of events, and a buffer that held `old`: it answers r at the place m and leaves `new`
abbrev pub HostWrites : ℕ → List ℕ → List ℕ → List ℕ → List ℕ → ℕ → ℕ → List ℕ → Type 0
HostWrites told ds lw ew old r m new = Wrote told ds lw ew old r m new × (Words ds × (Words lw × Words ew))

-- `parnusild_sizes` leaves these: so many tasks, links, bytes of control, numbers of values and of times
abbrev pub HostSizes : List ℕ → Type 0
HostSizes sizes = sizes ≡ 32 ∷ 96 ∷ 608 ∷ 448 ∷ 66 ∷ []

-- `parnusild_rest_32_96_66`, lent the bytes s: it answers n to the place m
abbrev pub HostRests : List ℕ → ℕ → ℕ → Type 0
HostRests s m n = n ≡ length (drop m s)

-- "Whatever .. is handed over, an answer comes back": the host's calls ask nothing of what is lent
pub record HostAsksNothing : Type 0 where
  pub fresh : (κs : Lfts 10) (lent : Dens κs of_fresh.ps) → on_fresh.Asked κs lent
  pub fresh_dated : (κs : Lfts 11) (lent : Dens κs of_fresh_dated.ps) → on_fresh_dated.Asked κs lent
  pub event : (κs : Lfts 4) (lent : Dens κs of_event.ps) → on_event.Asked κs lent
  pub event_at : (κs : Lfts 4) (lent : Dens κs of_event_at.ps) → on_event_at.Asked κs lent
  pub replay : (κs : Lfts 9) (lent : Dens κs of_replay.ps) → on_replay.Asked κs lent
  pub write : (κs : Lfts 5) (lent : Dens κs of_write.ps) → on_write.Asked κs lent
  pub rest : (κs : Lfts 1) (lent : Dens κs of_rest.ps) → on_rest.Asked κs lent
  pub sizes : (κs : Lfts 1) (lent : Dens κs of_sizes.ps) → on_sizes.Asked κs lent

-- a lent number, a lent list
abbrev pub Number : Type 0
Number = MutBor ℕ

abbrev pub Numbers : Type 0
Numbers = MutBor (List ℕ)

-- the three arrays of a state, lent one after the other: control, values, times
abbrev pub Arrays : Type 0
Arrays = Numbers × (Numbers × (Numbers × Unit {0}))

-- the state in them, with the counts T and L
abbrev pub state_with : ℕ → ℕ → Arrays → Saved
state_with T L (c, (v, (x, u))) = state_of T L c.now v.now x.now

-- all its parts: the counts, then the arrays
abbrev pub Parts : Type 0
Parts = Number × (Number × Arrays)

-- the state in them
abbrev pub state_in : Parts → Saved
state_in (T, (L, arrays)) = state_with T.now L.now arrays

-- arrays that hold what they held, to the last byte
pub record Untouched (before after : Arrays) : Type 0 where
  pub control : after.0.now ≡ before.0.now
  pub values : after.1.0.now ≡ before.1.0.now
  pub times : after.1.1.0.now ≡ before.1.1.0.now

-- the contracts: `lent` are the arguments of a call, in their order, `left` is what the references among them hold after it
pub record HostTells : Type 0 where
  pub fresh : (κs : Lfts 10) (lent : Dens κs of_fresh.ps) (r : (res_t of_fresh.r κs).Denot) (left : AtExit (ended_of 10 of_fresh.ps of_fresh.r) κs) →
      on_fresh.Learnt κs lent r left →
      HostMakes 0 lent.0 lent.1.0 lent.1.1.0.now [] lent.1.1.1.0.now lent.1.1.1.1.0.now lent.1.1.1.1.1.0.now
      lent.1.1.1.1.1.1.0.now r (state_in left.1.1.1.1.1.1.1)
  pub fresh_dated : (κs : Lfts 11) (lent : Dens κs of_fresh_dated.ps) (r : (res_t of_fresh_dated.r κs).Denot) (left : AtExit (ended_of 11 of_fresh_dated.ps of_fresh_dated.r) κs) →
      on_fresh_dated.Learnt κs lent r left →
      HostMakes 1 lent.0 lent.1.0 lent.1.1.0.now lent.1.1.1.0.now lent.1.1.1.1.0.now lent.1.1.1.1.1.0.now
      lent.1.1.1.1.1.1.0.now lent.1.1.1.1.1.1.1.0.now r (state_in left.1.1.1.1.1.1.1.1)
  -- and a refusal leaves the three arrays as they were lent
  pub event : (κs : Lfts 4) (lent : Dens κs of_event.ps) (r : (res_t of_event.r κs).Denot) (left : AtExit (ended_of 4 of_event.ps of_event.r) κs) →
      on_event.Learnt κs lent r left →
      let state = state_with lent.1.1.1.1.0 lent.1.1.1.1.1.0 in
      let before = lent.1.1.1.1.1.1 in
      let after = left.1.1.1.1.1.1 in
      HostGives Untimed (state before) lent.0 lent.1.0 lent.1.1.0 r left.1.1.1.0.now (state after) × (r ≢ 0 → Untouched before after)
  pub event_at : (κs : Lfts 4) (lent : Dens κs of_event_at.ps) (r : (res_t of_event_at.r κs).Denot) (left : AtExit (ended_of 4 of_event_at.ps of_event_at.r) κs) →
      on_event_at.Learnt κs lent r left →
      let state = state_with lent.1.1.1.1.1.0 lent.1.1.1.1.1.1.0 in
      let before = lent.1.1.1.1.1.1.1 in
      let after = left.1.1.1.1.1.1.1 in
      HostGives (At lent.0) (state before) lent.1.0 lent.1.1.0 lent.1.1.1.0 r left.1.1.1.1.0.now (state after) × (r ≢ 0 → Untouched before after)
  pub replay : (κs : Lfts 9) (lent : Dens κs of_replay.ps) (r : (res_t of_replay.r κs).Denot) (left : AtExit (ended_of 9 of_replay.ps of_replay.r) κs) →
      on_replay.Learnt κs lent r left →
      HostReplays lent.0.now lent.1.0.now r left.1.1.0.now left.1.1.1.0.now (state_in left.1.1.1.1) left.1.0.now
  pub write : (κs : Lfts 5) (lent : Dens κs of_write.ps) (r : (res_t of_write.r κs).Denot) (left : AtExit (ended_of 5 of_write.ps of_write.r) κs) →
      on_write.Learnt κs lent r left →
      HostWrites lent.0 lent.1.0.now lent.1.1.0.now lent.1.1.1.0.now lent.1.1.1.1.0.now r left.1.1.1.1.1.0.now
      left.1.1.1.1.0.now
  pub rest : (κs : Lfts 1) (lent : Dens κs of_rest.ps) (n : (res_t of_rest.r κs).Denot) (left : AtExit (ended_of 1 of_rest.ps of_rest.r) κs) →
      on_rest.Learnt κs lent n left → HostRests lent.0.now lent.1.0 n
  pub sizes : (κs : Lfts 1) (lent : Dens κs of_sizes.ps) (u : (res_t of_sizes.r κs).Denot) (left : AtExit (ended_of 1 of_sizes.ps of_sizes.r) κs) →
      on_sizes.Learnt κs lent u left → HostSizes left.0.now

-- ---- and these are the calls that the demands speak of

-- the event that the three numbers of `parnusild_event_32_96_66` say; a kind with no line here is none
pub data HostSays : ℕ → ℕ → ℕ → Event ℕ → Type 0 where
  an_arrival : {set value : ℕ} → HostSays 1 set value (arrival set)
  a_start : {t value : ℕ} → HostSays 2 t value (start t)
  a_read : {l value : ℕ} → HostSays 3 l value (read l)
  a_finish : {t value : ℕ} → HostSays 4 t value (finish t value)

-- the code's state that holds what a host's arrays do: those have their lengths, which is what a host promises by its types
pub record Holds (p : State) (q : Saved) : Type 0 where
  pub same : saved p ≡ q
  pub whole : IsWhole p

-- the state is sound, and of the policy that the call is for
abbrev pub IsFor : When → Saved → Type 0
IsFor w q = StandsSound state_room q × (q.policy ≡ policy_for w)

-- the answer that a replay's parts are; the counts stand in their order
abbrev pub host_answer : ℕ → ℕ → List ℕ → State → Answer
host_answer r m cs p = record { refusal = r; place = m; state = p; arrivals = at cs 0; starts = at cs 1; reads = at cs 2; finishes = at cs 3 }

-- the last n of the bytes s
abbrev pub last_of : ℕ → List ℕ → List ℕ
last_of n s = drop (length s - n) s

pub record Hosts : Type 0 where
  -- demand 1, "Whatever bytes, events or saved state are handed over, an answer comes back."
  pub asks : HostAsksNothing
  -- what the sentences below take of a call is what its contract in the source tells
  pub tells : HostTells
  -- a table handed to `parnusild_fresh_32_96_66` makes what it makes by `State::fresh`, and one handed to `parnusild_fresh_dated_32_96_66` by `State::fresh_dated`
  pub fresh : (p T L : ℕ) (D X W R K B : List ℕ) (r : ℕ) (q : Saved) → HostMakes p T L D X W R K B r q →
      (s : State) → Holds s q → Makes p T L D X W R K B (record { refusal = r; state = s })
  -- an event, kinds 1 to 4, is given to the state by `parnusild_event_32_96_66` as by `State::event`, by `parnusild_event_at_32_96_66` as by `State::event_at`
  pub event : (w : When) (q q' : Saved) (kind which value r v : ℕ) → HostGives w q kind which value r v q' →
      (e : Event ℕ) → HostSays kind which value e → (p p' : State) → Holds p q → Holds p' q' →
      Gives p (handed_over w e) (record { state = p'; answer = record { refusal = r; value = v } })
  -- "Nothing unknown ever becomes a default.": any other kind is 11 of a sound state of the call's policy and 19 of another, the state as it was, and no number
  pub unknown : (w : When) (q q' : Saved) (kind which value r v : ℕ) → HostGives w q kind which value r v q' →
      ((e : Event ℕ) → HostSays kind which value e → ⊥) →
      (IsFor w q → reply q' r v ≡ reply q 11 0) × ((IsFor w q → ⊥) → reply q' r v ≡ reply q 19 0)
  -- what `parnusild_replay_32_96_66` answers and leaves is what `recording::replay` does
  pub replay : {s out cs list : List ℕ} {r m : ℕ} {q : Saved} → HostReplays s out r m cs q list →
      (p : State) → Holds p q → Replays s out (host_answer r m cs p) list
  -- what `parnusild_write_32_96_66` answers and leaves is what `recording_write::write` does
  pub write : {told : ℕ} {ds lw ew old new : List ℕ} {r m : ℕ} → HostWrites told ds lw ew old r m new → Writes told ds lw ew old (record { refusal = r; place = m }) new
  -- "On refusal the caller also gets the unread rest": so many bytes, the last of the recording, as `parnusild_rest_32_96_66` answers to a replay's place
  pub rest : {s out list : List ℕ} {a : Answer} {n : ℕ} → Replays s out a list → HostRests s a.place n → (n ≤ length s) × Unread s a.refusal a.place (last_of n s)
