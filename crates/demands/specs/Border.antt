-- The contracts in the source: what a call asks, and what its caller learns, which is what the demands take of a call.
-- Assumes nothing.
use Rattle.std.specs.Prelude.{◌↔◌, []}
use contract.Lifetimes.{Lfts}
use denote.Triple.Clauses.{AtExit}
use borrow.Fn.Kinds.{Dens, res_t, ended_of}
use Rattle.protocol.specs.Event as protocol
use Rattle.mailbox_event.specs.Plain.{plain}
use Rattle.recording_demands.specs.Ensured.{Replays}
use Rattle.recording.proofs.replay.Kinds as of_replay
use Rattle.recording.proofs.replay.Reads as on_replay
use Rattle.mailbox.proofs.State.fresh.Kinds as of_fresh
use Rattle.mailbox.proofs.State.fresh.Reads as on_fresh
use Rattle.mailbox.proofs.State.fresh_dated.Kinds as of_fresh_dated
use Rattle.mailbox.proofs.State.fresh_dated.Reads as on_fresh_dated
use Rattle.mailbox.proofs.State.arrival.Kinds as of_arrival
use Rattle.mailbox.proofs.State.arrival.Reads as on_arrival
use Rattle.mailbox.proofs.State.arrival_at.Kinds as of_arrival_at
use Rattle.mailbox.proofs.State.arrival_at.Reads as on_arrival_at
use Rattle.mailbox.proofs.State.start.Kinds as of_start
use Rattle.mailbox.proofs.State.start.Reads as on_start
use Rattle.mailbox.proofs.State.start_at.Kinds as of_start_at
use Rattle.mailbox.proofs.State.start_at.Reads as on_start_at
use Rattle.mailbox.proofs.State.read.Kinds as of_read
use Rattle.mailbox.proofs.State.read.Reads as on_read
use Rattle.mailbox.proofs.State.read_at.Kinds as of_read_at
use Rattle.mailbox.proofs.State.read_at.Reads as on_read_at
use Rattle.mailbox.proofs.State.finish.Kinds as of_finish
use Rattle.mailbox.proofs.State.finish.Reads as on_finish
use Rattle.mailbox.proofs.State.finish_at.Kinds as of_finish_at
use Rattle.mailbox.proofs.State.finish_at.Reads as on_finish_at
use Rattle.mailbox.proofs.State.event.Kinds as of_event
use Rattle.mailbox.proofs.State.event.Reads as on_event
use Rattle.mailbox.proofs.State.event_at.Kinds as of_event_at
use Rattle.mailbox.proofs.State.event_at.Reads as on_event_at
use Rattle.recording.proofs.rest.Kinds as of_rest
use Rattle.recording.proofs.rest.Reads as on_rest
use Rattle.demands.specs.States.{IsSound}
use Rattle.demands.specs.Calls.{plainly, ticked, Makes, Gives, Rests}

-- no call asks anything of what is lent to it, so it can be made with whatever there is (that a proved function which is called as it asks returns is the
-- kit's: docs/TRUST.md)
pub record AsksNothing : Type 0 where
  pub replay : (κs : Lfts 2) (lent : Dens κs of_replay.ps) → on_replay.Asked κs lent
  pub rest : (κs : Lfts 1) (lent : Dens κs of_rest.ps) → on_rest.Asked κs lent
  pub fresh : (κs : Lfts 0) (lent : Dens κs of_fresh.ps) → on_fresh.Asked κs lent
  pub arrival : (κs : Lfts 0) (lent : Dens κs of_arrival.ps) → on_arrival.Asked κs lent
  pub start : (κs : Lfts 0) (lent : Dens κs of_start.ps) → on_start.Asked κs lent
  pub read : (κs : Lfts 0) (lent : Dens κs of_read.ps) → on_read.Asked κs lent
  pub finish : (κs : Lfts 0) (lent : Dens κs of_finish.ps) → on_finish.Asked κs lent
  pub event : (κs : Lfts 0) (lent : Dens κs of_event.ps) → on_event.Asked κs lent
  pub fresh_dated : (κs : Lfts 0) (lent : Dens κs of_fresh_dated.ps) → on_fresh_dated.Asked κs lent
  pub arrival_at : (κs : Lfts 0) (lent : Dens κs of_arrival_at.ps) → on_arrival_at.Asked κs lent
  pub start_at : (κs : Lfts 0) (lent : Dens κs of_start_at.ps) → on_start_at.Asked κs lent
  pub read_at : (κs : Lfts 0) (lent : Dens κs of_read_at.ps) → on_read_at.Asked κs lent
  pub finish_at : (κs : Lfts 0) (lent : Dens κs of_finish_at.ps) → on_finish_at.Asked κs lent
  pub event_at : (κs : Lfts 0) (lent : Dens κs of_event_at.ps) → on_event_at.Asked κs lent

-- `lent` are the arguments of a call, `left` is what they hold after it: a caller learns this, and that sound states stay sound, and no more
pub record Tells : Type 0 where
  pub replay : (κs : Lfts 2) (lent : Dens κs of_replay.ps) (a : (res_t of_replay.r κs).Denot) (left : AtExit (ended_of 2 of_replay.ps of_replay.r) κs) →
      on_replay.Learnt κs lent a left ↔ Replays lent.0.now lent.1.0.now a left.1.0.now
  pub rest : (κs : Lfts 1) (lent : Dens κs of_rest.ps) (part : (res_t of_rest.r κs).Denot) (left : AtExit (ended_of 1 of_rest.ps of_rest.r) κs) →
      on_rest.Learnt κs lent part left ↔ Rests lent.0.now lent.1.0 part.now
  pub fresh : (κs : Lfts 0) (lent : Dens κs of_fresh.ps) (m : (res_t of_fresh.r κs).Denot) (left : AtExit (ended_of 0 of_fresh.ps of_fresh.r) κs) →
      on_fresh.Learnt κs lent m left ↔ (Makes 0 lent.0 lent.1.0 lent.1.1.0 [] lent.1.1.1.0 lent.1.1.1.1.0 lent.1.1.1.1.1.0 lent.1.1.1.1.1.1.0 m × IsSound m.state)
  pub arrival : (κs : Lfts 0) (lent : Dens κs of_arrival.ps) (r : (res_t of_arrival.r κs).Denot) (left : AtExit (ended_of 0 of_arrival.ps of_arrival.r) κs) →
      on_arrival.Learnt κs lent r left ↔ (Gives lent.0 (plainly (protocol.arrival lent.1.0)) r × (IsSound lent.0 → IsSound r.state))
  pub start : (κs : Lfts 0) (lent : Dens κs of_start.ps) (r : (res_t of_start.r κs).Denot) (left : AtExit (ended_of 0 of_start.ps of_start.r) κs) →
      on_start.Learnt κs lent r left ↔ (Gives lent.0 (plainly (protocol.start lent.1.0)) r × (IsSound lent.0 → IsSound r.state))
  pub read : (κs : Lfts 0) (lent : Dens κs of_read.ps) (r : (res_t of_read.r κs).Denot) (left : AtExit (ended_of 0 of_read.ps of_read.r) κs) →
      on_read.Learnt κs lent r left ↔ (Gives lent.0 (plainly (protocol.read lent.1.0)) r × (IsSound lent.0 → IsSound r.state))
  pub finish : (κs : Lfts 0) (lent : Dens κs of_finish.ps) (r : (res_t of_finish.r κs).Denot) (left : AtExit (ended_of 0 of_finish.ps of_finish.r) κs) →
      on_finish.Learnt κs lent r left ↔ (Gives lent.0 (plainly (protocol.finish lent.1.0 lent.1.1.0)) r × (IsSound lent.0 → IsSound r.state))
  pub event : (κs : Lfts 0) (lent : Dens κs of_event.ps) (r : (res_t of_event.r κs).Denot) (left : AtExit (ended_of 0 of_event.ps of_event.r) κs) →
      on_event.Learnt κs lent r left ↔ (Gives lent.0 (plainly (plain lent.1.0)) r × (IsSound lent.0 → IsSound r.state))
  pub fresh_dated : (κs : Lfts 0) (lent : Dens κs of_fresh_dated.ps) (m : (res_t of_fresh_dated.r κs).Denot) (left : AtExit (ended_of 0 of_fresh_dated.ps of_fresh_dated.r) κs) →
      on_fresh_dated.Learnt κs lent m left ↔ (Makes 1 lent.0 lent.1.0 lent.1.1.0 lent.1.1.1.0 lent.1.1.1.1.0 lent.1.1.1.1.1.0 lent.1.1.1.1.1.1.0 lent.1.1.1.1.1.1.1.0 m × IsSound m.state)
  pub arrival_at : (κs : Lfts 0) (lent : Dens κs of_arrival_at.ps) (r : (res_t of_arrival_at.r κs).Denot) (left : AtExit (ended_of 0 of_arrival_at.ps of_arrival_at.r) κs) →
      on_arrival_at.Learnt κs lent r left ↔ (Gives lent.0 (ticked lent.1.0 (protocol.arrival lent.1.1.0)) r × (IsSound lent.0 → IsSound r.state))
  pub start_at : (κs : Lfts 0) (lent : Dens κs of_start_at.ps) (r : (res_t of_start_at.r κs).Denot) (left : AtExit (ended_of 0 of_start_at.ps of_start_at.r) κs) →
      on_start_at.Learnt κs lent r left ↔ (Gives lent.0 (ticked lent.1.0 (protocol.start lent.1.1.0)) r × (IsSound lent.0 → IsSound r.state))
  pub read_at : (κs : Lfts 0) (lent : Dens κs of_read_at.ps) (r : (res_t of_read_at.r κs).Denot) (left : AtExit (ended_of 0 of_read_at.ps of_read_at.r) κs) →
      on_read_at.Learnt κs lent r left ↔ (Gives lent.0 (ticked lent.1.0 (protocol.read lent.1.1.0)) r × (IsSound lent.0 → IsSound r.state))
  pub finish_at : (κs : Lfts 0) (lent : Dens κs of_finish_at.ps) (r : (res_t of_finish_at.r κs).Denot) (left : AtExit (ended_of 0 of_finish_at.ps of_finish_at.r) κs) →
      on_finish_at.Learnt κs lent r left ↔ (Gives lent.0 (ticked lent.1.0 (protocol.finish lent.1.1.0 lent.1.1.1.0)) r × (IsSound lent.0 → IsSound r.state))
  pub event_at : (κs : Lfts 0) (lent : Dens κs of_event_at.ps) (r : (res_t of_event_at.r κs).Denot) (left : AtExit (ended_of 0 of_event_at.ps of_event_at.r) κs) →
      on_event_at.Learnt κs lent r left ↔ (Gives lent.0 (ticked lent.1.0 (plain lent.1.1.0)) r × (IsSound lent.0 → IsSound r.state))
