-- Two answers that a contract allows for one input are equal: a sentence for each public call, over what its contract in the source tells.
-- Assumes nothing.
use Rattle.std.specs.Prelude.{◌≡◌, Bool, List, ℕ, Result, Err}
use contract.Lifetimes.{Lfts}
use Rattle.std.specs.Borrow.{Bor}
use denote.Triple.Clauses.{AtExit}
use borrow.Fn.Kinds.{ParamKind, ResultKind, Dens, res_t, ended_of, Out}
use Rattle.protocol_state.specs.Saved.{Saved}
use Rattle.mailbox.specs.declared.State.{State}
use Rattle.mailbox.specs.declared.Step.{Step}
use Rattle.mailbox.specs.declared.Made.{Made}
use Rattle.recording.specs.declared.Answer.{Answer}
use Rattle.refusals.specs.declared.Refusal.{Refusal}
use Rattle.refusals.specs.declared.Refused.{Refused}
use Rattle.mailbox_event.specs.declared.Kind.{Kind}
use Rattle.recording_event.specs.declared.Record.{Record}
use Rattle.recording_table.specs.declared.Table.{Table}
use Rattle.recording_write.specs.declared.Written as writer
use Rattle.settings_list.specs.declared.Migration.{Migration}
use Rattle.settings.specs.declared.Written as settings
use Rattle.recording_text.specs.declared.Read.{Read}
use Rattle.recording_text.specs.declared.Unread.{Unread}
use Rattle.recording_make.specs.declared.Unmade.{Unmade}
use Rattle.recording_walk.specs.declared.Walker.{Walker}
use Rattle.host_demands.specs.Hosts.{state_with, state_in}
use Rattle.mailbox.proofs.State.fresh.Kinds as of_fresh
use Rattle.mailbox.proofs.State.fresh.Reads as on_fresh
use Rattle.mailbox.proofs.State.fresh_dated.Kinds as of_fresh_dated
use Rattle.mailbox.proofs.State.fresh_dated.Reads as on_fresh_dated
use Rattle.mailbox.proofs.State.arrival.Kinds as of_arrival
use Rattle.mailbox.proofs.State.arrival.Reads as on_arrival
use Rattle.mailbox.proofs.State.arrival_at.Kinds as of_arrival_at_tick
use Rattle.mailbox.proofs.State.arrival_at.Reads as on_arrival_at_tick
use Rattle.mailbox.proofs.State.start.Kinds as of_start
use Rattle.mailbox.proofs.State.start.Reads as on_start
use Rattle.mailbox.proofs.State.start_at.Kinds as of_start_at_tick
use Rattle.mailbox.proofs.State.start_at.Reads as on_start_at_tick
use Rattle.mailbox.proofs.State.read.Kinds as of_read
use Rattle.mailbox.proofs.State.read.Reads as on_read
use Rattle.mailbox.proofs.State.read_at.Kinds as of_read_at_tick
use Rattle.mailbox.proofs.State.read_at.Reads as on_read_at_tick
use Rattle.mailbox.proofs.State.finish.Kinds as of_finish
use Rattle.mailbox.proofs.State.finish.Reads as on_finish
use Rattle.mailbox.proofs.State.finish_at.Kinds as of_finish_at_tick
use Rattle.mailbox.proofs.State.finish_at.Reads as on_finish_at_tick
use Rattle.mailbox.proofs.State.event.Kinds as of_event
use Rattle.mailbox.proofs.State.event.Reads as on_event
use Rattle.mailbox.proofs.State.event_at.Kinds as of_event_at_tick
use Rattle.mailbox.proofs.State.event_at.Reads as on_event_at_tick
use Rattle.mailbox.proofs.State.sound.Kinds as of_sound
use Rattle.mailbox.proofs.State.sound.Reads as on_sound
use Rattle.mailbox.proofs.State.single.Kinds as of_single
use Rattle.mailbox.proofs.State.single.Reads as on_single
use Rattle.mailbox.proofs.State.defaults.Kinds as of_state_defaults
use Rattle.mailbox.proofs.State.defaults.Reads as on_state_defaults
use Rattle.mailbox.proofs.State.phase.Kinds as of_state_phase
use Rattle.mailbox.proofs.State.phase.Reads as on_state_phase
use Rattle.mailbox.proofs.State.newest.Kinds as of_state_newest
use Rattle.mailbox.proofs.State.newest.Reads as on_state_newest
use Rattle.mailbox.proofs.State.previous.Kinds as of_state_previous
use Rattle.mailbox.proofs.State.previous.Reads as on_state_previous
use Rattle.mailbox.proofs.State.seen.Kinds as of_state_seen
use Rattle.mailbox.proofs.State.seen.Reads as on_state_seen
use Rattle.mailbox.proofs.State.cells.Kinds as of_state_cells
use Rattle.mailbox.proofs.State.cells.Reads as on_state_cells
use Rattle.mailbox.proofs.State.writer.Kinds as of_state_writer
use Rattle.mailbox.proofs.State.writer.Reads as on_state_writer
use Rattle.mailbox.proofs.State.reader.Kinds as of_state_reader
use Rattle.mailbox.proofs.State.reader.Reads as on_state_reader
use Rattle.mailbox.proofs.State.kind.Kinds as of_state_kind
use Rattle.mailbox.proofs.State.kind.Reads as on_state_kind
use Rattle.mailbox.proofs.State.start_value.Kinds as of_state_start_value
use Rattle.mailbox.proofs.State.start_value.Reads as on_state_start_value
use Rattle.mailbox.proofs.State.pointer.Kinds as of_state_pointer
use Rattle.mailbox.proofs.State.pointer.Reads as on_state_pointer
use Rattle.mailbox.proofs.State.mark.Kinds as of_state_mark
use Rattle.mailbox.proofs.State.mark.Reads as on_state_mark
use Rattle.mailbox.proofs.State.deadline.Kinds as of_state_deadline
use Rattle.mailbox.proofs.State.deadline.Reads as on_state_deadline
use Rattle.mailbox.proofs.State.since.Kinds as of_state_since
use Rattle.mailbox.proofs.State.since.Reads as on_state_since
use Rattle.mailbox.proofs.State.last.Kinds as of_state_last
use Rattle.mailbox.proofs.State.last.Reads as on_state_last
use Rattle.mailbox.proofs.State.policy.Kinds as of_state_policy
use Rattle.mailbox.proofs.State.policy.Reads as on_state_policy
use Rattle.mailbox.proofs.State.itself.Kinds as of_itself
use Rattle.mailbox.proofs.State.itself.Reads as on_itself
use Rattle.recording.proofs.replay.Kinds as of_replay
use Rattle.recording.proofs.replay.Reads as on_replay
use Rattle.recording.proofs.rest.Kinds as of_rest
use Rattle.recording.proofs.rest.Reads as on_rest
use Rattle.recording_event.proofs.read_event.Kinds as of_read_event
use Rattle.recording_event.proofs.read_event.Reads as on_read_event
use Rattle.recording_event.proofs.read_tickless.Kinds as of_read_tickless
use Rattle.recording_event.proofs.read_tickless.Reads as on_read_tickless
use Rattle.recording_event.proofs.event_in.Kinds as of_event_in
use Rattle.recording_event.proofs.event_in.Reads as on_event_in
use Rattle.recording_event.proofs.head_size.Kinds as of_head_size
use Rattle.recording_event.proofs.head_size.Reads as on_head_size
use Rattle.recording_event.proofs.kind_of.Kinds as of_kind_of
use Rattle.recording_event.proofs.kind_of.Reads as on_kind_of
use Rattle.mailbox_event.proofs.KindTryFromU8.try_from.Kinds as of_kind_from_byte
use Rattle.mailbox_event.proofs.KindTryFromU8.try_from.Reads as on_kind_from_byte
use Rattle.refusals.proofs.U8FromRefusal.from.Kinds as of_number_of
use Rattle.refusals.proofs.U8FromRefusal.from.Reads as on_number_of
use Rattle.recording_table.proofs.read_table.Kinds as of_read_table
use Rattle.recording_table.proofs.read_table.Reads as on_read_table
use Rattle.recording_walk.proofs.event_at.Kinds as of_event_at
use Rattle.recording_walk.proofs.event_at.Reads as on_event_at
use Rattle.recording_write.proofs.write.Kinds as of_write
use Rattle.recording_write.proofs.write.Reads as on_write
use Rattle.recording_write.proofs.WrittenFromResultUsizeRefused.from.Kinds as of_written_from
use Rattle.recording_write.proofs.WrittenFromResultUsizeRefused.from.Reads as on_written_from
use Rattle.settings.proofs.migrate.Kinds as of_migrate
use Rattle.settings.proofs.migrate.Reads as on_migrate
use Rattle.settings.proofs.write_back.Kinds as of_write_back
use Rattle.settings.proofs.write_back.Reads as on_write_back
use Rattle.recording_text.proofs.read_text.Kinds as of_read_text
use Rattle.recording_text.proofs.read_text.Reads as on_read_text
use Rattle.recording_text.proofs.line_of.Kinds as of_line_of
use Rattle.recording_text.proofs.line_of.Reads as on_line_of
use Rattle.recording_make.proofs.make_recording.Kinds as of_make_recording
use Rattle.recording_make.proofs.make_recording.Reads as on_make_recording
use Rattle.recording_make.proofs.UnmadeFromUnread.from.Kinds as of_unmade_from
use Rattle.recording_make.proofs.UnmadeFromUnread.from.Reads as on_unmade_from
use Rattle.exports.proofs.fresh.parnusild_fresh_32_96_66.Kinds as of_host_fresh
use Rattle.exports.proofs.fresh.parnusild_fresh_32_96_66.Reads as on_host_fresh
use Rattle.exports.proofs.fresh.parnusild_fresh_dated_32_96_66.Kinds as of_host_fresh_dated
use Rattle.exports.proofs.fresh.parnusild_fresh_dated_32_96_66.Reads as on_host_fresh_dated
use Rattle.exports.proofs.event.parnusild_event_32_96_66.Kinds as of_host_event
use Rattle.exports.proofs.event.parnusild_event_32_96_66.Reads as on_host_event
use Rattle.exports.proofs.event.parnusild_event_at_32_96_66.Kinds as of_host_event_at
use Rattle.exports.proofs.event.parnusild_event_at_32_96_66.Reads as on_host_event_at
use Rattle.exports.proofs.replay.parnusild_replay_32_96_66.Kinds as of_host_replay
use Rattle.exports.proofs.replay.parnusild_replay_32_96_66.Reads as on_host_replay
use Rattle.exports.proofs.write.parnusild_write_32_96_66.Kinds as of_host_write
use Rattle.exports.proofs.write.parnusild_write_32_96_66.Reads as on_host_write
use Rattle.exports.proofs.rest.parnusild_rest_32_96_66.Kinds as of_host_rest
use Rattle.exports.proofs.rest.parnusild_rest_32_96_66.Reads as on_host_rest
use Rattle.exports.proofs.sizes.parnusild_sizes.Kinds as of_host_sizes
use Rattle.exports.proofs.sizes.parnusild_sizes.Reads as on_host_sizes
use Rattle.recording_event.specs.Next.{got_of}
use Rattle.one_answer.specs.Walker.{WalksFrom, WalksTo, WalksLeft}

-- whatever the contract `Learnt` allows for the same arguments, the caller sees the same: of the result, and of what the references then hold that were lent
-- to be changed
abbrev pub One : (n : ℕ) (ps : List (ParamKind n)) (r : ResultKind n) → Out n ps r → (Seen : Type 0) → ((κs : Lfts n) → (res_t r κs).Denot → AtExit (ended_of n ps r) κs → Seen) → Type 0
One n ps r Learnt Seen sees = (κs : Lfts n) (lent : Dens κs ps) (a b : (res_t r κs).Denot) (left left' : AtExit (ended_of n ps r) κs) →
    Learnt κs lent a left → Learnt κs lent b left' → sees κs a left ≡ sees κs b left'

pub record OneAnswer : Type 0 where
  -- `mailbox`: `State::fresh`, `fresh_dated`, `arrival`, `start`, `read`, `finish`, `event`, each of these at a tick, `sound`, `single`, `itself`, and the accessors of a state's fields
  pub fresh : One 0 of_fresh.ps of_fresh.r on_fresh.Learnt Made (λ κs m left. m)
  pub fresh_dated : One 0 of_fresh_dated.ps of_fresh_dated.r on_fresh_dated.Learnt Made (λ κs m left. m)
  pub arrival : One 0 of_arrival.ps of_arrival.r on_arrival.Learnt Step (λ κs s left. s)
  pub arrival_at_tick : One 0 of_arrival_at_tick.ps of_arrival_at_tick.r on_arrival_at_tick.Learnt Step (λ κs s left. s)
  pub start : One 0 of_start.ps of_start.r on_start.Learnt Step (λ κs s left. s)
  pub start_at_tick : One 0 of_start_at_tick.ps of_start_at_tick.r on_start_at_tick.Learnt Step (λ κs s left. s)
  pub read : One 0 of_read.ps of_read.r on_read.Learnt Step (λ κs s left. s)
  pub read_at_tick : One 0 of_read_at_tick.ps of_read_at_tick.r on_read_at_tick.Learnt Step (λ κs s left. s)
  pub finish : One 0 of_finish.ps of_finish.r on_finish.Learnt Step (λ κs s left. s)
  pub finish_at_tick : One 0 of_finish_at_tick.ps of_finish_at_tick.r on_finish_at_tick.Learnt Step (λ κs s left. s)
  pub event : One 0 of_event.ps of_event.r on_event.Learnt Step (λ κs s left. s)
  pub event_at_tick : One 0 of_event_at_tick.ps of_event_at_tick.r on_event_at_tick.Learnt Step (λ κs s left. s)
  pub sound : One 0 of_sound.ps of_sound.r on_sound.Learnt Bool (λ κs b left. b)
  pub single : One 0 of_single.ps of_single.r on_single.Learnt State (λ κs q left. q)
  pub itself : One 0 of_itself.ps of_itself.r on_itself.Learnt State (λ κs q left. q)
  pub state_defaults : One 0 of_state_defaults.ps of_state_defaults.r on_state_defaults.Learnt ℕ (λ κs n left. n)
  pub state_phase : One 0 of_state_phase.ps of_state_phase.r on_state_phase.Learnt ℕ (λ κs n left. n)
  pub state_newest : One 0 of_state_newest.ps of_state_newest.r on_state_newest.Learnt ℕ (λ κs n left. n)
  pub state_previous : One 0 of_state_previous.ps of_state_previous.r on_state_previous.Learnt ℕ (λ κs n left. n)
  pub state_seen : One 0 of_state_seen.ps of_state_seen.r on_state_seen.Learnt ℕ (λ κs n left. n)
  pub state_cells : One 0 of_state_cells.ps of_state_cells.r on_state_cells.Learnt ℕ (λ κs n left. n)
  pub state_writer : One 0 of_state_writer.ps of_state_writer.r on_state_writer.Learnt ℕ (λ κs n left. n)
  pub state_reader : One 0 of_state_reader.ps of_state_reader.r on_state_reader.Learnt ℕ (λ κs n left. n)
  pub state_kind : One 0 of_state_kind.ps of_state_kind.r on_state_kind.Learnt ℕ (λ κs n left. n)
  pub state_start_value : One 0 of_state_start_value.ps of_state_start_value.r on_state_start_value.Learnt ℕ (λ κs n left. n)
  pub state_pointer : One 0 of_state_pointer.ps of_state_pointer.r on_state_pointer.Learnt ℕ (λ κs n left. n)
  pub state_mark : One 0 of_state_mark.ps of_state_mark.r on_state_mark.Learnt ℕ (λ κs n left. n)
  pub state_deadline : One 0 of_state_deadline.ps of_state_deadline.r on_state_deadline.Learnt ℕ (λ κs n left. n)
  pub state_since : One 0 of_state_since.ps of_state_since.r on_state_since.Learnt ℕ (λ κs n left. n)
  pub state_last : One 0 of_state_last.ps of_state_last.r on_state_last.Learnt ℕ (λ κs n left. n)
  pub state_policy : One 0 of_state_policy.ps of_state_policy.r on_state_policy.Learnt ℕ (λ κs n left. n)
  -- `recording`: the answer, and the lent list; a part of the recording by its bytes
  pub replay : One 2 of_replay.ps of_replay.r on_replay.Learnt (Answer × List ℕ) (λ κs a left. (a, left.1.0.now))
  pub rest : One 1 of_rest.ps of_rest.r on_rest.Learnt (List ℕ) (λ κs part left. part.now)
  -- `recording_event`
  pub read_event : One 1 of_read_event.ps of_read_event.r on_read_event.Learnt (Result Record Refusal) (λ κs n left. n)
  pub read_tickless : One 1 of_read_tickless.ps of_read_tickless.r on_read_tickless.Learnt (Result Record Refusal) (λ κs n left. n)
  pub event_in : One 1 of_event_in.ps of_event_in.r on_event_in.Learnt (Result Record Refusal) (λ κs n left. n)
  pub head_size : One 0 of_head_size.ps of_head_size.r on_head_size.Learnt ℕ (λ κs n left. n)
  pub kind_of : One 0 of_kind_of.ps of_kind_of.r on_kind_of.Learnt (Result Kind Refusal) (λ κs k left. k)
  -- the kind from a byte, in `mailbox_event`; why no event is taken, whatever refusal it is; and the number of that, in `refusals`
  pub kind_from_byte : One 0 of_kind_from_byte.ps of_kind_from_byte.r on_kind_from_byte.Learnt (Result Kind Refusal) (λ κs k left. k)
  pub refused : (why : Refusal) (n n' : Result Record Refusal) → got_of n ≡ got_of (Err why) → got_of n' ≡ got_of (Err why) → n ≡ n'
  pub number_of : One 0 of_number_of.ps of_number_of.r on_number_of.Learnt ℕ (λ κs n left. n)
  -- `recording_table`
  pub read_table : One 1 of_read_table.ps of_read_table.r on_read_table.Learnt (Result Table Refused) (λ κs t left. t)
  -- `recording_walk`; `moved` has the clause of `new`, and a walker is equal with its reference
  pub new : (bytes : Bor (List ℕ)) (at : ℕ) (w w' : Walker) → WalksFrom bytes at w → WalksFrom bytes at w' → w ≡ w'
  pub next : (w : Walker) (n n' : Result Record Refusal) → WalksTo w n → WalksTo w n' → n ≡ n'
  pub walk_rest : (w : Walker) (part part' : Bor (List ℕ)) → WalksLeft w part → WalksLeft w part' → part.now ≡ part'.now
  pub event_at : One 1 of_event_at.ps of_event_at.r on_event_at.Learnt (Result Record Refusal) (λ κs n left. n)
  -- `recording_write`: the answer, and the lent buffer; and the answer from what writing came to
  pub write : One 4 of_write.ps of_write.r on_write.Learnt (writer.Written × List ℕ) (λ κs a left. (a, left.1.1.1.1.0.now))
  pub written_from : One 0 of_written_from.ps of_written_from.r on_written_from.Learnt writer.Written (λ κs a left. a)
  -- `settings`: the answer, and the lent buffer
  pub migrate : One 1 of_migrate.ps of_migrate.r on_migrate.Learnt Migration (λ κs m left. m)
  pub write_back : One 1 of_write_back.ps of_write_back.r on_write_back.Learnt (settings.Written × List ℕ) (λ κs a left. (a, left.1.1.0.now))
  -- `recording_text`: the answer, and the three lent lists
  pub read_text : One 4 of_read_text.ps of_read_text.r on_read_text.Learnt (Result Read Unread × (List ℕ × (List ℕ × List ℕ))) (λ κs a left. (a, (left.1.0.now, (left.1.1.0.now, left.1.1.1.0.now))))
  pub line_of : One 1 of_line_of.ps of_line_of.r on_line_of.Learnt ℕ (λ κs n left. n)
  -- `recording_make`: the answer, and the lent buffer; and why there is none, from why a text cannot be read
  pub make_recording : One 2 of_make_recording.ps of_make_recording.r on_make_recording.Learnt (Result ℕ Unmade × List ℕ) (λ κs a left. (a, left.1.0.now))
  pub unmade_from : One 0 of_unmade_from.ps of_unmade_from.r on_unmade_from.Learnt Unmade (λ κs u left. u)
  -- what hosts link: the refusal, and all that is lent to be changed; of a state, what its arrays hold
  pub host_fresh : One 10 of_host_fresh.ps of_host_fresh.r on_host_fresh.Learnt (ℕ × Saved) (λ κs r left. (r, state_in left.1.1.1.1.1.1.1))
  pub host_fresh_dated : One 11 of_host_fresh_dated.ps of_host_fresh_dated.r on_host_fresh_dated.Learnt (ℕ × Saved) (λ κs r left. (r, state_in left.1.1.1.1.1.1.1.1))
  pub host_event : One 4 of_host_event.ps of_host_event.r on_host_event.Learnt (ℕ × (ℕ × Saved)) (λ κs r left. (r, (left.1.1.1.0.now, state_with 0 0 left.1.1.1.1.1.1)))
  pub host_event_at : One 4 of_host_event_at.ps of_host_event_at.r on_host_event_at.Learnt (ℕ × (ℕ × Saved)) (λ κs r left. (r, (left.1.1.1.1.0.now, state_with 0 0 left.1.1.1.1.1.1.1)))
  pub host_replay : One 9 of_host_replay.ps of_host_replay.r on_host_replay.Learnt (ℕ × (ℕ × (List ℕ × (Saved × List ℕ)))) (λ κs r left. (r, (left.1.1.0.now, (left.1.1.1.0.now, (state_in left.1.1.1.1, left.1.0.now)))))
  pub host_write : One 5 of_host_write.ps of_host_write.r on_host_write.Learnt (ℕ × (ℕ × List ℕ)) (λ κs r left. (r, (left.1.1.1.1.1.0.now, left.1.1.1.1.0.now)))
  pub host_rest : One 1 of_host_rest.ps of_host_rest.r on_host_rest.Learnt ℕ (λ κs n left. n)
  pub host_sizes : One 1 of_host_sizes.ps of_host_sizes.r on_host_sizes.Learnt (List ℕ) (λ κs u left. left.0.now)
