-- What the replay ensures.
-- Assumes nothing.
use Rattle.std.specs.Prelude.{◌≡◌, List, ℕ}
use Rattle.protocol_state.specs.Saved.{state_room}
use Rattle.byte_format.specs.Number.{Bytes}
use Rattle.mailbox.specs.States.{IsWhole}
use Rattle.recording_format.specs.RecordingKind.{kind_in}
use Rattle.recording_format.specs.Recording.{recording}
use Rattle.recording_core.specs.Playing.{core_of}
use Rattle.recording.specs.Answers.{replied}
use Rattle.recording.specs.declared.Answer.{Answer}

-- the three clauses of `recording::replay`, for the bytes s, whose first one says the kind, and the lent list out: it answers a and leaves list
pub record Replays (s out : List ℕ) (a : Answer) (list : List ℕ) : Type 0 where
  pub answer : replied a list ≡ recording (kind_in s) (core_of state_room (kind_in s).policy out) s
  pub whole : IsWhole a.state
  pub bytes : Bytes s
