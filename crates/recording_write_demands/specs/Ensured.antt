-- What the writer of recordings ensures, and what it is that numbers say a recording.
-- Assumes nothing.
use Rattle.std.specs.Prelude.{◌≡◌, List, ℕ, ◌≤◌, length}
use Rattle.protocol.specs.History.{reads}
use Rattle.protocol_deadlines.specs.Timed.{untimed}
use Rattle.recording_format.specs.declared.WhichKind.{WhichKind}
use Rattle.recording_format.specs.RecordingKind.{any_kind}
use Rattle.recording_format.specs.Words.{Words, tasks_said, links_said, events_said}
use Rattle.demands.specs.Recordings.{Genuine}
use Rattle.recording_write.specs.Answers.{reply_to, buffer_to, written_of}
use Rattle.recording_write.specs.declared.Written.{Written}

-- the three clauses of `recording_write::write`, told a kind, for the numbers tw that say tasks, lw that say links and ew that say events, and a buffer that held
-- `old`: it answers a and leaves `new`
pub record Writes (told : ℕ) (tw lw ew old : List ℕ) (a : Written) (new : List ℕ) : Type 0 where
  pub answer : a ≡ written_of (reply_to told tw lw ew (length old))
  pub buffer : new ≡ buffer_to told tw lw ew old
  pub numbers : Words tw × (Words lw × Words ew)

-- s is the recording of these, of a kind: nothing comes after the whole tasks, links and events that the numbers say, and for every lent list with room for the
-- numbers read, the bytes are theirs, they keep every limit and rule, and the events could happen
pub record RecordingOf (which : WhichKind) (tw lw ew s : List ℕ) : Type 0 where
  pub tasks_whole : (tasks_said (any_kind which) tw).ending ≡ 0
  pub links_whole : (links_said lw).ending ≡ 0
  pub events_whole : (events_said (any_kind which) ew).ending ≡ 0
  pub genuine : (out : List ℕ) → reads (untimed (events_said (any_kind which) ew).whole) ≤ length out →
      Genuine which s out (tasks_said (any_kind which) tw).whole (links_said lw).whole (events_said (any_kind which) ew).whole
