-- The sentences of request 2026-06, a field for each, that no field of the demands says already: those of the limits, and of what recordings of any kind share.
-- proofs/TwoKinds.antt has `two_kinds`. The kinds themselves are in recording_format/specs/RecordingKind, the room of a state is `state_room`.
-- Assumes nothing.
use Rattle.std.specs.Prelude.{◌≡◌, List, ◌∷◌, ℕ, ◌<◌, length, get_or}
use Rattle.protocol_deadlines.specs.Timed.{Timed}
use Rattle.protocol_state.specs.Saved.{state_room}
use Rattle.protocol_state.specs.Records.{Task}
use Rattle.byte_format.specs.Play.{verdict}
use Rattle.recording_format.specs.RecordingKind.{base_recording, wide_recording, any_kind}
use Rattle.recording_format.specs.declared.WhichKind.{WhichKind}
use Rattle.recording_format.specs.declared.WhichKind.TheVariants.{Base, Wide}
use Rattle.recording_format.specs.Link.{Link}
use Rattle.recording_format.specs.Recording.{Core, recording, task_place}
use Rattle.recording_format.specs.Outcome.{Begins}
use Rattle.recording_core.specs.Playing.{core_of}
use Rattle.recording.specs.Answers.{replied}
use Rattle.recording.specs.declared.Answer.{Answer}
use Rattle.recording_demands.specs.Ensured.{Replays}
use Rattle.demands.specs.Recordings.{recording_bytes, Genuine, TasksBegun, four_counts, Listed}

-- the answers a and a' and the lists that they left say the same of the events: numbers read, state and counts
pub record SaysTheSame (out list : List ℕ) (a : Answer) (out' list' : List ℕ) (a' : Answer) : Type 0 where
  pub ns : List ℕ
  pub listed : Listed ns out list × Listed ns out' list'
  pub state : a.state ≡ a'.state
  pub counted : four_counts a ≡ four_counts a'

pub record TwoKinds : Type 1 where
  -- "T goes to 32", "with the old limits": more tasks than the kind allows are 2 at T, whatever room the state has
  pub many_tasks : {s out list : List ℕ} {a : Answer} → Replays s out a list → (which : WhichKind) → Begins (any_kind which) s →
      (any_kind which).tasks < get_or s task_place 0 → (a.refusal ≡ 2) × (a.place ≡ task_place)
  -- "L to 96": more links than the kind allows are 3 at L
  pub many_links : {which : WhichKind} {s out list : List ℕ} {ds : List Task} {a : Answer} {p : ℕ} → Replays s out a list → TasksBegun which s (length ds) ds p →
      (any_kind which).links < get_or s p 0 → (a.refusal ≡ 3) × (a.place ≡ p)
  -- "a reader from before refuses them with 2": a reader of the old kind alone, over whatever core
  pub reader_before : {S : Type 0} (core : Core S) (s : List ℕ) → recording base_recording core (wide_recording.first ∷ s) ≡ verdict 2 0 core.single
  -- "The new reader still takes 253, with the old limits and arrival sets": to bytes that begin so it answers as such a reader does, with today's room
  pub still_taken : {s out list : List ℕ} {a : Answer} → Replays s out a list → Begins base_recording s → replied a list ≡ recording base_recording (core_of state_room 0 out) s
  -- what a recording of 253 holds one of 254 can hold
  pub widened : {s out : List ℕ} {ds : List Task} {ls : List Link} {es : List (Timed ℕ)} → Genuine Base s out ds ls es →
      Genuine Wide (recording_bytes Wide ds ls es) out ds ls es
  -- and recordings of the same tasks, links and events say the same, whatever their kinds: those of 255 have deadlines, which no other has
  pub same_answer : {which which' : WhichKind} {s s' out out' list list' : List ℕ} {a a' : Answer} {ds : List Task} {ls : List Link} {es : List (Timed ℕ)} →
      Genuine which s out ds ls es → Genuine which' s' out' ds ls es → Replays s out a list → Replays s' out' a' list' → SaysTheSame out list a out' list' a'
