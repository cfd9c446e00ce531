-- The sentences of request 2026-01, and of 2026-06 "the writer is told which to write", with the third kind of 2026-07, a field for each, over what the contracts of `recording_write::write` and `recording::replay` ensure: `Writes` and `Replays`.
-- A reader of the three demands goes on here; proofs/Writer.antt has `writer`.
-- Assumes nothing.
use Rattle.std.specs.Prelude.{◌≡◌, ◌≢◌, ◌↔◌, List, [], ◌∷◌, ◌++◌, ℕ, ◌^◌, ◌≤◌, ◌<◌, length, take, drop}
use contract.Lifetimes.{Lfts}
use denote.Triple.Clauses.{AtExit}
use borrow.Fn.Kinds.{Dens, res_t, ended_of}
use Rattle.protocol.specs.Event.{Event, arrival}
use Rattle.protocol.specs.History.{reads, past}
use Rattle.protocol_deadlines.specs.Timed.{Timed, timed, untimed}
use Rattle.protocol_state.specs.Records.{Task}
use Rattle.byte_format.specs.Handed.{handed, tally}
use Rattle.recording_format.specs.declared.WhichKind.{WhichKind}
use Rattle.recording_format.specs.RecordingKind.{base_recording, wide_recording, dated_recording, any_kind}
use Rattle.recording_format.specs.Link.{Link}
use Rattle.recording_format.specs.Words.{tasks_said, links_said, events_said, task_words, link_words, event_words}
use Rattle.recording_format.specs.Writing.{bytes_as_written, InBytes}
use Rattle.recording.specs.declared.Answer.{Answer}
use Rattle.recording_demands.specs.Ensured.{Replays}
use Rattle.recording_write.specs.declared.Written.{Written}
use Rattle.recording_write.proofs.write.Kinds as of_write
use Rattle.recording_write.proofs.write.Reads as on_write
use Rattle.demands.specs.Station.{station}
use Rattle.demands.specs.Refusals.{Earns, EventBreaks, by_history}
use Rattle.demands.specs.Recordings.{recording_bytes, Genuine}
use Rattle.recording_write_demands.specs.Ensured.{Writes, RecordingOf}

pub record Writer : Type 0 where
  -- the contract in the source asks nothing, and tells this and no more
  pub asks : (κs : Lfts 4) (lent : Dens κs of_write.ps) → on_write.Asked κs lent
  pub tells : (κs : Lfts 4) (lent : Dens κs of_write.ps) (a : (res_t of_write.r κs).Denot) (left : AtExit (ended_of 4 of_write.ps of_write.r) κs) →
      on_write.Learnt κs lent a left ↔
      Writes lent.0 lent.1.0.now lent.1.1.0.now lent.1.1.1.0.now lent.1.1.1.1.0.now a left.1.1.1.1.0.now
  -- "the writer is told which to write": by the first byte of the kind; a number that is that of no kind is 2 at 0
  pub unknown_kind : {told : ℕ} {tw lw ew old new : List ℕ} {a : Written} → Writes told tw lw ew old a new → told ≢ base_recording.first → told ≢ wide_recording.first →
      told ≢ dated_recording.first → (a.refusal ≡ 2) × (a.place ≡ 0)
  -- "Stations should write too: from a table, links and events to bytes in a lent buffer.": accepted exactly when what is handed over is a recording and there
  -- is room for it, which then stands at the start of the buffer
  pub written : (which : WhichKind) {tw lw ew old new : List ℕ} {a : Written} → Writes (any_kind which).first tw lw ew old a new →
      (a.refusal ≡ 0) ↔ ((s : List ℕ) × (RecordingOf which tw lw ew s × (length s ≤ length old)))
  pub bytes : (which : WhichKind) {tw lw ew old new s : List ℕ} {a : Written} → Writes (any_kind which).first tw lw ew old a new → RecordingOf which tw lw ew s → length s ≤ length old →
      (a.place ≡ length s) × (new ≡ s ++ drop (length s) old)
  -- "It refuses with the same numbers as the reader .. Places are where the reader would find that fault": the reader of the bytes as written, where each number
  -- fits its bytes, and there is room for the numbers
  pub as_the_reader : (which : WhichKind) {tw lw ew old new out list : List ℕ} {a : Written} {b : Answer} → Writes (any_kind which).first tw lw ew old a new →
      InBytes (any_kind which) (tasks_said (any_kind which) tw) (links_said lw) (events_said (any_kind which) ew) →
      reads (untimed (events_said (any_kind which) ew).whole) ≤ length out → Replays (bytes_as_written (any_kind which) tw lw ew) out b list → b.refusal ≢ 0 → (a.refusal ≡ b.refusal) × (a.place ≡ b.place)
  -- no number is cut to its field: after a table and events that could happen an event is refused with what it earns as it is handed over, at the place where
  -- its record would begin; `out` is any list with room for the reads
  pub as_handed : (which : WhichKind) (es : List (Timed ℕ)) (x : ℕ) (e : Event ℕ) (rest : List (Timed ℕ)) {tw lw ew old new out : List ℕ} {a : Written} {ds : List Task} {ls : List Link} {r : ℕ} →
      Writes (any_kind which).first tw lw ew old a new → tasks_said (any_kind which) tw ≡ handed ds 0 → links_said lw ≡ handed ls 0 →
      (events_said (any_kind which) ew).whole ≡ es ++ (timed x e ∷ rest) →
      tally (events_said (any_kind which) ew) ≤ (any_kind which).events → Genuine which (recording_bytes which ds ls es) out ds ls es → reads (untimed (events_said (any_kind which) ew).whole) ≤ length out →
      Earns (EventBreaks (station ds ls) (by_history (station ds ls) (past [] es)) x e) r → r ≢ 0 → (a.refusal ≡ r) × (a.place ≡ length (recording_bytes which ds ls es))
  -- so an arrival with a task above those that the kind can have, in 253 a bit above 15, is 12, whatever its tick
  pub set_beyond : (which : WhichKind) (es : List (Timed ℕ)) (x m : ℕ) (rest : List (Timed ℕ)) {tw lw ew old new out : List ℕ} {a : Written} {ds : List Task} {ls : List Link} →
      Writes (any_kind which).first tw lw ew old a new → tasks_said (any_kind which) tw ≡ handed ds 0 → links_said lw ≡ handed ls 0 →
      (events_said (any_kind which) ew).whole ≡ es ++ (timed x (arrival m) ∷ rest) →
      tally (events_said (any_kind which) ew) ≤ (any_kind which).events → Genuine which (recording_bytes which ds ls es) out ds ls es → reads (untimed (events_said (any_kind which) ew).whole) ≤ length out →
      2 ^ (any_kind which).tasks ≤ m → (a.refusal ≡ 12) × (a.place ≡ length (recording_bytes which ds ls es))
  -- "and with 18 when the buffer is too short for the whole"; "18 is tried last, with the whole length as place"
  pub short : (which : WhichKind) {tw lw ew old new : List ℕ} {a : Written} → Writes (any_kind which).first tw lw ew old a new →
      (a.refusal ≡ 18) ↔ ((s : List ℕ) × (RecordingOf which tw lw ew s × ((length old < length s) × (a.place ≡ length s))))
  -- "What it writes the reader accepts, given room for the numbers, as the same table, links and events,"
  pub read_back : (which : WhichKind) {tw lw ew old new out list : List ℕ} {a : Written} {b : Answer} → Writes (any_kind which).first tw lw ew old a new → a.refusal ≡ 0 →
      reads (untimed (events_said (any_kind which) ew).whole) ≤ length out → Replays (take a.place new) out b list →
      (b.refusal ≡ 0) × (b.place ≡ a.place) × Genuine which (take a.place new) out (tasks_said (any_kind which) tw).whole (links_said lw).whole (events_said (any_kind which) ew).whole
  -- "and any accepted recording written again gives the same bytes."
  pub again : {s out list : List ℕ} {b : Answer} → Replays s out b list → b.refusal ≡ 0 →
      (which : WhichKind) × (ds : List Task) × (ls : List Link) × (es : List (Timed ℕ)) × Genuine which s out ds ls es ×
      ((old new : List ℕ) (a : Written) → Writes (any_kind which).first (task_words (any_kind which) ds) (link_words ls) (event_words (any_kind which) es) old a new → length s ≤ length old →
      (a.refusal ≡ 0) × (a.place ≡ length s) × (take (length s) new ≡ s))
  -- document 01: "A call that writes into a lent byte buffer leaves it untouched when it refuses, and never touches bytes past what it wrote."
  pub untouched : {told : ℕ} {tw lw ew old new : List ℕ} {a : Written} → Writes told tw lw ew old a new → a.refusal ≢ 0 → new ≡ old
  pub rest : {told : ℕ} {tw lw ew old new : List ℕ} {a : Written} → Writes told tw lw ew old a new → a.refusal ≡ 0 → drop a.place new ≡ drop a.place old
  -- "two answers allowed for one input are equal"
  pub one_answer : {told : ℕ} {tw lw ew old new new' : List ℕ} {a a' : Written} → Writes told tw lw ew old a new → Writes told tw lw ew old a' new' → (a ≡ a') × (new ≡ new')
