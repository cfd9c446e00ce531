-- What is made of a text.
-- Assumes nothing.
use Rattle.std.specs.Prelude.{Result, Ok, Err, cond, List, ℕ, ◌<◌, eqb}
use Rattle.protocol_state.specs.Saved.{Saved}
use Rattle.byte_format.specs.Play.{Verdict}
use Rattle.recording_format.specs.RecordingKind.{which_kind}
use Rattle.recording_write.specs.Answers.{reply_to, buffer_to}
use Rattle.recording_text.specs.Text.{read_of, kind_said, tasks_of, links_of, events_of}
use Rattle.recording_text_place.specs.Place.{line_of}
use Rattle.recording_text_fields.specs.Faults.{number}
use Rattle.recording_make.specs.declared.Unmade.{Unmade}
use Rattle.recording_make.specs.declared.Unmade.TheVariants.{Unreadable, Refused}

-- what making came to: why the text cannot be read, 0 where it can; the line at fault, 0 where there is none; the writer's refusal, 0 for none, and its place
-- in the recording; for no fault and no refusal, how many bytes were written
pub record Made : Type 0 where
  pub fault : ℕ
  pub line : ℕ
  pub refusal : ℕ
  pub place : ℕ

-- a text that cannot be read: the fault and its line
abbrev pub unread : ℕ → ℕ → Made
unread fault line = record { fault = fault; line = line; refusal = 0; place = 0 }

-- the line of a refusal of the writer that was told a kind, 0 for none
unfoldable pub line_told : ℕ → List ℕ → ℕ → ℕ → ℕ
line_told told text refusal place = cond (eqb refusal 0) 0 (line_of (which_kind told) text refusal place)

-- a text that can be read, whose numbers got this reply from the writer that was told a kind
abbrev pub make_reply : ℕ → List ℕ → Verdict Saved → Made
make_reply told text x = record { fault = 0; line = line_told told text x.refusal x.place; refusal = x.refusal; place = x.place }

-- the reply of the writer to the kind and the numbers of a text, with room for so many bytes
abbrev pub writing_of : List ℕ → ℕ → Verdict Saved
writing_of text room = reply_to (kind_said text) (tasks_of text) (links_of text) (events_of text) room

-- what is made of a text, with room for so many bytes: a fault of the text comes before a refusal
unfoldable pub made_of : List ℕ → ℕ → Made
made_of text room = cond (eqb (read_of text).fault 0) (make_reply (kind_said text) text (writing_of text room)) (unread (read_of text).fault (read_of text).line)

-- the buffer as the writer leaves it
abbrev pub written_in : List ℕ → List ℕ → List ℕ
written_in text old = buffer_to (kind_said text) (tasks_of text) (links_of text) (events_of text) old

-- the buffer after making: untouched where the text cannot be read
unfoldable pub buffer_of : List ℕ → List ℕ → List ℕ
buffer_of text old = cond (eqb (read_of text).fault 0) (written_in text old) old

-- the answer of the code
abbrev pub told : Result ℕ Unmade → Made
told (Ok n) = record { fault = 0; line = 0; refusal = 0; place = n }
told (Err (Unreadable f l)) = unread (number f) l
told (Err (Refused r p l)) = record { fault = 0; line = l; refusal = r; place = p }

-- a refusal that it tells of is one
abbrev pub Refuses : Result ℕ Unmade → Type 0
Refuses (Ok n) = Unit {0}
Refuses (Err (Unreadable f l)) = Unit {0}
Refuses (Err (Refused r p l)) = 0 < r
