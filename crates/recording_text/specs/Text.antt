-- What a text says.
-- Assumes nothing.
use Rattle.std.specs.Prelude.{Option, Some, None, Result, Ok, Err, Bool, false, cond, ◌&&◌, ◌||◌, List, [], ◌∷◌, ◌++◌, ℕ, suc, ◌+◌, ◌*◌, ◌≤◌, eqb, ltb, length, take, drop, get_or}
use Rattle.recording_format.specs.RecordingKind.{wide_recording}
use Rattle.recording_text_fields.specs.Faults.{number}
use Rattle.recording_text_line.specs.declared.record.Record.{Record}
use Rattle.recording_text.specs.declared.Read.{Read}
use Rattle.recording_text.specs.declared.Unread.{Unread}
use Rattle.recording_text.specs.declared.Kept.{Kept}
use Rattle.recording_text_line.specs.Line.{Says, sort, widest, text_says}

-- whether a record of a sort may stand where the kind is known, or not yet: the kind, 4, comes first and once; a line with no record, 0, may stand anywhere
abbrev pub in_place : Bool → ℕ → Bool
in_place known k = cond known (ltb k 4) (eqb k 0 || eqb k 4)

-- the fault of what a line says there, 0 for none: its own, or 6 where it may not stand there
unfoldable pub fault_in : Bool → Says → ℕ
fault_in known s = cond (eqb s.fault 0) (cond (in_place known (sort s.letter)) 0 6) s.fault

-- whether the kind is known after it
abbrev pub known_after : Bool → Says → Bool
known_after known s = known || eqb (sort s.letter) 4

-- what the lines before the first that cannot be read say
unfoldable pub readable : Bool → List Says → List Says
readable known [] = []
readable known (s ∷ ss) = cond (eqb (fault_in known s) 0) (s ∷ readable (known_after known s) ss) []

-- why the first line that cannot be read cannot be read; at the end it is 6 where the kind is not known, else 0
unfoldable pub text_fault : Bool → List Says → ℕ
text_fault known [] = cond known 0 6
text_fault known (s ∷ ss) = cond (eqb (fault_in known s) 0) (text_fault (known_after known s) ss) (fault_in known s)

-- the records of one sort
unfoldable pub records_of : ℕ → List Says → List (List ℕ)
records_of k [] = []
records_of k (s ∷ ss) = cond (eqb (sort s.letter) k) (s.numbers ∷ records_of k ss) (records_of k ss)

-- records one after the other
unfoldable pub joined : List (List ℕ) → List ℕ
joined [] = []
joined (r ∷ rs) = r ++ joined rs

-- the first so many records of one sort, one after the other: what is stored
unfoldable pub stored : ℕ → ℕ → List Says → List ℕ
stored k most ss = joined (take most (records_of k ss))

-- numbers at the start of a list; the rest is as it was
unfoldable pub over : List ℕ → List ℕ → List ℕ
over ns old = ns ++ drop (length ns) old

-- what the lines of a text say before the first that cannot be read: the kind is not known at its beginning
abbrev pub readable_of : List ℕ → List Says
readable_of text = readable false (text_says text)

-- the first so many records of one sort in them
abbrev pub stored_of : ℕ → ℕ → List ℕ → List ℕ
stored_of k most text = stored k most (readable_of text)

-- the number of the kind; 0 where it is not said
abbrev pub kind_said : List ℕ → ℕ
kind_said text = get_or (stored_of 4 1 text) 0 0

-- so many tasks are stored: one more than any kind may have, so that the writer sees too many
abbrev pub tasks_kept : ℕ
tasks_kept = wide_recording.tasks + 1

-- so many links
abbrev pub links_kept : ℕ
links_kept = wide_recording.links + 1

-- and so many events
abbrev pub events_kept : ℕ
events_kept = wide_recording.events + 1

-- what is stored of tasks: default, and in a dated text relative deadline
abbrev pub tasks_of : List ℕ → List ℕ
tasks_of text = stored_of 1 tasks_kept text

-- of links: writer, reader, kind and start value
abbrev pub links_of : List ℕ → List ℕ
links_of text = stored_of 2 links_kept text

-- of events: kind, in a dated text tick, and numbers
abbrev pub events_of : List ℕ → List ℕ
events_of text = stored_of 3 events_kept text

-- why a text cannot be read, 0 where it can
abbrev pub fault_of : List ℕ → ℕ
fault_of text = text_fault false (text_says text)

-- the line at fault, from 1; 0 where there is none
abbrev pub fault_line : List ℕ → ℕ
fault_line text = cond (eqb (fault_of text) 0) 0 (suc (length (readable_of text)))

-- an answer: the fault and its line, the number of the kind, and how many numbers are stored
pub record Answer : Type 0 where
  pub fault : ℕ
  pub line : ℕ
  pub kind : ℕ
  pub tasks : ℕ
  pub links : ℕ
  pub events : ℕ

abbrev pub answer_of : ℕ → ℕ → ℕ → ℕ → ℕ → ℕ → Answer
answer_of fault line kind tasks links events = record { fault = fault; line = line; kind = kind; tasks = tasks; links = links; events = events }

-- the answer to a text
unfoldable pub read_of : List ℕ → Answer
read_of text = answer_of (fault_of text) (fault_line text) (kind_said text) (length (tasks_of text)) (length (links_of text)) (length (events_of text))

-- the answer of the code
abbrev pub answer_at : ℕ → ℕ → Read → Answer
answer_at fault line r = answer_of fault line r.kind r.tasks r.links r.events

abbrev pub told : Result Read Unread → Answer
told (Ok r) = answer_at 0 0 r
told (Err u) = answer_at (number u.fault) u.line u.read

-- nothing is stored
abbrev pub none_kept : Kept
none_kept = record { records = 0; numbers = 0 }

-- whether a record is of a sort, of which fewer are stored than may be
abbrev pub takes : Record → ℕ → ℕ → Kept → Bool
takes r k most kept = eqb (sort r.letter) k && ltb kept.records most

-- there is room for it
pub record RoomFor (k most room : ℕ) (kept : Kept) : Type 0 where
  pub stored : kept.numbers ≤ widest k * kept.records
  pub whole : widest k * most ≤ room
  pub small : most ≤ events_kept

-- one record more is stored
abbrev pub and_record : Record → Kept → Kept
and_record r kept = record { records = kept.records + 1; numbers = kept.numbers + r.size }

-- its numbers in a list from a place on, in the place of those that stood there
abbrev pub put_at : List ℕ → ℕ → Record → List ℕ
put_at old at r = take at old ++ (take r.size r.numbers ++ drop (at + r.size) old)

-- the kind as it is known after a record
abbrev pub kind_after : Option ℕ → Record → Option ℕ
kind_after kind r = cond (eqb (sort r.letter) 4) (Some (get_or (take r.size r.numbers) 0 0)) kind

-- its number, 0 where it is not known
abbrev pub kind_number : Option ℕ → ℕ
kind_number None = 0
kind_number (Some n) = n
