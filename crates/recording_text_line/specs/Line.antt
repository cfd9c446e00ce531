-- What a line says, in a dated text or another, and what lines say one after the other.
-- Assumes nothing.
use Rattle.std.specs.Prelude.{Option, Some, None, Result, Ok, Err, ◌≡◌, Bool, false, true, cond, not, ◌&&◌, ◌||◌, List, [], ◌∷◌, ◌++◌, ℕ, ◌-◌, ◌≤◌, eqb, ltb, length, drop, get_or, replicate}
use Rattle.recording_format.specs.RecordingKind.{dated_recording}
use Rattle.recording_text_fields.specs.Pieces.{lines, fields}
use Rattle.recording_text_fields.specs.Numeral.{is_digit, value, number_fault, first_fault, field_values, set_of, handed_set}

-- what a line says: why it cannot be read, 0 where it can; its letter, 0 for none; and the numbers for the writer
pub record Says : Type 0 where
  pub fault : ℕ
  pub letter : ℕ
  pub numbers : List ℕ

-- nothing
abbrev pub nothing : Says
nothing = record { fault = 0; letter = 0; numbers = [] }

-- that it cannot be read
abbrev pub faulty : ℕ → Says
faulty fault = record { fault = fault; letter = 0; numbers = [] }

-- a record
abbrev pub saying : ℕ → List ℕ → Says
saying letter numbers = record { fault = 0; letter = letter; numbers = numbers }

-- the letters of events: A, S, R, F
abbrev pub is_event : ℕ → Bool
is_event b = eqb b 65 || (eqb b 83 || (eqb b 82 || eqb b 70))

-- the sort of a record by its letter: T a task, 1; L a link, 2; an event, 3; K the kind, 4; 0 for any other byte
unfoldable pub sort : ℕ → ℕ
sort b = cond (eqb b 84) 1 (cond (eqb b 76) 2 (cond (is_event b) 3 (cond (eqb b 75) 4 0)))

-- how many numbers are to follow: L 4, F 2, T 1 and in a dated text 2, S, R and K 1
abbrev pub fields_wanted : Bool → ℕ → ℕ
fields_wanted dated b = cond (eqb b 76) 4 (cond (eqb b 70) 2 (cond (eqb b 84 && dated) 2 1))

-- what the writer takes in front of them: the kind of event, S 2, R 3, F 4, and its tick, where it has one
abbrev pub front : List ℕ → ℕ → List ℕ
front tick b = cond (eqb b 83) (2 ∷ tick) (cond (eqb b 82) (3 ∷ tick) (cond (eqb b 70) (4 ∷ tick) []))

-- so many numbers, or too few, 4, or too many, 5
abbrev pub exactly : ℕ → List ℕ → Result (List ℕ) ℕ
exactly n ns = cond (ltb (length ns) n) (Err 4) (cond (ltb n (length ns)) (Err 5) (Ok ns))

-- too few numbers, 4, too many, 5, or the record of them, behind others
abbrev pub counted : ℕ → List ℕ → ℕ → List ℕ → Says
counted b before n ns = cond (ltb (length ns) n) (faulty 4) (cond (ltb n (length ns)) (faulty 5) (saying b (before ++ ns)))

-- the record of a letter, where as many numbers follow as are wanted
abbrev pub counted_out : Bool → List ℕ → ℕ → List ℕ → Says
counted_out dated tick b ns = counted b (front tick b) (fields_wanted dated b) ns

-- a letter and the numbers behind it: an arrival of any set, or as many numbers as are wanted
unfoldable pub record_of : Bool → List ℕ → ℕ → List ℕ → Says
record_of dated tick b ns = cond (eqb b 65) (saying b (1 ∷ tick ++ (handed_set (set_of ns) ∷ []))) (counted_out dated tick b ns)

-- a letter and fields behind it: a field that is no number, from the left, comes before a wrong number of them
unfoldable pub lettered : Bool → List ℕ → ℕ → List (List ℕ) → Says
lettered dated tick b fs = cond (eqb (first_fault fs) 0) (record_of dated tick b (field_values fs)) (faulty (first_fault fs))

-- a field of one byte is that letter, any other is none, 0
abbrev pub letter_of : List ℕ → ℕ
letter_of f = cond (eqb (length f) 1) (get_or f 0 0) 0

-- whether a line may begin with the letter of a record of a sort: in a dated text an event begins with its tick
abbrev pub begins : Bool → ℕ → Bool
begins dated k = not (eqb k 0 || (dated && eqb k 3))

-- a first field that is a letter, else 1, and those behind it
unfoldable pub letter_says : Bool → List ℕ → List (List ℕ) → Says
letter_says dated f fs = cond (begins dated (sort (letter_of f))) (lettered dated [] (letter_of f) fs) (faulty 1)

-- the fields behind a tick: the first one is the letter of an event, else 1, also where there is none
unfoldable pub event_says : ℕ → List (List ℕ) → Says
event_says x [] = faulty 1
event_says x (f ∷ fs) = cond (eqb (sort (letter_of f)) 3) (lettered true (x ∷ []) (letter_of f) fs) (faulty 1)

-- a first field that is a tick, and those behind it: it is judged before them
unfoldable pub tick_says : List ℕ → List (List ℕ) → Says
tick_says f fs = cond (eqb (number_fault f) 0) (event_says (value f) fs) (faulty (number_fault f))

-- a first field and those behind it: in a dated text one that begins with a digit is a tick
abbrev pub first_says : Bool → List ℕ → List (List ℕ) → Says
first_says dated f fs = cond (dated && is_digit (get_or f 0 0)) (tick_says f fs) (letter_says dated f fs)

-- the fields of a line: none, or a first one that begins with `#`, say nothing
unfoldable pub fields_say : Bool → List (List ℕ) → Says
fields_say dated [] = nothing
fields_say dated (f ∷ fs) = cond (eqb (get_or f 0 0) 35) nothing (first_says dated f fs)

-- what a line says
abbrev pub says : Bool → List ℕ → Says
says dated line = fields_say dated (fields line)

-- whether a number is that of the dated kind
abbrev pub is_dated : ℕ → Bool
is_dated n = eqb n dated_recording.first

-- whether the lines behind a line are those of a dated text: where it says the kind, that does
abbrev pub dated_after : Bool → Says → Bool
dated_after dated s = cond (eqb (sort s.letter) 4) (is_dated (get_or s.numbers 0 0)) dated

-- what lines say, one after the other
unfoldable pub all_say : Bool → List (List ℕ) → List Says
all_say dated [] = []
all_say dated (l ∷ ls) = says dated l ∷ all_say (dated_after dated (says dated l)) ls

-- what the lines of a text say: none is that of a dated text before the kind is said
abbrev pub text_says : List ℕ → List Says
text_says text = all_say false (lines text)

-- the most numbers that a record of a sort has, in any text: a link and an event 4, a task 2, the kind 1
abbrev pub widest : ℕ → ℕ
widest k = cond (eqb k 2) 4 (cond (eqb k 3) 4 (cond (eqb k 1) 2 1))

-- of four numbers so many are there, no more than a record of the letter's sort has, and zeros stand for the others
pub record Padded (letter size : ℕ) (numbers : List ℕ) : Type 0 where
  pub few : size ≤ widest (sort letter)
  pub rest : drop size numbers ≡ replicate (4 - size) 0

-- a tick as it is handed to the writer, where there is one
abbrev pub ticks : Option ℕ → List ℕ
ticks None = []
ticks (Some x) = x ∷ []
