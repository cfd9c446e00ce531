-- What the code's answers say.
-- Assumes nothing.
use Rattle.std.specs.Prelude.{◌≡◌, Option, Some, None, Result, Ok, Err, ℕ, take}
use Rattle.recording_text_fields.specs.declared.fault.Fault.{Fault}
use Rattle.recording_text_fields.specs.Faults.{number}
use Rattle.recording_text_line.specs.declared.record.Record.{Record}
use Rattle.recording_text_line.specs.Line.{Says, nothing, faulty, saying, sort}
use Rattle.recording_text_line.specs.declared.sort.Sort.{Sort}
use Rattle.recording_text_line.specs.Sorts.{sort_number}

-- a record, with so many of its four numbers
abbrev pub record_said : Record → Says
record_said r = saying r.letter (take r.size r.numbers)

-- a record, or that there is none that can be read
abbrev pub said_of_record : Result Record Fault → Says
said_of_record (Ok r) = record_said r
said_of_record (Err f) = faulty (number f)

-- what a line says
abbrev pub said_of : Result (Option Record) Fault → Says
said_of (Ok None) = nothing
said_of (Ok (Some r)) = record_said r
said_of (Err f) = faulty (number f)

-- a letter that is known, and its sort, or none
abbrev pub IsLetter : Option (ℕ × Sort) → ℕ → Type 0
IsLetter None b = sort b ≡ 0
IsLetter (Some p) b = (p.0 ≡ b) × (sort b ≡ sort_number p.1)
