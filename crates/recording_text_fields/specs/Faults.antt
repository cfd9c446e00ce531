-- The numbers of the reasons why a line cannot be read.
-- Assumes nothing.
use Rattle.std.specs.Prelude.{Result, Ok, Err, ℕ}
use Rattle.recording_text_fields.specs.declared.fault.Fault.{Fault}
use Rattle.recording_text_fields.specs.declared.fault.Fault.TheVariants as why

abbrev pub number : Fault → ℕ
number why.UnknownWord = 1
number why.NoNumber = 2
number why.NumberTooLarge = 3
number why.TooFewNumbers = 4
number why.TooManyNumbers = 5
number why.KindNotFirst = 6

-- an answer of the code, with the number of the reason
abbrev pub told : {A : Type 0} → Result A Fault → Result A ℕ
told (Ok a) = Ok a
told (Err f) = Err (number f)
