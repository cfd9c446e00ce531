-- `recording_text_fields::number::numbers_of` meets its contract. The loop's invariant: the numbers of the fields so far are gathered, and the others are left.
-- Assumes nothing.
use Rattle.recording_text_fields.specs.Left.{fields_left}
use Rattle.recording_text_fields.proofs.Numerals.{Gathering}
use Rattle.recording_text_fields.proofs.number.numbers_of.Given as goal

abbrev pub invariant-loop-field : goal.invariant-loop-field
invariant-loop-field l = Gathering (fields_left l.fields) (fields_left l.field-iterator) l.numbers
