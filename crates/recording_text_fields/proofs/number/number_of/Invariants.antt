-- `recording_text_fields::number::number_of` meets its contract. The loop's invariant: the bytes before the index are digits, and n is their number, cut at one more than
-- the largest.
-- Assumes nothing.
use Rattle.recording_text_fields.proofs.Numerals.{Begun}
use Rattle.recording_text_fields.proofs.number.number_of.Given as goal

abbrev pub invariant-loop-digit : goal.invariant-loop-digit
invariant-loop-digit l = Begun l.field l.digit-index l.n
