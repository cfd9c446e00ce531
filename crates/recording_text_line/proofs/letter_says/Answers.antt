-- `recording_text_line::letter_says` meets its contract: a fault among the numbers, or the record.
-- Assumes nothing.
use Rattle.std.proofs.lemmas.Result.{err_from_is_err_and}
use Rattle.recording_text_fields.specs.Left.{fields_left}
use Rattle.recording_text_line.specs.Line.{ticks}
use Rattle.recording_text_line.proofs.Letters.{no_numbers, some_numbers}
use Rattle.recording_text_line.proofs.letter_says.Goals as goal

pub returns-in_err-numbers : goal.returns-in_err-numbers
returns-in_err-numbers c = let a = c.args in let p = err_from_is_err_and c.from_residual.result c.from_residual.ensures.1 in
    rw (p.1, p.2) (no_numbers a.dated (ticks a.tick) a.letter (fields_left a.fields) c.in_err-numbers.ensures)

pub returns : goal.returns
returns c = let a = c.args in some_numbers a.dated (ticks a.tick) a.letter (fields_left a.fields) c.in_ok-numbers.ensures c.record_of.ensures
