-- `recording_text_fields::number::numbers_of` meets its contract: a field that is no number, or the numbers of all.
-- Assumes nothing.
use Rattle.std.proofs.Common.{true, arith}
use Rattle.std.proofs.lemmas.Result.{err_from_is_err_and}
use Rattle.recording_text_fields.specs.Pieces.{separator}
use Rattle.recording_text_fields.specs.Left.{fields_left}
use Rattle.recording_text_fields.proofs.Splits.{fields_few}
use Rattle.recording_text_fields.proofs.Numerals.{gathering_none, gathering_room, gathering_on, gathering_stop, gathering_end}
use Rattle.recording_text_fields.proofs.number.numbers_of.Goals as goal

pub loop-field-init : goal.loop-field-init
loop-field-init c = rw c.into_iter-field-iterator.ensures.into_iter_gives (gathering_none (fields_left c.args.fields) c.none-numbers.ensures)

pub push-requires : goal.push-requires
push-requires c = let f = c.args.fields in
    omega (arith, gathering_room c.loop-field.invariant c.in-Some.ensures.steps, fields_few (separator true) f.left.now, f.few)

pub loop-field-preserved : goal.loop-field-preserved
loop-field-preserved c = gathering_on c.loop-field.invariant c.in-Some.ensures.steps c.in_ok-number_of.ensures c.push.ensures

pub returns-in_err-number_of : goal.returns-in_err-number_of
returns-in_err-number_of c = let p = err_from_is_err_and c.from_residual.result c.from_residual.ensures.1 in
    rw (p.1, p.2) (gathering_stop c.loop-field.invariant c.in-Some.ensures.steps c.in_err-number_of.ensures)

pub returns : goal.returns
returns c = gathering_end c.loop-field.invariant c.in-None.ensures.steps.0
