-- `recording_text_fields::piece::Fields::next` meets its contract: what is left begins with the first field, or there is none.
-- Assumes nothing.
use borrow.Author.Rules.{rules}
use Rattle.std.proofs.Common.{◌≡◌, true, ◌<◌, sym, ◌∙◌, ◌∷◌, length, arith}
use borrow.Author.Tests.{eqb-true, eqb-false}
use Rattle.recording_text_fields.specs.Pieces.{filled, fields, separator}
use Rattle.recording_text_fields.specs.Left.{fields_left}
use Rattle.recording_text_fields.proofs.Splits.{fields_first, pieces_none}
use Rattle.recording_text_fields.proofs.piece.FieldsIterator.next.Goals as goal

pub returns-then-is_empty-clause-steps : goal.returns-then-is_empty-clause-steps
unfolding filled
returns-then-is_empty-clause-steps c =
    let l = c.from_first_field-line in
    let n = pieces_none (separator true) l.result.now (eqb-true _ 0 (sym c.is_empty.ensures ∙ c.if-is_empty.true)) in
    let e = sym l.ensures.same ∙ rw n in
    (e, e)

pub returns-else-is_empty-clause-steps : goal.returns-else-is_empty-clause-steps
returns-else-is_empty-clause-steps c =
    let l = c.from_first_field-line in
    let z = eqb-false _ 0 (sym c.is_empty.ensures ∙ c.if-is_empty.false) in
    let h : 0 < length l.result.now = omega (arith, z) in
    sym l.ensures.same ∙ fields_first l.result.now c.piece_end.result h (l.ensures.begins h) (c.piece_end.ensures.within h) c.split_at.ensures.front c.split_at.ensures.back

pub returns-else-is_empty-clause-goes : goal.returns-else-is_empty-clause-goes
returns-else-is_empty-clause-goes c =
    let h : fields_left c.args.self.now ≡ c.split_at.result.0.now ∷ fields c.split_at.result.1.now = returns-else-is_empty-clause-steps c in
    search rules
