-- `recording_text_fields::piece::Pieces::next` meets its contract: no byte, no piece.
-- Assumes nothing.
use Rattle.std.proofs.Common.{sym, ◌∙◌}
use borrow.Author.Tests.{eqb-true}
use Rattle.recording_text_fields.specs.Pieces.{separator}
use Rattle.recording_text_fields.proofs.Splits.{pieces_none}
use Rattle.recording_text_fields.proofs.piece.PiecesIterator.next.Goals as goal

pub returns-then-is_empty-clause-steps : goal.returns-then-is_empty-clause-steps
returns-then-is_empty-clause-steps c =
    let s = c.args.self.now in
    let n = pieces_none (separator s.inner) s.left.now (eqb-true _ 0 (sym c.is_empty.ensures ∙ c.if-is_empty.true)) in (n, n)
