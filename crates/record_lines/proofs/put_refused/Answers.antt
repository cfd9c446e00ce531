-- `record_lines::put_refused` meets its contract: its pieces stand one after the other, and all fit.
-- Assumes nothing.
use Rattle.text_line.proofs.Pieces.{piece, whole}
use Rattle.record_lines.proofs.Lengths.{refused_fits}
use Rattle.record_lines.proofs.put_refused.Goals as goal

pub returns : goal.returns
returns c =
    let a = c.args in
    whole _ c.empty.ensures (refused_fits a.line a.refusal a.place)
    (piece _ _ _ c.text.ensures.shows
    (piece _ _ _ c.number.ensures.shows
    (piece _ _ _ c.text-2.ensures.shows
    (piece _ _ _ (rw c.from.ensures at c.number-2.ensures.shows) (piece _ _ _ c.text-3.ensures.shows (piece _ _ _ c.number-whole.ensures.shows c.put.ensures))))))
