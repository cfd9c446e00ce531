-- `recording_lines::put_counts` meets its contract: its pieces stand one after the other, and all fit.
-- Assumes nothing.
use Rattle.text_line.proofs.Pieces.{piece, whole}
use Rattle.recording_lines.proofs.Lengths.{counts_fit}
use Rattle.recording_lines.proofs.put_counts.Goals as goal

pub returns : goal.returns
returns c =
    let a = c.args in
    whole _ c.empty.ensures (counts_fit a.arrivals a.starts a.reads a.finishes)
    (piece _ _ _ c.text.ensures.shows
    (piece _ _ _ c.number.ensures.shows
    (piece _ _ _ c.number-2.ensures.shows
    (piece _ _ _ c.number-3.ensures.shows
    (piece _ _ _ c.number-4.ensures.shows c.put.ensures)))))
