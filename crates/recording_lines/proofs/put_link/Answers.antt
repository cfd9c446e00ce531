-- `recording_lines::put_link` meets its contract: its pieces stand one after the other, and all fit.
-- Assumes nothing.
use Rattle.text_line.proofs.Pieces.{piece, whole}
use Rattle.recording_lines.proofs.Lengths.{link_fits}
use Rattle.recording_lines.proofs.put_link.Goals as goal

pub returns : goal.returns
returns c =
    let a = c.args in
    whole _ c.empty.ensures (link_fits a.link a.position a.m)
    (piece _ _ _ c.text.ensures.shows
    (piece _ _ _ c.number.ensures.shows
    (piece _ _ _ c.text-named.ensures.shows
    (piece _ _ _ c.with_pointer.ensures
    (piece _ _ _ c.with_mark.ensures c.put.ensures)))))
