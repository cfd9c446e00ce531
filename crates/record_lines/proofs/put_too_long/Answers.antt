-- `record_lines::put_too_long` meets its contract: it is its one piece, which fits.
-- Assumes nothing.
use Rattle.text_line.proofs.Pieces.{piece, whole}
use Rattle.record_lines.proofs.Lengths.{too_long_fits}
use Rattle.record_lines.proofs.put_too_long.Goals as goal

pub returns : goal.returns
returns c = whole _ c.empty.ensures too_long_fits (piece _ _ _ c.text-whole.ensures.shows c.put.ensures)
