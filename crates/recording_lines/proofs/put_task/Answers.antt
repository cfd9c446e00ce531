-- `recording_lines::put_task` meets its contract: its pieces stand one after the other, and all fit.
-- Assumes nothing.
use Rattle.text_line.proofs.Pieces.{piece, whole}
use Rattle.recording_lines.proofs.Lengths.{task_fits}
use Rattle.recording_lines.proofs.put_task.Goals as goal

pub returns : goal.returns
returns c =
    let a = c.args in
    whole _ c.empty.ensures (task_fits a.task a.cells.now)
    (piece _ _ _ c.text.ensures.shows
    (piece _ _ _ c.number-named.ensures.shows
    (piece _ _ _ c.with_phase.ensures
    (piece _ _ _ c.text-2.ensures.shows
    (piece _ _ _ (rw c.from.ensures at c.number.ensures.shows)
    (piece _ _ _ c.text-3.ensures.shows
    (piece _ _ _ (rw c.from-2.ensures at c.number-placed.ensures.shows)
    (piece _ _ _ c.text-4.ensures.shows
    (piece _ _ _ c.with_cells-filled.ensures
    (piece _ _ _ c.with_had-had.ensures
    (piece _ _ _ c.with_since-line.ensures c.put.ensures)))))))))))
