-- `record_lines::put_fault` meets its contract: its pieces stand one after the other, and all fit.
-- Assumes nothing.
use Rattle.text_line.proofs.Pieces.{piece, whole}
use Rattle.record_lines.proofs.Lengths.{fault_fits}
use Rattle.record_lines.proofs.put_fault.Goals as goal

pub returns : goal.returns
returns c =
    let a = c.args in
    whole _ c.empty.ensures (fault_fits a.line a.fault)
    (piece _ _ _ c.text.ensures.shows (piece _ _ _ c.number-named.ensures.shows (piece _ _ _ c.with_reason-whole.ensures c.put.ensures)))
