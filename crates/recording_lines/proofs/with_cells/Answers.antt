-- `recording_lines::with_cells` meets its contract: each turn joins one cell more.
-- Assumes nothing.
use Rattle.std.proofs.Common.{rules, arith}
use Rattle.text_line.specs.Shown.{shown}
use Rattle.text_line.proofs.Pieces.{no_piece}
use Rattle.recording_lines.specs.Lines.{numbers}
use Rattle.recording_lines.proofs.Cells.{one_cell}
use Rattle.recording_lines.proofs.with_cells.Goals as goal

pub loop-x-init : goal.loop-x-init
unfolding numbers
loop-x-init c = no_piece c.args.line (search rules)

pub loop-x-preserved : goal.loop-x-preserved
loop-x-preserved c =
    let l = c.loop-x in
    one_cell (shown c.args.line) c.unwrap_or-x-items.result.now l.x-index (omega arith) l.invariant (rw c.from.ensures at c.number-made.ensures.shows)
