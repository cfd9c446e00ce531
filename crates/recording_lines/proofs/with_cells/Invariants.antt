-- Of `recording_lines::with_cells` the loop's invariant: the cells that were gone over are there.
-- Assumes nothing.
use Rattle.std.proofs.Common.{◌≡◌, take}
use Rattle.text_line.specs.Shown.{shown, joined}
use Rattle.recording_lines.specs.Lines.{numbers}
use Rattle.recording_lines.proofs.with_cells.Given as goal

abbrev pub invariant-loop-x : goal.invariant-loop-x
invariant-loop-x l = shown l.made ≡ joined (shown l.initial.made) (numbers (take l.x-index l.x-items))
