-- `recording_text_place::line_after` meets its contract. The loop's invariant: the line is the one that the lines that are left give; with them it is small.
-- Assumes nothing.
use Rattle.std.proofs.Common.{◌≡◌, ◌+◌, ◌≤◌, ◌^◌, length}
use Rattle.recording_text_line.specs.Line.{text_says}
use Rattle.recording_text_line.specs.Sorts.{sort_number}
use Rattle.recording_text_line.specs.Left.{said_left}
use Rattle.recording_text_place.specs.Place.{line_after}
use Rattle.recording_text_place.proofs.line_after.Given as goal

abbrev pub invariant-loop-said : goal.invariant-loop-said
invariant-loop-said l =
    (l.line + length (said_left l.said-iterator) ≤ 2 ^ 63)
    × (line_after l.measure (sort_number l.wanted) l.before 1 (text_says l.text) ≡ line_after l.measure (sort_number l.wanted) l.much l.line (said_left l.said-iterator))
