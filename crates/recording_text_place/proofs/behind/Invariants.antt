-- `recording_text_place::behind` meets its contract. The loop's invariant: what is left is what the lines that are left leave.
-- Assumes nothing.
use Rattle.std.proofs.Common.{◌≡◌, ◌-◌}
use Rattle.recording_text_line.specs.Line.{text_says}
use Rattle.recording_text_line.specs.Sorts.{sort_number}
use Rattle.recording_text_line.specs.Left.{said_left}
use Rattle.recording_text_place.specs.Place.{all_bytes}
use Rattle.recording_text_place.proofs.behind.Given as goal

abbrev pub invariant-loop-said : goal.invariant-loop-said
invariant-loop-said l = l.bytes - all_bytes l.which (sort_number l.wanted) (text_says l.text) ≡ l.much - all_bytes l.which (sort_number l.wanted) (said_left l.said-iterator)
