-- What the lines say that are left of a text.
-- Assumes nothing.
use Rattle.std.specs.Prelude.{List}
use Rattle.recording_text_fields.specs.Left.{pieces_left}
use Rattle.recording_text_line.specs.declared.said.Said.{Said}
use Rattle.recording_text_line.specs.Line.{Says, all_say}

abbrev pub said_left : Said → List Says
said_left s = all_say s.dated (pieces_left s.lines)
