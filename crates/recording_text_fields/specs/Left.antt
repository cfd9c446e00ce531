-- What is left of the lines of a text, or of the fields of a line.
-- Assumes nothing.
use Rattle.std.specs.Prelude.{List, ℕ}
use Rattle.recording_text_fields.specs.declared.piece.Pieces.{Pieces}
use Rattle.recording_text_fields.specs.declared.piece.Fields.{Fields}
use Rattle.recording_text_fields.specs.Pieces.{pieces, separator, fields}

-- the pieces that are left
abbrev pub pieces_left : Pieces → List (List ℕ)
pieces_left s = pieces (separator s.inner) s.left.now

-- the fields that are left
abbrev pub fields_left : Fields → List (List ℕ)
fields_left s = fields s.left.now
