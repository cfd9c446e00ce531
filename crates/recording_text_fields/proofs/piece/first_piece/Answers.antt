-- `recording_text_fields::piece::first_piece` meets its contract: there is a separator, or none.
-- Assumes nothing.
use Rattle.recording_text_fields.specs.Pieces.{separator}
use Rattle.recording_text_fields.proofs.Splits.{cut_end, cut_behind}
use Rattle.recording_text_fields.proofs.piece.first_piece.Goals as goal

pub split_at-requires : goal.split_at-requires
split_at-requires c = (c.piece_end.ensures.within c.requires).within

pub returns-in-empty : goal.returns-in-empty
returns-in-empty c = let a = c.args in
    cut_end (separator a.inner) a.s.now (c.piece_end.ensures.within c.requires) c.split_at.ensures.front c.split_at.ensures.back c.in-empty.len_below

pub returns-in-len1-up : goal.returns-in-len1-up
returns-in-len1-up c = let a = c.args in
    cut_behind (separator a.inner) a.s.now (c.piece_end.ensures.within c.requires) c.split_at.ensures.front c.split_at.ensures.back c.in-len1-up.len_at_least
