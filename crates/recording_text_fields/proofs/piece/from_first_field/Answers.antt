-- `recording_text_fields::piece::from_first_field` meets its contract: so many bytes in front separate, and are passed over.
-- Assumes nothing.
use Rattle.std.proofs.Common.{◌∙◌, true, rules, tests}
use Rattle.std.proofs.lemmas.Iterator.{YieldsList-from_slice}
use Rattle.std.proofs.lemmas.Iterator.Consumers.{count_from_yields_List}
use Rattle.std.proofs.lemmas.Iterator.Search.{YieldsList-from_take_while}
use Rattle.std.proofs.lemmas.List.Folds.{length-prefix_len}
use Rattle.recording_text_fields.specs.Pieces.{separator}
use Rattle.recording_text_fields.proofs.Splits.{filled_past}
use Rattle.recording_text_fields.proofs.piece.from_first_field.Goals as goal

pub returns-clause-same : goal.returns-clause-same
unfolding Rattle.recording_text_fields.specs.Pieces.filled
returns-clause-same c =
    let p = separator true in
    let s = c.args.line.now in
    let n = count_from_yields_List c.take_while.result _ c.count-blanks.ensures.ran (YieldsList-from_take_while _ p (YieldsList-from_slice s cc) c.take_while.ensures.closure c.take_while.ensures.done (λ x b q k. search (rules, tests))) ∙ length-prefix_len p s in
    rw (c.split_at.ensures.back, n) (filled_past p s)
