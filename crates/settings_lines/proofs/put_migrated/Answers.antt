-- `settings_lines::put_migrated` meets its contract: its pieces stand one after the other, and all fit.
-- Assumes nothing.
use Rattle.text_line.proofs.Pieces.{piece, whole}
use Rattle.settings_lines.proofs.Lengths.{migrated_fits}
use Rattle.settings_lines.proofs.put_migrated.Goals as goal

pub returns : goal.returns
returns c = whole _ c.empty.ensures (migrated_fits c.args.number)
    (piece _ _ _ c.text.ensures.shows (piece _ _ _ c.number-line.ensures.shows c.put.ensures))
