-- `recording_text_line::record::Record::first` meets its contract: behind its numbers stand zeros.
-- Assumes nothing.
use mathlib.Core.Path.{sym}
use Rattle.recording_text_line.proofs.Letters.{first_number}
use Rattle.recording_text_line.proofs.record.Record.first.Goals as goal

pub returns : goal.returns
returns c = let r = c.args.self.now in sym (first_number r.size r.numbers r.padded)
