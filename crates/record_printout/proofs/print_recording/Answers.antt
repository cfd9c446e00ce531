-- `record_printout::print_recording` meets its contract: the text is too long, or its recording was made, or not.
-- Assumes nothing.
use Rattle.record_printout.proofs.Printed.{too_long}
use Rattle.record_printout.proofs.print_recording.Goals as goal

pub returns-then-text-gt-TEXT : goal.returns-then-text-gt-TEXT
returns-then-text-gt-TEXT c = too_long c.args.text.now c.if-text-gt-TEXT.true
