-- `recording_make::make_written` meets its contract: the answer of the writer, with its line.
-- Assumes nothing.
use Rattle.std.proofs.Common.{arith}
use Rattle.std.proofs.Common.{length}
use Rattle.recording_write.specs.Answers.{reply_to}
use Rattle.recording_make.proofs.Makes.{accepted_lem, refused_lem}
use Rattle.recording_make.proofs.make_written.Goals as goal

pub returns-in-0-clause-answer : goal.returns-in-0-clause-answer
returns-in-0-clause-answer c = let a = c.args in
    accepted_lem a.kind a.text.now (reply_to a.kind a.tasks.now a.links.now a.events.now (length a.out.now)) c.write-written.ensures.answer c.in-0.is

pub returns-in_default-clause-answer : goal.returns-in_default-clause-answer
returns-in_default-clause-answer c = let a = c.args in
    refused_lem a.kind a.text.now (reply_to a.kind a.tasks.now a.links.now a.events.now (length a.out.now)) c.write-written.ensures.answer (λ e. omega arith) (rw c.which_kind.ensures at c.line_of.ensures)
