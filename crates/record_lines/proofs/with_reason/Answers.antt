-- `record_lines::with_reason` meets its contract: each way out is the words of one reason.
-- Assumes nothing.
use borrow.Author.Rules.{rules}
use Rattle.record_lines.specs.Lines.{reason}
use Rattle.record_lines.proofs.with_reason.Goals as goal

pub returns-in-1 : goal.returns-in-1
unfolding reason
returns-in-1 c = rw c.in-1.is c.text.ensures.shows

pub returns-in-2 : goal.returns-in-2
unfolding reason
returns-in-2 c = rw c.in-2.is c.text-in-2.ensures.shows

pub returns-in-3 : goal.returns-in-3
unfolding reason
returns-in-3 c = rw c.in-3.is c.text-in-3.ensures.shows

pub returns-in-4 : goal.returns-in-4
unfolding reason
returns-in-4 c = rw c.in-4.is c.text-in-4.ensures.shows

pub returns-in-5 : goal.returns-in-5
unfolding reason
returns-in-5 c = rw c.in-5.is c.text-in-5.ensures.shows

pub returns-in-6 : goal.returns-in-6
unfolding reason
returns-in-6 c = rw c.in-6.is c.text-in-6.ensures.shows

pub returns-in_default : goal.returns-in_default
unfolding reason
returns-in_default c = search rules
