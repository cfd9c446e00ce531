-- `mailbox_clock::keep_each` meets its contract: after t turns those of the first t tasks that are in the set have its tick.
-- Assumes nothing.
use Rattle.mailbox_clock.proofs.Ticks.{KeptTo}
use Rattle.mailbox_clock.proofs.keep_each.Given as goal

abbrev pub invariant-loop-t : goal.invariant-loop-t
invariant-loop-t l = KeptTo l.set l.tick l.initial.times l.t l.times
