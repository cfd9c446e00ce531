-- `mailbox::tables::times_of` meets its contract: after t turns the first t relative deadlines are put.
-- Assumes nothing.
use Rattle.protocol.specs.Instant.{upward}
use Rattle.mailbox.proofs.Filling.{deadlines_more, deadlines_end}
use Rattle.mailbox.proofs.tables.times_of.Goals as goal

pub loop-t-init : goal.loop-t-init
unfolding upward
loop-t-init c D = c.fresh_times-times.ensures

pub loop-t-preserved : goal.loop-t-preserved
loop-t-preserved c D = let turn = c in
    let a = turn.args in
    deadlines_more D a.deadlines.now 1 _ (turn.loop-t.invariant D) (rw c.from.ensures at c.put_entry.ensures)

pub returns : goal.returns
returns c D = let a = c.args in
    rw (← c.few-t-end.ensures) (deadlines_end D a.deadlines.now 1 _ _ (c.loop-t.invariant D) c.loop-t.auto.t-end c.loop-t-test.false)
