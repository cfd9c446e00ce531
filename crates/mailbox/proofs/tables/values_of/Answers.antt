-- `mailbox::tables::values_of` meets its contract: after t turns the first t defaults are put, and then the cells are filled.
-- Assumes nothing.
use Rattle.protocol.specs.Instant.{upward}
use Rattle.protocol_state.specs.Records.{first_tasks}
use Rattle.mailbox_layout.proofs.Tables.{no_tasks, values_filled}
use Rattle.mailbox.proofs.Filling.{tasks_more, tasks_end_lem}
use Rattle.mailbox.proofs.tables.values_of.Goals as goal

pub loop-t-init : goal.loop-t-init
unfolding upward
loop-t-init c X = no_tasks

pub loop-t-preserved : goal.loop-t-preserved
loop-t-preserved c X = let turn = c in
    let a = turn.args in
    tasks_more a.defaults.now X _ (turn.loop-t.invariant X) c.put_entry.ensures

pub returns : goal.returns
returns c X = let l = c in
    let a = l.args in
    rw (← l.few-t-end.ensures)
    (values_filled (first_tasks l.few-t-end.result a.defaults.now X) _ (tasks_end_lem a.defaults.now X _ _ (l.loop-t.invariant X) l.loop-t.auto.t-end l.loop-t-test.false) c.fill_cells.ensures)
