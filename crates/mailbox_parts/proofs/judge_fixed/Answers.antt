-- `mailbox_parts::judge_fixed` meets its contract: what the judge of its kind ensures.
-- Assumes nothing.
use Rattle.protocol.specs.Event.{arrival, start, read, finish}
use Rattle.mailbox_layout.specs.Layout.{ahead_among, view_of}
use Rattle.mailbox_clock.proofs.Judged.{fixed_on}
use Rattle.mailbox_parts.proofs.judge_fixed.Goals as goal

pub returns-in-Arrival : goal.returns-in-Arrival
returns-in-Arrival c tick v x fixed = let n = c in
    let a = n.args in
    rw c.in-Arrival.is (fixed_on (ahead_among x) (view_of a.tasks a.links a.control.now v x) tick (arrival _) fixed c.judge_arrival.ensures)

pub returns-in-Start : goal.returns-in-Start
returns-in-Start c tick v x fixed = let n = c in
    let a = n.args in
    rw c.in-Start.is (fixed_on (ahead_among x) (view_of a.tasks a.links a.control.now v x) tick (start _) fixed c.judge_task.ensures)

pub returns-in-Read : goal.returns-in-Read
returns-in-Read c tick v x fixed = let n = c in
    let a = n.args in
    rw c.in-Read.is (fixed_on (ahead_among x) (view_of a.tasks a.links a.control.now v x) tick (read _) fixed c.judge_read.ensures)

pub returns-in-Finish : goal.returns-in-Finish
returns-in-Finish c tick v x fixed = let n = c in
    let a = n.args in
    rw c.in-Finish.is (fixed_on (ahead_among x) (view_of a.tasks a.links a.control.now v x) tick (finish _ _) fixed c.judge_task-in-Finish.ensures)
