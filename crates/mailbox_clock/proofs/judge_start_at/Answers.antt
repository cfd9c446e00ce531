-- `mailbox_clock::judge_start_at` meets its contract: what the judge ensures, then the ticks.
-- Assumes nothing.
use Rattle.protocol.specs.Event.{start}
use Rattle.mailbox_layout.specs.Layout.{ahead_among, view_of}
use Rattle.mailbox_clock.proofs.Judged.{dated_on}
use Rattle.mailbox_clock.proofs.judge_start_at.Goals as goal

pub returns : goal.returns
returns c = let j = c in
    let a = j.args in record {
      answer = rw j.judge_job.ensures at c.try_tick.ensures;
      dated = λ dated L v. dated_on (ahead_among a.times.now) (view_of a.tasks L a.control.now v a.times.now) a.tick (start a.t) dated j.judge_job.ensures c.try_tick.ensures;
    }
