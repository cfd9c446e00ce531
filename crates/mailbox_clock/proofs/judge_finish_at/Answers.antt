-- `mailbox_clock::judge_finish_at` meets its contract: what the judge ensures, then the ticks.
-- Assumes nothing.
use Rattle.protocol.specs.Event.{finish}
use Rattle.mailbox_layout.specs.Layout.{ahead_among, view_of}
use Rattle.mailbox_clock.proofs.Judged.{dated_on}
use Rattle.mailbox_clock.proofs.judge_finish_at.Goals as goal

pub returns : goal.returns
returns c = let j = c in
    let a = j.args in
    let ticked = rw c.in_time.ensures at c.try_tick.ensures in record {
      answer = rw j.judge_job-judged.ensures at ticked;
      dated = λ dated L w v. dated_on (ahead_among a.times.now) (view_of a.tasks L a.control.now v a.times.now) a.tick (finish a.t w) dated j.judge_job-judged.ensures ticked;
    }
