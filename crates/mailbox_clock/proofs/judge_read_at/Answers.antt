-- `mailbox_clock::judge_read_at` meets its contract: what the judge ensures, then the ticks.
-- Assumes nothing.
use Rattle.protocol.specs.Event.{read}
use Rattle.mailbox_layout.specs.Layout.{ahead_among, view_of}
use Rattle.mailbox_clock.proofs.Judged.{dated_on}
use Rattle.mailbox_clock.proofs.judge_read_at.Goals as goal

pub returns : goal.returns
returns c = let j = c in
    let a = j.args in record {
      answer = rw j.judge_job_read.ensures at c.try_tick.ensures;
      dated = λ dated v. dated_on (ahead_among a.times.now) (view_of a.tasks a.links a.control.now v a.times.now) a.tick (read a.l) dated j.judge_job_read.ensures c.try_tick.ensures;
    }
