-- `mailbox_clock::judge_arrival_at` meets its contract: what the judge ensures, then the ticks.
-- Assumes nothing.
use Rattle.protocol.specs.Event.{arrival}
use Rattle.mailbox_layout.specs.Layout.{ahead_among, view_of}
use Rattle.mailbox_clock.proofs.Judged.{dated_on}
use Rattle.mailbox_clock.proofs.judge_arrival_at.Goals as goal

pub returns : goal.returns
returns c = let j = c in
    let a = j.args in record {
      answer = rw j.judge_arrival.ensures at c.try_tick.ensures;
      dated = λ dated L v. dated_on (ahead_among a.times.now) (view_of a.tasks L a.control.now v a.times.now) a.tick (arrival a.set) dated j.judge_arrival.ensures c.try_tick.ensures;
    }
