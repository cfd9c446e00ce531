-- `mailbox_clock::keep_tick` meets its contract: the arrival ticks stay, and the last tick is put.
-- Assumes nothing.
use Rattle.protocol.specs.Event.{start, read}
use Rattle.protocol_state.specs.Next.{since_after}
use Rattle.mailbox_clock.proofs.Ticks.{ticks_same, clock_goes}
use Rattle.mailbox_clock.proofs.keep_tick.Goals as goal

pub returns : goal.returns
unfolding since_after
returns c = let x = c.args.times.now in record {
  times = c.put_entry.ensures;
  start = λ dated T L t k v. clock_goes T L k v x _ (start t) dated x _ (ticks_same x) c.put_entry.ensures;
  read = λ dated T L l k v. clock_goes T L k v x _ (read l) dated x _ (ticks_same x) c.put_entry.ensures;
}
