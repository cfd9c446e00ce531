-- `mailbox_clock::keep_finish` meets its contract: the arrival tick is set back, and the last tick is put.
-- Assumes nothing.
use mathlib.Core.Path.{ap, ◌∙◌}
use Rattle.protocol.specs.Event.{finish}
use Rattle.protocol_state.specs.Next.{since_after}
use Rattle.mailbox_clock.specs.Clock.{last_put}
use Rattle.mailbox_clock.proofs.Ticks.{clock_goes}
use Rattle.mailbox_clock.proofs.keep_finish.Goals as goal

pub returns : goal.returns
unfolding since_after
returns c = let s = c in
    let a = s.args in
    let back = rw c.from.ensures at s.put_entry.ensures in record {
      times = c.keep_tick.ensures.times ∙ ap (last_put a.tick) back;
      dated = λ dated T L w k v. clock_goes T L k v a.times.now _ (finish _ w) dated _ _ back c.keep_tick.ensures.times;
    }
