-- `mailbox_clock::keep_arrival` meets its contract: the arrival ticks of the set are put, then the last tick.
-- Assumes nothing.
use mathlib.Core.Path.{ap, ◌∙◌}
use Rattle.protocol.specs.Event.{arrival}
use Rattle.protocol_state.specs.Next.{since_after}
use Rattle.mailbox_clock.specs.Clock.{last_put}
use Rattle.mailbox_clock.proofs.Ticks.{clock_goes}
use Rattle.mailbox_clock.proofs.keep_arrival.Goals as goal

pub returns : goal.returns
unfolding since_after
returns c = let s = c in
    let n = s in
    let a = n.args in
    let each = rw n.few.ensures at s.keep_each.ensures in record {
      times = c.keep_tick.ensures.times ∙ ap (last_put a.tick) each;
      dated = λ dated L k v. clock_goes _ L k v a.times.now _ (arrival a.set) dated _ _ each c.keep_tick.ensures.times;
    }
