-- `mailbox_parts::do_dated` meets its contract: the event, then its tick.
-- Assumes nothing.
use mathlib.Core.Path.{◌∙◌, ap}
use Rattle.protocol_state.specs.Next.{clocked}
use Rattle.mailbox_event.specs.Plain.{plain}
use Rattle.mailbox_parts.proofs.do_dated.Goals as goal

pub returns : goal.returns
returns c dated ahead right = let d = c in
    let a = d.args in
    c.clock.ensures dated _ _ _ ∙ ap (clocked a.tick (plain a.e)) (d.do_fixed.ensures.plainly ahead right a.times.now)
