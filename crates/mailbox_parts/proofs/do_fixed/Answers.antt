-- `mailbox_parts::do_fixed` meets its contract: what the doing of its kind ensures, and no tick is kept.
-- Assumes nothing.
use mathlib.Core.Path.{◌∙◌, ap}
use Rattle.protocol_state.specs.Next.{clocked}
use Rattle.mailbox_event.specs.Plain.{plain}
use Rattle.mailbox_clock.proofs.Ticks.{clock_stands}
use Rattle.mailbox_parts.proofs.do_fixed.Goals as goal

pub returns-in-Start-clause-plainly : goal.returns-in-Start-clause-plainly
returns-in-Start-clause-plainly c ahead right x = rw c.in-Start.is (c.advance.ensures _ _ _ x)

pub returns-in-Start-clause-fixed : goal.returns-in-Start-clause-fixed
returns-in-Start-clause-fixed c ahead right tick x fixed =
    clock_stands _ tick (plain c.args.e) fixed ∙ ap (clocked tick (plain c.args.e)) (rw c.in-Start.is (c.advance.ensures _ _ _ x))

pub returns-in-Finish-clause-plainly : goal.returns-in-Finish-clause-plainly
returns-in-Finish-clause-plainly c ahead right x = rw c.in-Finish.is (c.finish.ensures ahead right _ x)

pub returns-in-Finish-clause-fixed : goal.returns-in-Finish-clause-fixed
returns-in-Finish-clause-fixed c ahead right tick x fixed =
    clock_stands _ tick (plain c.args.e) fixed ∙ ap (clocked tick (plain c.args.e)) (rw c.in-Finish.is (c.finish.ensures ahead right _ x))
