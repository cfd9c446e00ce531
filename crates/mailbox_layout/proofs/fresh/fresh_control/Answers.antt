-- `mailbox_layout::fresh::fresh_control` meets its contract: after t turns the first t tasks have both positions at 1.
-- Assumes nothing.
use native.Mathlib.Omega.{arith}
use Rattle.mailbox_layout.proofs.Filling.{ones_none, ones_more, ones_end}
use Rattle.mailbox_layout.proofs.fresh.fresh_control.Goals as goal

pub loop-t-init : goal.loop-t-init
loop-t-init c = (omega arith, ones_none)

pub loop-t-preserved : goal.loop-t-preserved
loop-t-preserved c = (omega arith, ones_more _ c.loop-t.invariant.1 c.put_control.ensures c.put_control-in-loop-t.ensures)

pub returns : goal.returns
returns c = ones_end _ c.loop-t.invariant.1 c.loop-t.invariant.0 c.loop-t-test.false
