-- `mailbox_layout::fresh::fill_cells` meets its contract: after i turns the first i cells hold their task's default.
-- Assumes nothing.
use native.Mathlib.Omega.{arith}
use Rattle.mailbox_layout.proofs.Filling.{cells_none, cells_more, cells_end}
use Rattle.mailbox_layout.proofs.fresh.fill_cells.Goals as goal

pub loop-i-init : goal.loop-i-init
loop-i-init c = (omega arith, cells_none _)

pub loop-i-preserved : goal.loop-i-preserved
loop-i-preserved c = (omega arith, cells_more _ _ _ _ c.loop-i.invariant.1 c.entry_at-x.ensures c.put_entry.ensures)

pub returns : goal.returns
returns c = cells_end _ _ c.loop-i.invariant.1 c.loop-i.invariant.0 c.loop-i-test.false
