-- `lists::every` meets its contract.
-- Assumes nothing.
use Rattle.lists.proofs.Lists.{every_none, every_more}
use Rattle.lists.proofs.every.Goals as goal

pub loop-k-init : goal.loop-k-init
loop-k-init g c = every_none _

pub loop-k-preserved : goal.loop-k-preserved
loop-k-preserved g c = every_more _ _ c.holds-ok.ensures c.loop-k.invariant
