-- `lists::some` meets its contract.
-- Assumes nothing.
use Rattle.lists.proofs.Lists.{some_none, some_more}
use Rattle.lists.proofs.some.Goals as goal

pub loop-k-init : goal.loop-k-init
loop-k-init g c = some_none _

pub loop-k-preserved : goal.loop-k-preserved
loop-k-preserved g c = some_more _ _ c.holds-found.ensures c.loop-k.invariant
