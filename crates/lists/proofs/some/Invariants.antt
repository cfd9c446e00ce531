-- `lists::some`: after k turns `found` says whether the test holds of one of the numbers below k.
-- Assumes nothing.
use Rattle.std.proofs.Common.{◌≡◌}
use Rattle.lists.specs.Lists.{some}
use Rattle.lists.proofs.some.Given as goal

abbrev pub invariant-loop-k : goal.invariant-loop-k
invariant-loop-k g l = l.found ≡ some (g.T.Test.test l.test) l.k
