-- `lists::every`: after k turns `ok` says whether the test holds of each number below k.
-- Assumes nothing.
use Rattle.std.proofs.Common.{◌≡◌}
use Rattle.lists.specs.Lists.{every}
use Rattle.lists.proofs.every.Given as goal

abbrev pub invariant-loop-k : goal.invariant-loop-k
invariant-loop-k g l = l.ok ≡ every (g.T.Test.test l.test) l.k
