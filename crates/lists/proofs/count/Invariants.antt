-- `lists::count`: after k turns `c` says of how many of the numbers below k the test holds.
-- Assumes nothing.
use Rattle.std.proofs.Common.{◌≡◌, ◌≤◌}
use Rattle.lists.specs.Lists.{count}
use Rattle.lists.proofs.count.Given as goal

abbrev pub invariant-loop-k : goal.invariant-loop-k
invariant-loop-k g l = record { bound : l.c ≤ l.k; holding : l.c ≡ count (g.T.Test.test l.test) l.k }
