-- `lists::count` meets its contract.
-- Assumes nothing.
use Rattle.std.proofs.Common.{arith}
use Rattle.std.proofs.lemmas.Bool.Decides.{nat_tests}
use Rattle.lists.proofs.Lists.{count_none, count_more}
use Rattle.lists.proofs.count.Goals as goal

pub loop-k-init : goal.loop-k-init
loop-k-init g c = record { bound = omega arith; holding = count_none _ }

pub loop-k-preserved : goal.loop-k-preserved
loop-k-preserved g c = record {
  bound = grind (arith, nat_tests);
  holding = count_more _ _ c.holds.ensures c.loop-k.invariant.holding c.one_if-c.ensures;
}
