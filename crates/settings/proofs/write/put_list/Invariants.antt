-- Of `settings::write::put_list` the loop's invariant: the count and the first i entries stand at the start of the buffer, and its other bytes are as they were.
-- Assumes nothing.
use mathlib.Core.Path.{◌≡◌}
use mathlib.Core.List.{◌++◌}
use Prim.Native.Nat.{◌+◌, ◌*◌}
use lib.ListN.{length, drop}
use Rattle.settings.proofs.Writing.{begun}
use Rattle.settings.proofs.write.put_list.Given as goal

abbrev pub invariant-loop-i : goal.invariant-loop-i
invariant-loop-i l = (length l.out ≡ length l.initial.out) × (l.out ≡ begun l.settings l.n l.i ++ drop (1 + 9 * l.i) l.initial.out)
