-- `mailbox::tables::times_of` meets its contract: after t turns the first t relative deadlines are put.
-- Assumes nothing.
use mathlib.Core.Path.{◌≡◌}
use mathlib.Core.List.{List}
use Prim.Native.Nat.{ℕ}
use Rattle.protocol_state.specs.Records.{first_tasks}
use Rattle.mailbox_layout.specs.Layout.{cut_times}
use Rattle.mailbox_layout.specs.Fresh.{fresh_times}
use Rattle.mailbox.proofs.tables.times_of.Given as goal

abbrev pub invariant-loop-t : goal.invariant-loop-t
invariant-loop-t l = (D : List ℕ) → cut_times l.times ≡ fresh_times 1 (first_tasks l.t D l.deadlines)
