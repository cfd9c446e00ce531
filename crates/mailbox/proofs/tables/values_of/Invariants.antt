-- `mailbox::tables::values_of` meets its contract: after t turns the first t defaults are put, and then the cells are filled.
-- Assumes nothing.
use mathlib.Core.Path.{◌≡◌}
use mathlib.Core.List.{List}
use Prim.Native.Nat.{ℕ}
use Rattle.protocol_state.specs.Records.{first_tasks}
use Rattle.mailbox_layout.specs.Layout.{cut_values}
use Rattle.mailbox_layout.specs.Fresh.{empty_values}
use Rattle.mailbox.proofs.tables.values_of.Given as goal

abbrev pub invariant-loop-t : goal.invariant-loop-t
invariant-loop-t l = (X : List ℕ) → cut_values l.values ≡ empty_values (first_tasks l.t l.defaults X)
