-- `mailbox_layout::fresh::fill_cells` meets its contract: after i turns the first i cells hold their task's default.
-- Assumes nothing.
use mathlib.Core.Path.{◌≡◌}
use Prim.Native.Nat.{◌*◌, ◌≤◌, ◌-◌}
use Rattle.protocol_state.specs.Saved.{state_room, positions}
use Rattle.mailbox_layout.specs.Layout.{cut_values, defaults_in, start_value_in, cells_in}
use Rattle.mailbox_layout.proofs.Filling.{first_cells}
use Rattle.mailbox_layout.proofs.fresh.fill_cells.Given as goal

abbrev pub invariant-loop-i : goal.invariant-loop-i
invariant-loop-i l = (l.i ≤ state_room.tasks * positions) × (cut_values l.values ≡ first_cells l.i (defaults_in l.initial.values) (start_value_in l.initial.values) (cells_in l.initial.values))

abbrev pub decreases-loop-i : goal.decreases-loop-i
decreases-loop-i l = state_room.tasks * positions - l.i
