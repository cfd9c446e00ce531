-- `mailbox_layout::fresh::fresh_control` meets its contract: after t turns the first t tasks have both positions at 1.
-- Assumes nothing.
use mathlib.Core.Path.{◌≡◌}
use Prim.Native.Nat.{◌≤◌, ◌-◌}
use Rattle.protocol_state.specs.Saved.{state_room}
use Rattle.mailbox_layout.specs.Layout.{cut}
use Rattle.mailbox_layout.proofs.Filling.{first_ones}
use Rattle.mailbox_layout.proofs.fresh.fresh_control.Given as goal

abbrev pub invariant-loop-t : goal.invariant-loop-t
invariant-loop-t l = (l.t ≤ state_room.tasks) × (cut l.control ≡ first_ones l.t)

abbrev pub decreases-loop-t : goal.decreases-loop-t
decreases-loop-t l = state_room.tasks - l.t
