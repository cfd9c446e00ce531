-- `mailbox_plan::plan_of` meets its contract: after l turns the plan is that of the first l links.
-- Assumes nothing.
use mathlib.Core.Path.{◌≡◌}
use lib.ListN.{length}
use Rattle.protocol_state.specs.Saved.{at, state_room}
use Rattle.mailbox_layout.specs.Layout.{writer_in, reader_in, ahead_among}
use Rattle.mailbox_plan.specs.Plan.{Planned}
use Rattle.mailbox_plan.proofs.plan_of.Given as goal

abbrev pub invariant-loop-l : goal.invariant-loop-l
invariant-loop-l l = (length l.plan ≡ state_room.links) × Planned (ahead_among l.times) (at (writer_in l.control)) (at (reader_in l.control)) l.l l.plan
