-- `mailbox_rules::table::first_fault` meets its contract: after l turns `found` tells the refusal of the first link at fault among the first l, and the
-- counts are those of these links.
-- Assumes nothing.
use mathlib.Core.Path.{◌≡◌}
use mathlib.Core.Bool.{Bool}
use Prim.Native.Nat.{ℕ}
use Rattle.lists.specs.Lists.{leading}
use Rattle.protocol_deadlines.specs.Deadline.{Ranks}
use Rattle.protocol_state.specs.Rules.{fault}
use Rattle.protocol_state.specs.Saved.{at}
use Rattle.mailbox_layout.specs.Layout.{writer_in, reader_in, link_held}
use Rattle.mailbox_plan.specs.Plan.{Planned}
use Rattle.refusals.specs.Numbers.{told}
use Rattle.mailbox_rules.proofs.Flags.{ByFlags}
use Rattle.mailbox_rules.proofs.table.first_fault.Given as goal

abbrev pub invariant-loop-l : goal.invariant-loop-l
invariant-loop-l l = ByFlags (at (writer_in l.control)) l.plan l.l l.counts
    × ((ahead : ℕ → ℕ → Bool) → Ranks ahead → Planned ahead (at (writer_in l.control)) (at (reader_in l.control)) l.links l.plan → told l.found ≡ leading (fault ahead l.tasks (link_held l.control l.values)) l.l)
