-- `mailbox_arrival::move_tasks` meets its contract: after t turns the first t tasks are as the writers' part leaves them.
-- Assumes nothing.
use mathlib.Core.Bool.{Bool}
use Prim.Native.Nat.{ℕ}
use Rattle.protocol_state.specs.Saved.{at}
use Rattle.mailbox_layout.specs.Layout.{Becomes, writer_in, reader_in}
use Rattle.mailbox_free.specs.Pattern.{AllLowest}
use Rattle.mailbox_plan.specs.Plan.{Planned}
use Rattle.mailbox_arrival.specs.Arrives.{moved}
use Rattle.mailbox_arrival.proofs.move_tasks.Given as goal

abbrev pub invariant-loop-t : goal.invariant-loop-t
invariant-loop-t l = AllLowest l.lowest → (ahead : ℕ → ℕ → Bool) → Planned ahead (at (writer_in l.initial.control)) (at (reader_in l.initial.control)) l.links l.plan → (T : ℕ) → Becomes (moved ahead l.set l.t) T l.links l.initial.control l.control
