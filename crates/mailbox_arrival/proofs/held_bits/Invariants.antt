-- `mailbox_arrival::held_bits` meets its contract: after l turns the bits are those of the positions that one of the first l links holds.
-- Assumes nothing.
use mathlib.Core.Path.{◌≡◌}
use mathlib.Core.Bool.{Bool}
use Prim.Native.Nat.{ℕ, ◌<◌}
use Rattle.lists.specs.Lists.{some}
use Rattle.protocol.specs.Event.{has}
use Rattle.protocol.specs.Free.{holds}
use Rattle.mailbox_layout.specs.Layout.{writer_in, reader_in, pointer_in}
use Rattle.protocol_state.specs.Saved.{at}
use Rattle.mailbox_free.specs.Bits.{last_bit}
use Rattle.mailbox_plan.specs.Plan.{Planned}
use Rattle.mailbox_arrival.proofs.held_bits.Given as goal

abbrev pub invariant-loop-l : goal.invariant-loop-l
invariant-loop-l l = (ahead : ℕ → ℕ → Bool) → Planned ahead (at (writer_in l.control)) (at (reader_in l.control)) l.links l.plan → (p : ℕ) → p < last_bit → has l.bits p ≡ some (holds ahead (at (writer_in l.control)) (at (reader_in l.control)) (at (pointer_in l.control)) l.t p) l.l
