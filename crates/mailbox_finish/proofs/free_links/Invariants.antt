-- `mailbox_finish::free_links` meets its contract: after l turns the first l pointers and marks are as a finish leaves them.
-- Assumes nothing.
use mathlib.Core.Bool.{Bool}
use Prim.Native.Nat.{ℕ}
use Rattle.protocol_state.specs.Saved.{at}
use Rattle.mailbox_layout.specs.Layout.{Becomes, writer_in, reader_in}
use Rattle.mailbox_plan.specs.Plan.{Planned}
use Rattle.mailbox_finish.specs.Frees.{freed_first}
use Rattle.mailbox_finish.proofs.free_links.Given as goal

abbrev pub invariant-loop-l : goal.invariant-loop-l
invariant-loop-l l = (ahead : ℕ → ℕ → Bool) → Planned ahead (at (writer_in l.initial.control)) (at (reader_in l.initial.control)) l.links l.plan → (T L : ℕ) → Becomes (freed_first ahead l.t l.l) T L l.initial.control l.control
