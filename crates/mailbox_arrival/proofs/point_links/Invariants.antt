-- `mailbox_arrival::point_links` meets its contract: after l turns the first l pointers and marks are as the arrival leaves them.
-- Assumes nothing.
use Prim.Native.Nat.{ℕ}
use Rattle.mailbox_layout.specs.Layout.{Becomes}
use Rattle.mailbox_arrival.specs.Arrives.{pointed}
use Rattle.mailbox_arrival.proofs.point_links.Given as goal

abbrev pub invariant-loop-l : goal.invariant-loop-l
invariant-loop-l l = (T L : ℕ) → Becomes (pointed l.set l.l) T L l.initial.control l.control
