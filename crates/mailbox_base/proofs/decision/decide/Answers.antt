-- `mailbox_base::decision::decide` meets its contract: the code's table is the definition's, entry by entry.
-- Assumes nothing.
use mathlib.Core.Path.{◌≡◌, ap}
use Prim.Native.Nat.{ℕ, ◌+◌, ◌*◌, ◌%◌, min}
use native.Mathlib.Omega.{arith}
use lib.ListN.{get_or}
use Rattle.protocol_state.specs.Decision.{decisions, decided}
use Rattle.mailbox_base.proofs.decision.decide.Goals as goal
use Rattle.mailbox_base.proofs.decision.decide.Goals.{in-Arrival, in-Start, in-Read, in-Finish}

-- the entry of a row and a column: what is no phase has the last one
entry : (row column p : ℕ) → min p 2 ≡ column → decided row p ≡ get_or decisions (row % 4 * 3 + column) 0
unfolding decided
entry row column p e = ap (λ (i : ℕ). get_or decisions (row % 4 * 3 + i) 0) e

pub returns-in-0 : goal.returns-in-0
returns-in-0 c =
    let p = c.args.phase in
    elim c.match-kind.branch [
      | in-Arrival w ↦ rw (w.in-Arrival.is, w.idle-is) (entry 0 0 p (omega arith), omega arith)
      | in-Start w ↦ rw (w.in-Start.is, w.idle-is) (entry 1 0 p (omega arith), omega arith)
      | in-Read w ↦ rw (w.in-Read.is, w.idle-is) (entry 2 0 p (omega arith), omega arith)
      | in-Finish w ↦ rw (w.in-Finish.is, w.idle-is) (entry 3 0 p (omega arith), omega arith)
    ]

pub returns-in-1 : goal.returns-in-1
returns-in-1 c =
    let p = c.args.phase in
    elim c.match-kind.branch [
      | in-Arrival w ↦ rw (w.in-Arrival.is, w.idle-is) (entry 0 1 p (omega arith), omega arith)
      | in-Start w ↦ rw (w.in-Start.is, w.idle-is) (entry 1 1 p (omega arith), omega arith)
      | in-Read w ↦ rw (w.in-Read.is, w.idle-is) (entry 2 1 p (omega arith), omega arith)
      | in-Finish w ↦ rw (w.in-Finish.is, w.idle-is) (entry 3 1 p (omega arith), omega arith)
    ]

pub returns-in_default : goal.returns-in_default
returns-in_default c =
    let p = c.args.phase in
    elim c.match-kind.branch [
      | in-Arrival w ↦ rw (w.in-Arrival.is, w.idle-is) (entry 0 2 p (omega arith), omega arith)
      | in-Start w ↦ rw (w.in-Start.is, w.idle-is) (entry 1 2 p (omega arith), omega arith)
      | in-Read w ↦ rw (w.in-Read.is, w.idle-is) (entry 2 2 p (omega arith), omega arith)
      | in-Finish w ↦ rw (w.in-Finish.is, w.idle-is) (entry 3 2 p (omega arith), omega arith)
    ]
