-- The reads of the run where tasks take no time, once more, by counts of arrivals alone: no output is looked for among those produced so far, so none is missing but what `out` leaves so.
-- Proofs go through it; no statement that a reader must believe rests on it.
-- Assumes nothing.
use mathlib.Core.Path.{◌≡◌}
use mathlib.Core.Bool.{true, cond}
use mathlib.Core.List.{List, [], ◌∷◌}
use Prim.Native.Nat.{ℕ, zero, suc, ◌<◌}
use lib.Dec.{eqb}
use Rattle.protocol.specs.Event.{has}
use Rattle.protocol.specs.Given.{Given, there}
use Rattle.protocol.specs.Table.{Table, early, start_of}
use Rattle.protocol.specs.History.{tick}
use Rattle.protocol.specs.ZeroTime.{run_of}
use Rattle.protocol.specs.Instant.{LogEntry}

-- how often task t arrived, by the arrival sets
unfoldable pub arrivals_in : List ℕ → ℕ → ℕ
arrivals_in [] t = 0
arrivals_in (m ∷ ms) t = tick (has m t) (arrivals_in ms t)

-- the sets hold tasks of the table only
unfoldable pub Known : ℕ → List ℕ → Type 0
Known n [] = Unit {0}
Known n (m ∷ ms) = ((t : ℕ) → has m t ≡ true → t < n) × Known n ms

module _ {Val : Type 0} (T : Table Val) (out : ℕ → ℕ → Given Val) where
  -- what link l gives after n arrivals of its writer
  abbrev pub gives : ℕ → ℕ → Given Val
  gives l n = cond (early (T.delayed l) n) (there (start_of T l)) (out (T.writer l) (run_of (T.delayed l) n))

  -- after the arrivals ms
  abbrev pub told : List ℕ → ℕ → Given Val
  told ms l = gives l (arrivals_in ms (T.writer l))

  -- task t's read by link l after the arrivals ms
  abbrev pub entry : List ℕ → ℕ → ℕ → LogEntry Val
  entry ms t l = record { job = arrivals_in ms t; link = l; given = told ms l }

  -- task t reads those of the first n links that are its own
  unfoldable pub closed_reads : List ℕ → ℕ → ℕ → List (LogEntry Val) → List (LogEntry Val)
  closed_reads ms t zero es = es
  closed_reads ms t (suc l) es = cond (eqb (T.reader l) t) (entry ms t l ∷ closed_reads ms t l es) (closed_reads ms t l es)

  -- of the tasks listed, those of the set m read, one after the other
  unfoldable pub closed_work : List ℕ → ℕ → List ℕ → List (LogEntry Val) → List (LogEntry Val)
  closed_work ms m [] es = es
  closed_work ms m (t ∷ ts) es = closed_work ms m ts (cond (has m t) (closed_reads ms t T.links es) es)

  -- all reads, the last one first
  unfoldable pub closed : List ℕ → List ℕ → List (LogEntry Val)
  closed order [] = []
  closed order (m ∷ ms) = closed_work (m ∷ ms) m order (closed order ms)
