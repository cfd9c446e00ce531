-- The run where tasks take no time, in closed form: from arrivals and finish values alone, without positions or pointers.
-- Assumes nothing.
use Rattle.std.specs.Prelude.{Bool, cond, List, [], ◌∷◌, ℕ, pred, ◌≤◌}
use Rattle.protocol.specs.Event.{Event, arrival, start, read, finish}
use Rattle.protocol.specs.Given.{Given, there, values}
use Rattle.protocol.specs.Table.{Table, early, start_of}
use Rattle.protocol.specs.History.{arrivals, finishes, up_to, output}

-- of a writer's n arrivals, unless they are too few (`early`), a direct link gives the last run, a delayed link the one before it; runs are numbered from 1
abbrev pub run_of : Bool → ℕ → ℕ
run_of delayed n = cond delayed (pred n) n

module _ {Val : Type 0} (T : Table Val) where
  -- how often link l's writer had arrived up to and including the last arrival of its reader
  abbrev pub had : List (Event Val) → ℕ → ℕ
  had h l = arrivals (up_to h (T.reader l)) (T.writer l)

  -- the writer's run that this arrival settled on, unless it was early
  abbrev pub wanted : List (Event Val) → ℕ → ℕ
  wanted h l = run_of (T.delayed l) (had h l)

  -- what link l reads where tasks take no time: `start_of` where the arrival was early, else the output of the run wanted
  abbrev pub due : List (Event Val) → ℕ → Given Val
  due h l = cond (early (T.delayed l) (had h l)) (there (start_of T l)) (output h (T.writer l) (wanted h l))

  -- at each read, the last one first
  unfoldable pub dues : List (Event Val) → List (Given Val)
  dues [] = []
  dues (arrival m ∷ h) = dues h
  dues (start u ∷ h) = dues h
  dues (read l ∷ h) = due h l ∷ dues h
  dues (finish u v ∷ h) = dues h

  -- as numbers; it is shown that none is missing (`ideals_there`)
  abbrev pub ideals : List (Event Val) → List Val
  ideals h = values (dues h)

  -- at each read the run wanted had finished: the output of an unfinished run is never read
  unfoldable pub Settled : List (Event Val) → Type 0
  Settled [] = Unit {0}
  Settled (arrival m ∷ h) = Settled h
  Settled (start u ∷ h) = Settled h
  Settled (read l ∷ h) = (wanted h l ≤ finishes h (T.writer l)) × Settled h
  Settled (finish u v ∷ h) = Settled h
