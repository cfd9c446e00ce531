-- A history is the list of accepted events, the last one first. What it says by itself: counts, who is active, outputs.
-- Assumes nothing.
use Rattle.std.specs.Prelude.{Bool, cond, List, [], ◌∷◌, ℕ, suc, eqb, ltb}
use Rattle.lists.specs.Lists.{sum}
use Rattle.protocol.specs.Event.{Event, arrival, start, read, finish, has}
use Rattle.protocol.specs.Given.{Given, there, missing}
use Rattle.protocol.specs.Table.{Table}

-- one more if the test passes
abbrev pub tick : Bool → ℕ → ℕ
tick b n = cond b (suc n) n

-- the four counts that an answer carries: arrivals task by task, starts, reads, finishes
pub record Counts : Type 0 where
  pub arrivals : ℕ
  pub starts : ℕ
  pub reads : ℕ
  pub finishes : ℕ

-- a history and one that goes on from it
pub data Goes {Val : Type 0} : List (Event Val) → List (Event Val) → Type 0 where
  same : {h : List (Event Val)} → Goes h h
  more : {h H : List (Event Val)} (e : Event Val) → Goes h H → Goes h (e ∷ H)

module _ {Val : Type 0} where
  -- how often task t arrived
  unfoldable pub arrivals : List (Event Val) → ℕ → ℕ
  arrivals [] t = 0
  arrivals (arrival m ∷ h) t = tick (has m t) (arrivals h t)
  arrivals (start u ∷ h) t = arrivals h t
  arrivals (read l ∷ h) t = arrivals h t
  arrivals (finish u v ∷ h) t = arrivals h t

  -- how often it started
  unfoldable pub starts : List (Event Val) → ℕ → ℕ
  starts [] t = 0
  starts (arrival m ∷ h) t = starts h t
  starts (start u ∷ h) t = tick (eqb u t) (starts h t)
  starts (read l ∷ h) t = starts h t
  starts (finish u v ∷ h) t = starts h t

  -- how often it finished
  unfoldable pub finishes : List (Event Val) → ℕ → ℕ
  finishes [] t = 0
  finishes (arrival m ∷ h) t = finishes h t
  finishes (start u ∷ h) t = finishes h t
  finishes (read l ∷ h) t = finishes h t
  finishes (finish u v ∷ h) t = tick (eqb u t) (finishes h t)

  -- how many numbers were read
  unfoldable pub reads : List (Event Val) → ℕ
  reads [] = 0
  reads (arrival m ∷ h) = reads h
  reads (start u ∷ h) = reads h
  reads (read l ∷ h) = suc (reads h)
  reads (finish u v ∷ h) = reads h

  -- active: its arrivals outnumber its finishes
  abbrev pub active : List (Event Val) → ℕ → Bool
  active h t = ltb (finishes h t) (arrivals h t)

  -- waiting: arrived, not started
  abbrev pub waiting : List (Event Val) → ℕ → Bool
  waiting h t = ltb (starts h t) (arrivals h t)

  -- running: started, not finished
  abbrev pub running : List (Event Val) → ℕ → Bool
  running h t = ltb (finishes h t) (starts h t)

  -- the history up to and including the last arrival of task r
  unfoldable pub up_to : List (Event Val) → ℕ → List (Event Val)
  up_to [] r = []
  up_to (arrival m ∷ h) r = cond (has m r) (arrival m ∷ h) (up_to h r)
  up_to (start u ∷ h) r = up_to h r
  up_to (read l ∷ h) r = up_to h r
  up_to (finish u v ∷ h) r = up_to h r

  -- the arrival events so far: the clock by which arrivals are earlier or later
  unfoldable pub clock : List (Event Val) → ℕ
  clock [] = 0
  clock (arrival m ∷ h) = suc (clock h)
  clock (start u ∷ h) = clock h
  clock (read l ∷ h) = clock h
  clock (finish u v ∷ h) = clock h

  -- when task t last arrived
  abbrev pub stamp : List (Event Val) → ℕ → ℕ
  stamp h t = clock (up_to h t)

  -- the value of task w's finish number k, counted from 1; missing while it has not finished so often
  unfoldable pub output : List (Event Val) → ℕ → ℕ → Given Val
  output [] w k = missing
  output (arrival m ∷ h) w k = output h w k
  output (start u ∷ h) w k = output h w k
  output (read l ∷ h) w k = output h w k
  output (finish u v ∷ h) w k = cond (eqb u w) (cond (eqb k (suc (finishes h w))) (there v) (output h w k)) (output h w k)

  -- those of a history
  abbrev pub counts : Table Val → List (Event Val) → Counts
  counts T h = record { arrivals = sum (arrivals h) T.tasks; starts = sum (starts h) T.tasks; reads = reads h; finishes = sum (finishes h) T.tasks }

-- the history after these events, with ticks or without, given in the order in which they happened, which came after the history h
unfoldable pub past : {A : Type 0} → List A → List A → List A
past h [] = h
past h (e ∷ es) = past (e ∷ h) es
