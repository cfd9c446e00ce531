-- The protocol with the lowest free position, as a function.
-- Assumes nothing.
use Rattle.std.specs.Prelude.{false, cond, ◌&&◌, List, [], ◌∷◌, ℕ, ◌+◌, eqb}
use Rattle.protocol.specs.Event.{Event, arrival, start, read, finish, has}
use Rattle.protocol.specs.Table.{Table, N, marks}
use Rattle.protocol.specs.Published.{Boxes, seen_once, comes, leaves, number}
use Rattle.protocol.specs.Free.{lowest_of}

module _ {Val : Type 0} (T : Table Val) where
  -- the lowest free position of task t
  abbrev pub lowest : Boxes Val → ℕ → ℕ
  lowest s t = lowest_of T.ahead T.writer T.reader s.pointer (N T t + 1) T.links t (s.newest t)

  -- fresh boxes, as the published protocol has them
  abbrev pub fresh_boxes : Boxes Val
  fresh_boxes = record { newest = λ t. 1; previous = λ t. 1; seen = λ t. 0; pointer = λ l. 0; mark = λ l. false; cell = λ t p. T.default t }

  -- the writers' part of an arrival: newest becomes the lowest free position
  abbrev pub newest_then : ℕ → Boxes Val → ℕ → ℕ
  newest_then m s t = cond (has m t) (lowest s t) (s.newest t)

  -- and previous becomes newest
  abbrev pub previous_then : ℕ → Boxes Val → ℕ → ℕ
  previous_then m s t = cond (has m t) (s.newest t) (s.previous t)

  -- and one more arrival is seen
  abbrev pub seen_then : ℕ → Boxes Val → ℕ → ℕ
  seen_then m s t = cond (has m t) (seen_once (s.seen t)) (s.seen t)

  -- what an accepted event makes of the boxes
  abbrev pub next_boxes : Event Val → Boxes Val → Boxes Val
  next_boxes (arrival m) s = record {
    newest = newest_then m s;
    previous = previous_then m s;
    seen = seen_then m s;
    pointer = λ l. cond (comes T m l) (cond (T.delayed l) (previous_then m s (T.writer l)) (newest_then m s (T.writer l))) (s.pointer l);
    mark = λ l. cond (comes T m l) (marks T l (seen_then m s (T.writer l))) (s.mark l);
    cell = s.cell;
  }
  next_boxes (start t) s = s
  next_boxes (read l) s = s
  next_boxes (finish t v) s = record {
    newest = s.newest;
    previous = s.previous;
    seen = s.seen;
    pointer = λ l. cond (leaves T t l) 0 (s.pointer l);
    mark = λ l. cond (leaves T t l) false (s.mark l);
    cell = λ u p. cond (eqb u t && eqb p (s.newest t)) v (s.cell u p);
  }

  -- the boxes after a history, each event having been accepted
  unfoldable pub boxes_of : List (Event Val) → Boxes Val
  boxes_of [] = fresh_boxes
  boxes_of (e ∷ h) = next_boxes e (boxes_of h)

  -- the number of a read, else zero
  abbrev pub value_then : Val → Boxes Val → Event Val → Val
  value_then zero s (arrival m) = zero
  value_then zero s (start t) = zero
  value_then zero s (read l) = number T s l
  value_then zero s (finish t v) = zero

  -- the numbers that its reads give, the last one first
  unfoldable pub numbers_of : List (Event Val) → List Val
  numbers_of [] = []
  numbers_of (arrival m ∷ h) = numbers_of h
  numbers_of (start t ∷ h) = numbers_of h
  numbers_of (read l ∷ h) = number T (boxes_of h) l ∷ numbers_of h
  numbers_of (finish t v ∷ h) = numbers_of h
