-- Positions, pointers, arrivals seen and marks, by the history: what demand 2 says of mailboxes.
-- Assumes nothing.
use Rattle.std.specs.Prelude.{◌≡◌, true, false, ◌&&◌, List, ℕ, ◌+◌, ◌≤◌, ◌<◌, min, leb}
use Rattle.protocol.specs.Event.{Event}
use Rattle.protocol.specs.Table.{Table, N, behind, marks}
use Rattle.protocol.specs.History.{arrivals, active}
use Rattle.protocol.specs.ZeroTime.{had}
use Rattle.protocol.specs.Published.{Boxes}

module _ {Val : Type 0} (T : Table Val) where
  -- p is one of task t's positions
  abbrev pub Position : ℕ → ℕ → Type 0
  Position t p = (1 ≤ p) × (p ≤ N T t + 2)

  -- the boxes s after the history h are in range: an active reader's pointers are there, those of an inactive one from writers ahead are absent;
  -- it is seen of each task whether it has had no, one or more arrivals; and a link is marked where its pointer is there and its reader's last arrival
  -- settled on its start value
  pub record Ranged (h : List (Event Val)) (s : Boxes Val) : Type 0 where
    pub newest : (t : ℕ) → Position t (s.newest t)
    pub previous : (t : ℕ) → Position t (s.previous t)
    pub pointer : (l : ℕ) → l < T.links → s.pointer l ≤ N T (T.writer l) + 2
    pub present : (l : ℕ) → l < T.links → active h (T.reader l) ≡ true → 1 ≤ s.pointer l
    pub absent : (l : ℕ) → l < T.links → behind T l ≡ true → active h (T.reader l) ≡ false → s.pointer l ≡ 0
    pub seen : (t : ℕ) → s.seen t ≡ min 2 (arrivals h t)
    pub mark : (l : ℕ) → l < T.links → s.mark l ≡ (leb 1 (s.pointer l) && marks T l (had T h l))
