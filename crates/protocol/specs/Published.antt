-- The published protocol (001, section 5): what each accepted event does to positions, pointers and mailboxes,
-- and (document 02) to arrivals seen and marks, for any choice of a free position.
-- Assumes nothing.
use Rattle.std.specs.Prelude.{◌≡◌, ◌≢◌, Bool, true, false, cond, ◌&&◌, List, [], ◌∷◌, ℕ, suc, ◌+◌, ◌≤◌, ◌<◌, min, eqb, ltb}
use Rattle.protocol.specs.Event.{Event, arrival, start, read, finish, has}
use Rattle.protocol.specs.Table.{Table, N, behind, marks}

-- of each task the newest and the previous position and whether it has had no, one or more arrivals (0, 1, 2),
-- of each link the pointer (0: absent) and the mark, at each position of each task a value
pub record Boxes (Val : Type 0) : Type 0 where
  pub newest : ℕ → ℕ
  pub previous : ℕ → ℕ
  pub seen : ℕ → ℕ
  pub pointer : ℕ → ℕ
  pub mark : ℕ → Bool
  pub cell : ℕ → ℕ → Val

-- boxes that nobody can tell apart
pub record Same {Val : Type 0} (s r : Boxes Val) : Type 0 where
  pub newest : (t : ℕ) → s.newest t ≡ r.newest t
  pub previous : (t : ℕ) → s.previous t ≡ r.previous t
  pub seen : (t : ℕ) → s.seen t ≡ r.seen t
  pub pointer : (l : ℕ) → s.pointer l ≡ r.pointer l
  pub mark : (l : ℕ) → s.mark l ≡ r.mark l
  pub cell : (t p : ℕ) → s.cell t p ≡ r.cell t p

-- one arrival more, counted up to two
abbrev pub seen_once : ℕ → ℕ
seen_once n = min 2 (suc n)

-- which positions an arriving task may take, by the boxes and the task
abbrev pub Choice : Type 0 → Type 1
Choice Val = Boxes Val → ℕ → ℕ → Type 0

module _ {Val : Type 0} (T : Table Val) where
  -- newest and previous at 1, no arrivals, every pointer absent, nothing marked, every position holding the task's default
  pub record Fresh (s : Boxes Val) : Type 0 where
    pub newest : (t : ℕ) → s.newest t ≡ 1
    pub previous : (t : ℕ) → s.previous t ≡ 1
    pub seen : (t : ℕ) → s.seen t ≡ 0
    pub pointer : (l : ℕ) → s.pointer l ≡ 0
    pub mark : (l : ℕ) → s.mark l ≡ false
    pub cell : (t p : ℕ) → s.cell t p ≡ T.default t

  -- position p is free for task t: one of its N + 2, not the one that becomes its previous, and no pointer of its links to readers behind
  pub record Free (s : Boxes Val) (t p : ℕ) : Type 0 where
    pub low : 1 ≤ p
    pub high : p ≤ N T t + 2
    pub apart : p ≢ s.newest t
    pub unused : (l : ℕ) → l < T.links → T.writer l ≡ t → behind T l ≡ true → p ≢ s.pointer l

  -- and it is the lowest of the free ones
  pub record Lowest (s : Boxes Val) (t p : ℕ) : Type 0 where
    pub free : Free s t p
    pub least : (q : ℕ) → Free s t q → p ≤ q

  -- a choice of free positions only
  abbrev pub OnlyFree : Choice Val → Type 0
  OnlyFree choice = (s : Boxes Val) (t p : ℕ) → choice s t p → Free s t p

  -- link l's reader is in the set m
  abbrev pub comes : ℕ → ℕ → Bool
  comes m l = ltb l T.links && has m (T.reader l)

  -- arrival of the set m: first, for every task in it, previous becomes newest, newest a position of the choice, and one more arrival is seen;
  -- only then, for every link whose reader is in it, the pointer becomes the writer's newest if direct, previous if delayed,
  -- and a delayed link is marked if its writer's arrivals, this one included, are fewer than two, else not
  pub record Arrived (choice : Choice Val) (m : ℕ) (s s' : Boxes Val) : Type 0 where
    pub previous : (t : ℕ) → s'.previous t ≡ cond (has m t) (s.newest t) (s.previous t)
    pub chosen : (t : ℕ) → has m t ≡ true → choice s t (s'.newest t)
    pub kept : (t : ℕ) → has m t ≡ false → s'.newest t ≡ s.newest t
    pub seen : (t : ℕ) → s'.seen t ≡ cond (has m t) (seen_once (s.seen t)) (s.seen t)
    pub pointer : (l : ℕ) → s'.pointer l ≡ cond (comes m l) (cond (T.delayed l) (s'.previous (T.writer l)) (s'.newest (T.writer l))) (s.pointer l)
    pub mark : (l : ℕ) → s'.mark l ≡ cond (comes m l) (marks T l (s'.seen (T.writer l))) (s.mark l)
    pub cell : (t p : ℕ) → s'.cell t p ≡ s.cell t p

  -- link l is one by which task t reads from a writer ahead of it
  abbrev pub leaves : ℕ → ℕ → Bool
  leaves t l = ltb l T.links && (eqb (T.reader l) t && T.ahead (T.writer l) t)

  -- finish of task t with the value v: it goes to the newest position; pointers by which t reads from writers ahead become absent, and their marks go
  pub record Finished (t : ℕ) (v : Val) (s s' : Boxes Val) : Type 0 where
    pub newest : (u : ℕ) → s'.newest u ≡ s.newest u
    pub previous : (u : ℕ) → s'.previous u ≡ s.previous u
    pub seen : (u : ℕ) → s'.seen u ≡ s.seen u
    pub pointer : (l : ℕ) → s'.pointer l ≡ cond (leaves t l) 0 (s.pointer l)
    pub mark : (l : ℕ) → s'.mark l ≡ cond (leaves t l) false (s.mark l)
    pub cell : (u p : ℕ) → s'.cell u p ≡ cond (eqb u t && eqb p (s.newest t)) v (s.cell u p)

  -- read by link l: its start value where it is marked, else the number at its pointer in its writer's positions
  abbrev pub number : Boxes Val → ℕ → Val
  number s l = cond (s.mark l) (T.start_value l) (s.cell (T.writer l) (s.pointer l))

  -- what an accepted event makes of the boxes; a start and a read leave them
  unfoldable pub Step : Choice Val → Event Val → Boxes Val → Boxes Val → Type 0
  Step choice (arrival m) s s' = Arrived choice m s s'
  Step choice (start t) s s' = s' ≡ s
  Step choice (read l) s s' = s' ≡ s
  Step choice (finish t v) s s' = Finished t v s s'

  -- boxes that a history can lead to, from fresh ones. Whether its events could happen is another question, and no policy stands here (`AllPossible`)
  pub data Run (choice : Choice Val) : Boxes Val → List (Event Val) → Type 0 where
    fresh : {s : Boxes Val} → Fresh s → Run choice s []
    next : {s s' : Boxes Val} {h : List (Event Val)} (e : Event Val) → Run choice s h → Step choice e s s' → Run choice s' (e ∷ h)

  -- the numbers that a run reads, the last one first
  unfoldable pub numbers : {choice : Choice Val} {s : Boxes Val} {h : List (Event Val)} → Run choice s h → List Val
  numbers (fresh f) = []
  numbers (next (arrival m) r q) = numbers r
  numbers (next (start t) r q) = numbers r
  numbers (next {s = s} (read l) r q) = number s l ∷ numbers r
  numbers (next (finish t v) r q) = numbers r
