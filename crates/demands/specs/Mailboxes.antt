-- What the published protocol gives for events, and how many mailboxes it takes.
-- Assumes nothing.
use Rattle.std.specs.Prelude.{◌≡◌, ◌↔◌, Bool, true, ◌&&◌, List, [], ℕ, ◌+◌, ◌≤◌, ◌<◌, min, eqb}
use Rattle.lists.specs.Lists.{some, count}
use Rattle.protocol.specs.Event.{Event}
use Rattle.protocol.specs.Table.{Table}
use Rattle.protocol.specs.History.{arrivals, active, past}
use Rattle.protocol_deadlines.specs.Timed.{Timed, untimed, last, since, AllPossibleAt}
use Rattle.protocol.specs.ZeroTime.{had}
use Rattle.protocol.specs.Published.{Boxes, Same, Lowest, Run}
use Rattle.protocol.specs.Published as published
use Rattle.mailbox.specs.declared.State.{State}
use Rattle.demands.specs.States.{boxes_in, last_in, since_in}
use Rattle.demands.specs.Order.{turned}

-- task r reads from task w
abbrev pub reads_from : Table ℕ → ℕ → ℕ → Bool
reads_from T w r = some (λ l. eqb (T.writer l) w && eqb (T.reader l) r) T.links

-- how many less urgent readers task w has: tasks behind it that read from it
unfoldable pub less_urgent_readers : Table ℕ → ℕ → ℕ
less_urgent_readers T w = count (λ r. T.ahead w r && reads_from T w r) T.tasks

-- "at most two mailboxes more than a writer has less urgent readers": after the history h newest, previous and every pointer are among them, and nothing was
-- ever put past them; 0 is an absent pointer, and no active reader has one
pub record Mailboxes (T : Table ℕ) (h : List (Event ℕ)) (s : Boxes ℕ) : Type 0 where
  pub newest : (t : ℕ) → t < T.tasks → (1 ≤ s.newest t) × (s.newest t ≤ less_urgent_readers T t + 2)
  pub previous : (t : ℕ) → t < T.tasks → (1 ≤ s.previous t) × (s.previous t ≤ less_urgent_readers T t + 2)
  pub pointer : (l : ℕ) → l < T.links → s.pointer l ≤ less_urgent_readers T (T.writer l) + 2
  pub present : (l : ℕ) → l < T.links → active h (T.reader l) ≡ true → 1 ≤ s.pointer l
  pub unused : (t p : ℕ) → t < T.tasks → less_urgent_readers T t + 2 < p → s.cell t p ≡ T.default t

-- "The saved state remembers whether a task has had no, one or more arrivals, and for each delayed link whether the reader's last arrival settled on the start
-- value. That mark goes when the pointer does."
pub record Remembered (T : Table ℕ) (h : List (Event ℕ)) (s : Boxes ℕ) : Type 0 where
  pub seen : (t : ℕ) → t < T.tasks → s.seen t ≡ min 2 (arrivals h t)
  pub mark : (l : ℕ) → l < T.links → (s.mark l ≡ true) ↔ ((T.delayed l ≡ true) × (had T h l < 2) × (1 ≤ s.pointer l))

-- "The state keeps the last tick, 0 when fresh, and each active job's arrival tick"
pub record Clocked (H : List (Timed ℕ)) (q : State) : Type 0 where
  pub last : last_in q ≡ last H
  pub since : (t : ℕ) → active (untimed H) t ≡ true → since_in q t ≡ since H t

-- state q and numbers ns are what the published protocol gives for the events es
pub record Published (T : Table ℕ) (es : List (Timed ℕ)) (ns : List ℕ) (q : State) : Type 0 where
  -- the events could happen on one processor
  pub possible : AllPossibleAt T (past [] es)
  -- "Every pointer, mailbox": by a run of the protocol over these events
  pub run : Run T (Lowest T) (boxes_in q) (past [] (untimed es))
  -- "is .. the one": no run of the protocol, with the lowest free position taken, gives others
  pub only : (s : Boxes ℕ) → Run T (Lowest T) s (past [] (untimed es)) → Same (boxes_in q) s
  -- "and number read"
  pub numbers : ns ≡ turned (published.numbers T run)
  -- "with at most two mailboxes more than a writer has less urgent readers"
  pub mailboxes : Mailboxes T (past [] (untimed es)) (boxes_in q)
  -- arrivals and marks, by the events
  pub remembered : Remembered T (past [] (untimed es)) (boxes_in q)
  -- and the ticks
  pub clocked : Clocked (past [] es) q
