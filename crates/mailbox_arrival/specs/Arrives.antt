-- What an arrival makes of a state, step by step: the writers' part task by task, then the readers' part link by link.
-- Assumes nothing.
use Rattle.std.specs.Prelude.{Bool, ℕ, set}
use Rattle.lists.specs.Lists.{upto}
use Rattle.protocol_state.specs.Saved.{Saved, at}
use Rattle.protocol_state.specs.Next.{with_phase, with_newest, with_previous, with_seen, with_pointer, with_mark, previous_at, seen_at, newest_at, pointer_at, mark_at, phase_at}

-- what the arrival of the set s makes of task t's previous x, in the state q
abbrev pub previous_on : ℕ → Saved → ℕ → ℕ → ℕ
previous_on s q = previous_at s (at q.newest)

-- and of link l's pointer x
abbrev pub pointer_on : ℕ → Saved → ℕ → ℕ → ℕ
pointer_on s q = pointer_at s (at q.writer) (at q.reader) (at q.kind) (at q.newest) (at q.previous)

-- and of its mark x
abbrev pub mark_on : ℕ → Saved → ℕ → ℕ → ℕ
mark_on s q = mark_at s (at q.writer) (at q.reader) (at q.kind) (at q.seen)

module _ (ahead : ℕ → ℕ → Bool) where
  -- and of task t's newest x
  abbrev pub newest_on : ℕ → Saved → ℕ → ℕ → ℕ
  newest_on s q = newest_at ahead s (at q.writer) (at q.reader) (at q.pointer) q.links

  -- the writers' part for task t
  abbrev pub moved_at : ℕ → ℕ → Saved → Saved
  moved_at s t q =
      with_phase (set q.phase t (phase_at s t (at q.phase t)))
      (with_seen (set q.seen t (seen_at s t (at q.seen t)))
      (with_newest (set q.newest t (newest_on s q t (at q.newest t))) (with_previous (set q.previous t (previous_on s q t (at q.previous t))) q)))

  -- and for the first T tasks
  abbrev pub moved : ℕ → ℕ → Saved → Saved
  moved s T q =
      with_phase (upto (phase_at s) T q.phase)
      (with_seen (upto (seen_at s) T q.seen) (with_newest (upto (newest_on s q) T q.newest) (with_previous (upto (previous_on s q) T q.previous) q)))

-- the readers' part for link l: its pointer and its mark
abbrev pub pointed_at : ℕ → ℕ → Saved → Saved
pointed_at s l q =
    with_mark (set q.mark l (mark_on s q l (at q.mark l))) (with_pointer (set q.pointer l (pointer_on s q l (at q.pointer l))) q)

-- and for the first L links
abbrev pub pointed : ℕ → ℕ → Saved → Saved
pointed s L q = with_mark (upto (mark_on s q) L q.mark) (with_pointer (upto (pointer_on s q) L q.pointer) q)
