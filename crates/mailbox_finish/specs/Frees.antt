-- What a finish and a start make of a state, step by step.
-- Assumes nothing.
use Rattle.std.specs.Prelude.{Bool, ℕ, set}
use Rattle.lists.specs.Lists.{upto}
use Rattle.protocol_state.specs.Saved.{Saved, at}
use Rattle.protocol_state.specs.Next.{with_phase, with_pointer, with_mark, freed_at, phases_after}

module _ (ahead : ℕ → ℕ → Bool) where
  -- as t finishes: what becomes of the pointer, or of the mark, x of link l
  abbrev pub freed_on : ℕ → Saved → ℕ → ℕ → ℕ
  freed_on t q = freed_at ahead t (at q.writer) (at q.reader)

  -- the pointer and the mark of link l
  abbrev pub freed_one : ℕ → ℕ → Saved → Saved
  freed_one t l q =
      with_mark (set q.mark l (freed_on t q l (at q.mark l))) (with_pointer (set q.pointer l (freed_on t q l (at q.pointer l))) q)

  -- and those of the first L links
  abbrev pub freed_first : ℕ → ℕ → Saved → Saved
  freed_first t L q = with_mark (upto (freed_on t q) L q.mark) (with_pointer (upto (freed_on t q) L q.pointer) q)

-- the next phase of task t, at an event of kind k
abbrev pub advanced : ℕ → ℕ → Saved → Saved
advanced k t q = with_phase (phases_after k t q.phase) q
