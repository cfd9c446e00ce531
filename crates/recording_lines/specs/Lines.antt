-- The lines of the printouts.
-- Assumes nothing.
use Rattle.std.specs.Prelude.{cond, List, [], ◌∷◌, ◌++◌, ℕ, eqb, take}
use Rattle.text_line.specs.Numeral.{number}
use Rattle.text_line.specs.Shown.{line_of}
use Rattle.recording_lines.specs.Words.{
  text_absent,
  text_accepted,
  text_at,
  text_cells,
  text_counts,
  text_had_0,
  text_had_1,
  text_had_2,
  text_had_unknown,
  text_idle,
  text_last,
  text_link,
  text_mark,
  text_mark_unknown,
  text_newest,
  text_place,
  text_pointer,
  text_previous,
  text_read,
  text_refusal,
  text_refused,
  text_rest,
  text_running,
  text_since,
  text_unknown,
  text_task,
  text_waiting,
}
use Rattle.recording_lines.specs.declared.Task.{Task}

-- a space and a number for each
unfoldable pub numbers : List ℕ → List ℕ
numbers [] = []
numbers (n ∷ ns) = number n ++ numbers ns

-- a word and a number
abbrev pub named : List ℕ → ℕ → List ℕ
named word n = line_of (word ∷ number n ∷ [])

-- `accepted E`
abbrev pub accepted_line : ℕ → List ℕ
accepted_line = named text_accepted

-- `refusal N`
abbrev pub refusal_line : ℕ → List ℕ
refusal_line = named text_refusal

-- `place N`
abbrev pub place_line : ℕ → List ℕ
place_line = named text_place

-- `rest N`
abbrev pub rest_line : ℕ → List ℕ
rest_line = named text_rest

-- `last N`
abbrev pub last_line : ℕ → List ℕ
last_line = named text_last

-- `read L V`
abbrev pub read_line : ℕ → ℕ → List ℕ
read_line link value = line_of (text_read ∷ number link ∷ number value ∷ [])

-- `refused N at P`
abbrev pub refused_line : ℕ → ℕ → List ℕ
refused_line refusal place = line_of (text_refused ∷ number refusal ∷ text_at ∷ number place ∷ [])

-- `counts A S R F`
abbrev pub counts_line : ℕ → ℕ → ℕ → ℕ → List ℕ
counts_line a s r f = line_of (text_counts ∷ number a ∷ number s ∷ number r ∷ number f ∷ [])

-- a phase: 0 idle, 1 waiting, 2 running; another number is no phase
unfoldable pub phase : ℕ → List ℕ
phase p = cond (eqb p 1) text_waiting (cond (eqb p 2) text_running (cond (eqb p 0) text_idle text_unknown))

-- what is seen of a task's arrivals: 0, 1 or 2 for no, one or more; no other number is
unfoldable pub had_word : ℕ → List ℕ
had_word a = cond (eqb a 0) text_had_0 (cond (eqb a 1) text_had_1 (cond (eqb a 2) text_had_2 text_had_unknown))

-- ` since N`, of a task that is not idle in a table with deadlines; else nothing
unfoldable pub since_word : ℕ → ℕ → ℕ → List ℕ
since_word policy p tick = cond (eqb policy 0) [] (cond (eqb p 0) [] (text_since ++ number tick))

-- `task T PHASE newest P previous P cells V V .. had A`, with ten cells at most; with deadlines and not idle, `since N` behind it
abbrev pub task_line : Task → List ℕ → List ℕ
task_line t cells =
    line_of
    (text_task ∷ number t.number ∷ phase t.phase ∷ text_newest ∷ number t.newest ∷ text_previous ∷ number t.previous ∷ text_cells ∷ numbers (take 10 cells) ∷ had_word t.seen ∷ since_word t.policy t.phase t.since ∷ [])

-- a pointer, of which 0 is absent
unfoldable pub pointer : ℕ → List ℕ
pointer p = cond (eqb p 0) text_absent (number p)

-- a mark: 0 is none, 1 there; no other number is one
unfoldable pub mark : ℕ → List ℕ
mark m = cond (eqb m 0) [] (cond (eqb m 1) text_mark text_mark_unknown)

-- `link L pointer P`, `link L pointer P mark`, `link L pointer absent`
abbrev pub link_line : ℕ → ℕ → ℕ → List ℕ
link_line l p m = line_of (text_link ∷ number l ∷ text_pointer ∷ pointer p ∷ mark m ∷ [])
