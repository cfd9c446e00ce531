-- The tests of a task and of a link by what is at hand: the counts of links to readers behind, and the flags of the plan.
-- Assumes nothing.
use Rattle.std.specs.Prelude.{Bool, cond, not, ◌&&◌, ◌||◌, List, [], ℕ, ◌+◌, eqb, leb}
use Rattle.protocol_state.specs.Saved.{Saved, at}
use Rattle.protocol_state.specs.Sound.{task_is, seen_ok, time_ok, mark_ok}
use Rattle.mailbox_layout.specs.Layout.{state_of}
use Rattle.mailbox_plan.specs.Plan.{is_flagged}

-- the state as they see it, by its control and its times
abbrev pub in_arrays : List ℕ → List ℕ → Saved
in_arrays c x = state_of 0 0 c [] x

-- the pointer y of a link, to a reader behind or not, where the reader has this phase and the writer N links to readers behind
abbrev pub pointer_by : Bool → ℕ → ℕ → ℕ → Bool
pointer_by behind y ph N = leb y (N + 2) && cond (eqb ph 0) (not behind || eqb y 0) (leb 1 y)

module _ (counts : List ℕ) where
  -- task t
  abbrev pub task_by : Saved → ℕ → Bool
  task_by q t = task_is (at q.phase t) (at q.newest t) (at q.previous t) (at counts t) && (seen_ok q t && time_ok q t)

  -- link l
  abbrev pub link_by : List ℕ → Saved → ℕ → Bool
  link_by plan q l = pointer_by (is_flagged plan l) (at q.pointer l) (at q.phase (at q.reader l)) (at counts (at q.writer l)) && mark_ok q l
