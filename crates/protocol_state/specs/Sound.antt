-- A sound state: what refusal 19 tests.
-- Assumes nothing.
use Rattle.std.specs.Prelude.{◌≡◌, Bool, true, cond, not, ◌&&◌, ◌||◌, List, ℕ, ◌+◌, ◌≤◌, ◌<◌, eqb, ltb, leb}
use Rattle.lists.specs.Lists.{every}
use Rattle.protocol.specs.Table.{N}
use Rattle.protocol.specs.Ranges.{Position}
use Rattle.protocol_deadlines.specs.Timed.{limit}
use Rattle.protocol_state.specs.Saved.{Size, Saved, at, delayed_kind, link_in, ahead_in, table, one_to}
use Rattle.protocol_state.specs.Rules.{judged_table, KeepsRules}

-- y is one of N + 2 positions
abbrev pub within : ℕ → ℕ → Bool
within N y = one_to (N + 2) y

-- a task with this phase, newest and previous, and N links to readers behind: one of the three phases, both positions in 1 to N + 2
abbrev pub task_is : ℕ → ℕ → ℕ → ℕ → Bool
task_is ph y z N = ltb ph 3 && (within N y && within N z)

-- what is seen of the arrivals of a task with this phase: no, one or more; "a task without arrivals is idle"
abbrev pub seen_is : ℕ → ℕ → Bool
seen_is ph a = ltb a 3 && (not (eqb a 0) || eqb ph 0)

-- the mark m of a link of kind k with pointer y, whose writer's arrivals are seen as a: at a present pointer of a delayed link it stands while a is below two,
-- and may stand or not from then on; elsewhere there is none
abbrev pub mark_is : ℕ → ℕ → ℕ → ℕ → Bool
mark_is k y a m = cond (delayed_kind k && leb 1 y) (cond (ltb a 2) (eqb m 1) (leb m 1)) (eqb m 0)

-- the arrivals of task t are so
abbrev pub seen_ok : Saved → ℕ → Bool
seen_ok q t = seen_is (at q.phase t) (at q.seen t)

-- the mark of link l is so
abbrev pub mark_ok : Saved → ℕ → Bool
mark_ok q l = mark_is (at q.kind l) (at q.pointer l) (at q.seen (at q.writer l)) (at q.mark l)

-- the arrival tick y of a task with this phase, where the last tick is z: up to it for an active job, 0 for an idle task
abbrev pub since_is : ℕ → ℕ → ℕ → Bool
since_is ph y z = leb y (cond (eqb ph 0) 0 z)

-- a relative deadline d under the policy p: fixed priorities have none, and else it is not 0 (rule 24)
abbrev pub deadline_is : ℕ → ℕ → Bool
deadline_is p d = cond (eqb p 0) (eqb d 0) (leb 1 d)

-- the arrival tick and the relative deadline of task t are so
abbrev pub time_ok : Saved → ℕ → Bool
time_ok q t = since_is (at q.phase t) (at q.since t) q.last && deadline_is q.policy (at q.deadline t)

-- policy, deadlines and ticks of T tasks with these phases: one of the two policies; "no arrival tick above the last tick and no tick above the limit", 0 for an
-- idle task; no relative deadline of 0 (rule 24); under fixed priorities neither deadlines nor ticks
pub record Timely (T : ℕ) (phase deadline since : List ℕ) (last policy : ℕ) : Type 0 where
  pub either : policy ≤ 1
  pub none_later : (t : ℕ) → t < T → at since t ≤ last
  pub idle : (t : ℕ) → t < T → at phase t ≡ 0 → at since t ≡ 0
  pub small : last ≤ limit
  pub dated : policy ≡ 1 → (t : ℕ) → t < T → 1 ≤ at deadline t
  pub undated : policy ≡ 0 → (t : ℕ) → t < T → at deadline t ≡ 0
  pub unclocked : policy ≡ 0 → last ≡ 0

-- one of the two policies, and the last tick: none under fixed priorities, and "no tick above the limit"
abbrev pub clock_is : ℕ → ℕ → Bool
clock_is p z = leb p 1 && leb z (cond (eqb p 0) 0 limit)

module _ (ahead : ℕ → ℕ → Bool) where
  -- task t is so
  abbrev pub task_ok : Saved → ℕ → Bool
  task_ok q t = task_is (at q.phase t) (at q.newest t) (at q.previous t) (N (table ahead q) t)

  -- the pointer y of a link from w to r, a reader with this phase: up to N + 2, absent at an idle reader behind its writer, present at an active one
  abbrev pub pointer_is : ℕ → ℕ → ℕ → ℕ → ℕ → Bool
  pointer_is w r y ph N = leb y (N + 2) && cond (eqb ph 0) (not (ahead w r) || eqb y 0) (leb 1 y)

  -- link l's pointer is so
  abbrev pub pointer_ok : Saved → ℕ → Bool
  pointer_ok q l =
      pointer_is (at q.writer l) (at q.reader l) (at q.pointer l) (at q.phase (at q.reader l)) (N (table ahead q) (at q.writer l))

  -- a task and a link are as they must be
  abbrev pub task_stands : Saved → ℕ → Bool
  task_stands q t = task_ok q t && (seen_ok q t && time_ok q t)

  abbrev pub link_stands : Saved → ℕ → Bool
  link_stands q l = pointer_ok q l && mark_ok q l

  -- the test: the table keeps rules 2 to 9 and 20, and the clock, each task and each link is as it must be
  unfoldable pub is_sound : Size → Saved → Bool
  is_sound size q =
      eqb (judged_table ahead q.tasks (link_in q) size q.links) 0
      && (clock_is q.policy q.last && (every (task_stands q) q.tasks && every (link_stands q) q.links))

  -- document 01's sentence: the table keeps rules 2 to 9 "and any table rule added later" (20; 24 is in `times`), newest and previous lie in 1 to N + 2, each
  -- present pointer does so for its writer, no pointer of an active reader is absent, and every pointer from a writer ahead of an idle reader is absent.
  -- `phase` says besides that a saved number is one of the three phases: the document knows no other. Document 02's: no, one or more arrivals, "a task
  -- without arrivals is idle"; a mark is there or not, "stands only at present pointers", of delayed links, "and at each whose writer has had fewer than two
  -- arrivals"; of policy and ticks `times`
  pub record Sound (size : Size) (q : Saved) : Type 0 where
    pub rules : KeepsRules ahead q.tasks (link_in q) size q.links
    pub phase : (t : ℕ) → t < q.tasks → at q.phase t < 3
    pub newest : (t : ℕ) → t < q.tasks → Position (table ahead q) t (at q.newest t)
    pub previous : (t : ℕ) → t < q.tasks → Position (table ahead q) t (at q.previous t)
    pub pointer : (l : ℕ) → l < q.links → at q.pointer l ≤ N (table ahead q) (at q.writer l) + 2
    pub present : (l : ℕ) → l < q.links → (at q.phase (at q.reader l) ≡ 0 → ⊥) → 1 ≤ at q.pointer l
    pub absent : (l : ℕ) → l < q.links → ahead (at q.writer l) (at q.reader l) ≡ true → at q.phase (at q.reader l) ≡ 0 → at q.pointer l ≡ 0
    pub seen : (t : ℕ) → t < q.tasks → at q.seen t < 3
    pub unseen : (t : ℕ) → t < q.tasks → at q.seen t ≡ 0 → at q.phase t ≡ 0
    pub mark : (l : ℕ) → l < q.links → at q.mark l ≤ 1
    pub held : (l : ℕ) → l < q.links → at q.mark l ≡ 1 → (delayed_kind (at q.kind l) ≡ true) × (1 ≤ at q.pointer l)
    pub early : (l : ℕ) → l < q.links → delayed_kind (at q.kind l) ≡ true → 1 ≤ at q.pointer l → at q.seen (at q.writer l) < 2 → at q.mark l ≡ 1
    pub times : Timely q.tasks q.phase q.deadline q.since q.last q.policy

-- the test and the sentence, by the order of the state's own tasks
abbrev pub tested_sound : Size → Saved → Bool
tested_sound size q = is_sound (ahead_in q) size q

abbrev pub StandsSound : Size → Saved → Type 0
StandsSound size q = Sound (ahead_in q) size q
