-- Refusals 12 to 16 and 21 to 23 of a sound state, in the order in which they are tried; 0 is none. T and L count tasks and links, ph are the phases, R the
-- links' readers.
-- Who judges what, from the mathematics down to the replay; that they agree is shown where the lower one stands:
--   judged, judgedAt (protocol, protocol_deadlines)   an event, at a tick, by the table and the history of accepted events: no state
--   judgedTable   (here, Rules)      a table: 2 to 9 and 20; judgedLists (Fresh), with 24, by its lists of tasks and links
--   judgedArrival, judgedTask, judgedRead   an event's parts, by phases; judgedEvent: an event, by which of the three it is
--   judgedOn                         an event given to a saved state; judgedOnAt: at a tick, with 21 to 23
--   judgedAlone   (recording_core)   judgedOnAt by the state's own order, for the writer, which has no list
--   judgedIn      (recording_core)   an event of a recording: judgedAlone, then 18 for want of room
--   settingJudged (settings_entry)   an entry of a settings list: 26
-- Assumes nothing.
use Rattle.std.specs.Prelude.{Bool, cond, not, ◌&&◌, ◌||◌, ℕ, ◌+◌, ◌^◌, eqb, ltb, leb}
use Rattle.lists.specs.Lists.{some, every}
use Rattle.protocol.specs.Event.{Event, arrival, start, read, finish, has}
use Rattle.protocol_deadlines.specs.Deadline.{smaller}
use Rattle.protocol_deadlines.specs.Timed.{tried}
use Rattle.protocol_state.specs.Records.{earlier}
use Rattle.protocol_state.specs.Saved.{Saved, at, active_phase}
use Rattle.protocol_state.specs.Decision.{decided}

-- a decision is the next phase (0 to 2), and no refusal (13 to 15)
abbrev pub allows : ℕ → Bool
allows d = ltb d 12

-- task t may arrive with the set s: it is not in it, or its phase allows it
abbrev pub may_arrive : ℕ → (ℕ → ℕ) → ℕ → Bool
may_arrive s ph t = not (has s t) || allows (decided 0 (ph t))

-- an arrival: 12 for an empty set or a task not in the table, 13 for an active task
unfoldable pub judged_arrival : ℕ → ℕ → (ℕ → ℕ) → ℕ
judged_arrival s T ph = cond (eqb s 0 || leb (2 ^ T) s) 12 (cond (every (may_arrive s ph) T) 0 13)

-- `before u t`: the job of task u goes before that of task t
module _ (before : ℕ → ℕ → Bool) where
  -- a job that goes before that of t is active
  abbrev pub preempted : ℕ → ℕ → (ℕ → ℕ) → Bool
  preempted t T ph = some (λ u. before u t && active_phase (ph u)) T

  -- an event of kind k by task t: 12 for no such task, 14 or 15 as its phase decides, 16 while a job that goes before its own is active
  unfoldable pub judged_task : ℕ → ℕ → ℕ → (ℕ → ℕ) → ℕ
  judged_task k t T ph =
      cond (leb T t) 12 (cond (allows (decided k (ph t))) (cond (preempted t T ph) 16 0) (decided k (ph t)))

  -- a read by link l: 12 for no such link; its reader is the task that reads
  unfoldable pub judged_read : ℕ → ℕ → ℕ → (ℕ → ℕ) → (ℕ → ℕ) → ℕ
  judged_read l T L R ph = cond (leb L l) 12 (judged_task 2 (R l) T ph)

  -- the refusal of an event
  abbrev pub judged_event : Event ℕ → ℕ → ℕ → (ℕ → ℕ) → (ℕ → ℕ) → ℕ
  judged_event (arrival s) T L R ph = judged_arrival s T ph
  judged_event (start t) T L R ph = judged_task 1 t T ph
  judged_event (read l) T L R ph = judged_read l T L R ph
  judged_event (finish t v) T L R ph = judged_task 3 t T ph

-- when task t's job is due: the tick of its arrival, and its relative deadline
abbrev pub due_in : Saved → ℕ → ℕ
due_in q t = at q.since t + at q.deadline t

-- 23 where a finish comes after that
abbrev pub late_in : Saved → ℕ → Event ℕ → ℕ
late_in q x (arrival s) = 0
late_in q x (start t) = 0
late_in q x (read l) = 0
late_in q x (finish t v) = cond (ltb (due_in q t) x) 23 0

module _ (ahead : ℕ → ℕ → Bool) where
  -- the job of task u goes before that of task t: it is due earlier, "ties by that order of tasks". Under fixed priorities, where all ticks and deadlines are
  -- 0, that is the order of the table (`sooner_both`), and it is asked for at once
  unfoldable pub sooner_in : Saved → ℕ → ℕ → Bool
  sooner_in q u t = cond (eqb q.policy 0) (earlier u t) (smaller (due_in q u) (due_in q t) (ahead u t))

  -- the refusal of an event given to a saved state, ticks left aside: 12 to 16
  abbrev pub judged_on : Saved → Event ℕ → ℕ
  judged_on q e = judged_event (sooner_in q) e q.tasks q.links (at q.reader) (at q.phase)

  -- and at tick x. Under fixed priorities no tick is looked at: on a sound state and at tick 0 that is the same (`judged_both`)
  unfoldable pub judged_on_at : Saved → ℕ → Event ℕ → ℕ
  judged_on_at q x e = cond (eqb q.policy 0) (judged_on q e) (tried (judged_on q e) q.last x (late_in q x e))
