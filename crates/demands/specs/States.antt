-- What a state of the code says. Here the demands meet the code's own state: what they say of it they say by these names.
-- Assumes nothing.
use Rattle.std.specs.Prelude.{◌≡◌, ℕ, eqb, set}
use Rattle.protocol.specs.Table.{Table}
use Rattle.protocol.specs.Published.{Boxes}
use Rattle.protocol_state.specs.Saved.{state_room, at, ahead_in, busy, table, boxes}
use Rattle.protocol_state.specs.Judge.{due_in}
use Rattle.protocol_state.specs.Sound.{StandsSound}
use Rattle.protocol_state.specs.Next.{with_pointer, with_mark}
use Rattle.mailbox.specs.States.{saved}
pub use Rattle.mailbox.specs.States.{IsWhole}
use Rattle.mailbox.specs.declared.State.{State}
use Rattle.demands.specs.Refusals.{Standing}

-- "A state is sound when its table keeps rules 2 to 9 and any table rule added later" (20, 24), "`newest` and `previous` lie in 1 to N + 2, each present
-- pointer does so for its writer, no pointer of an active reader is absent, and every pointer from a writer ahead of an idle reader is absent."; "a task
-- without arrivals is idle; the mark stands only at present pointers" of delayed links, "and at each whose writer has had fewer than two arrivals."; and
-- each phase, each count of arrivals (0, 1, 2), each mark (0, 1) and the policy (0, 1) is one of its kind, for there is no other; "no arrival tick" of an active
-- job "above the last tick and no tick above the limit", 0 for an idle task; under fixed priorities deadlines and ticks are 0
abbrev pub IsSound : State → Type 0
IsSound q = StandsSound state_room (saved q)

-- the table that it holds, with the order of its own tasks
abbrev pub table_in : State → Table ℕ
table_in q = table (ahead_in (saved q)) (saved q)

-- its positions, pointers and mailboxes, what is seen of arrivals, and its marks; where no position is (a pointer that is absent is 0) the task's default
-- stands for a mailbox, and no accepted read comes there, for the pointer of an active reader is never absent
abbrev pub boxes_in : State → Boxes ℕ
boxes_in q = boxes (saved q)

-- the state q' is q with the pointer p and the mark m of link l
abbrev pub OtherPointer : State → ℕ → ℕ → ℕ → State → Type 0
OtherPointer q l p m q' = saved q' ≡ with_mark (set (saved q).mark l m) (with_pointer (set (saved q).pointer l p) (saved q))

-- its policy: 0 fixed priorities, 1 earliest deadline first
abbrev pub policy_in : State → ℕ
policy_in q = (saved q).policy

-- its last tick, and the arrival tick of task t
abbrev pub last_in : State → ℕ
last_in q = (saved q).last

abbrev pub since_in : State → ℕ → ℕ
since_in q t = at (saved q).since t

-- how its tasks stand, by their phases: 0 idle, 1 waiting, 2 running; active is not idle; and by its ticks
abbrev pub standing_in : State → Standing
standing_in q = record {
  active = busy (saved q);
  waiting = λ t. eqb (at (saved q).phase t) 1;
  running = λ t. eqb (at (saved q).phase t) 2;
  due = due_in (saved q);
  last = last_in q;
}
