-- The code's state as the protocol's saved state, and what each call answers.
-- Assumes nothing.
use Rattle.std.specs.Prelude.{◌≡◌, Bool, true, cond, not, ◌&&◌, List, ℕ, eqb}
use Rattle.lists.specs.Lists.{some}
use Rattle.protocol_state.specs.Records.{first_tasks, first_links}
use Rattle.protocol_state.specs.Saved.{Saved, state_room, at, ahead_in, link_in}
use Rattle.protocol_state.specs.Rules.{judged_table}
use Rattle.protocol_state.specs.Sound.{tested_sound}
use Rattle.protocol_state.specs.Give.{Reply, reply, Call, given_to}
use Rattle.protocol_state.specs.Fresh as fresh
use Rattle.protocol_state.specs.Fresh.{then_dates}
use Rattle.mailbox_layout.specs.Layout.{state_of, HasLengths}
use Rattle.mailbox.specs.declared.State.{State}
use Rattle.mailbox.specs.declared.Step.{Step}
use Rattle.mailbox.specs.declared.Made.{Made}

-- the code's state as the protocol's saved state
abbrev pub saved : State → Saved
saved q = state_of q.tasks q.links q.control q.values q.times

-- its arrays have their lengths, as in every state that the code holds, for an array's length is its type: so nothing of it lies outside what `saved` sees
abbrev pub IsWhole : State → Type 0
IsWhole q = HasLengths q.control q.values q.times

-- what an event hands back, as the protocol's reply
abbrev pub reply_of : Step → Reply
reply_of r = reply (saved r.state) r.answer.refusal r.answer.value

-- what a table makes, as the protocol has it
abbrev pub made_of : Made → fresh.Made
made_of m = record { refusal = m.refusal; state = saved m.state }

-- the refusal of the table of a state, by the order of its own tasks, and what the table makes, if nothing has happened in the state
abbrev pub judged_from : Saved → ℕ
judged_from q =
    then_dates (judged_table (ahead_in q) q.tasks (link_in q) state_room q.links)
    (not (eqb q.policy 0) && some (λ t. eqb (at q.deadline t) 0) q.tasks)

abbrev pub made_from : Saved → fresh.Made
made_from q = cond (eqb (judged_from q) 0) (record { refusal = 0; state = q }) (record { refusal = judged_from q; state = fresh.single state_room })

-- the call c on the state q, by `arrival`, `start`, `read`, `finish` or `event`, or one of those at a tick, is answered r; q is any state whose arrays have
-- their lengths
pub record Gives (q : State) (c : Call) (r : Step) : Type 0 where
  pub answer : reply_of r ≡ given_to state_room (saved q) c
  pub lent : IsWhole q
  pub whole : IsWhole r.state

-- `State::fresh`, under the policy 0, and `State::fresh_dated`, under 1, answer m to T tasks with the defaults D and the relative deadlines X, none under fixed
-- priorities, and L links with the writers W, the readers R, the kinds K and the start values B
pub record Makes (p T L : ℕ) (D X W R K B : List ℕ) (m : Made) : Type 0 where
  pub answer : made_of m ≡ fresh.made state_room p (first_tasks T D X) (first_links L W R K B)
  pub whole : IsWhole m.state

-- whether it passes the test of soundness
abbrev pub passing : State → Bool
passing q = tested_sound state_room (saved q)

-- a sound state stays sound
abbrev pub StaysSound : State → Step → Type 0
StaysSound q r = passing q ≡ true → passing r.state ≡ true
