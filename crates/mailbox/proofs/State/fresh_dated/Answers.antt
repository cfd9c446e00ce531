-- `mailbox::State::fresh_dated` meets its contract: the times are those of its tasks, and what a table makes is sound.
-- Assumes nothing.
use Rattle.protocol_state.specs.Records.{first_tasks}
use Rattle.protocol_state.proofs.Freshes.{dated_policed}
use Rattle.mailbox.proofs.Makes.{makes_sound}
use Rattle.mailbox.proofs.State.fresh_dated.Goals as goal

pub returns : goal.returns
returns c = let a = c.args in
    let made = c.of_table.ensures 1 a.deadlines (c.times_of.ensures a.defaults) in
    record {
      answer = made;
      sound = makes_sound 1 a.tasks a.links a.defaults a.deadlines a.writer a.reader a.kind a.start_value (dated_policed (first_tasks a.tasks a.defaults a.deadlines)) _ made.answer;
    }
