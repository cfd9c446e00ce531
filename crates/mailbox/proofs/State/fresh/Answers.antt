-- `mailbox::State::fresh` meets its contract: the times are those of tasks without relative deadlines, and what a table makes is sound.
-- Assumes nothing.
use mathlib.Core.Path.{◌∙◌}
use mathlib.Core.List.{[]}
use Prim.Native.Nat.{min}
use Rattle.protocol_state.specs.Saved.{state_room}
use Rattle.protocol_state.proofs.Freshes.{plain_policed}
use Rattle.mailbox.proofs.Filling.{no_dates}
use Rattle.mailbox.proofs.Makes.{makes_sound}
use Rattle.mailbox.proofs.State.fresh.Goals as goal

pub returns : goal.returns
returns c = let a = c.args in
    let made = c.of_table.ensures 0 [] (c.fresh_times.ensures ∙ no_dates 0 a.defaults (min a.tasks state_room.tasks)) in
    record {
      answer = made;
      sound = makes_sound 0 a.tasks a.links a.defaults [] a.writer a.reader a.kind a.start_value (plain_policed a.tasks a.defaults) _ made.answer;
    }
