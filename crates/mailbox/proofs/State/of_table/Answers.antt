-- `mailbox::State::of_table` meets its contract: the arrays hold the table, and what they make is what the table makes.
-- Assumes nothing.
use mathlib.Core.Path.{◌∙◌}
use Prim.Native.Nat.{min}
use Rattle.protocol_state.specs.Records.{first_tasks}
use Rattle.protocol_state.specs.Saved.{state_room}
use Rattle.mailbox.proofs.Makes.{made_from_lem}
use Rattle.mailbox.proofs.State.of_table.Goals as goal

pub returns : goal.returns
returns c p X dated = let o = c in
    let a = o.args in
    let D = a.defaults.now in
    let h = c.put_links.ensures.control o.fresh_control-control.ensures in
    let v = c.put_links.ensures.values (first_tasks (min a.tasks state_room.tasks) D X) (o.values_of-values.ensures X) in
    record {
      answer = c.judged.ensures.answer ∙ made_from_lem p a.tasks a.links D X a.writer.now a.reader.now a.kind.now a.start_value.now _ _ _ h v dated;
      whole = c.judged.ensures.whole;
    }
