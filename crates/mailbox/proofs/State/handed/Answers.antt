-- `mailbox::State::handed` meets its contract: the arrays are lent to `give` or `give_at`, and what they then hold is the reply's state.
-- Assumes nothing.
use mathlib.Core.Path.{◌≡◌}
use borrow.Author.Rules.{rules}
use Rattle.std.specs.Result.{result_unwrap_or}
use Rattle.refusals.specs.Numbers.{told}
use Rattle.protocol_state.specs.Saved.{state_room}
use Rattle.protocol_state.specs.Give.{reply, given_to}
use Rattle.mailbox_event.specs.Plain.{call_of}
use Rattle.mailbox.specs.States.{saved, Gives}
use Rattle.mailbox.proofs.Makes.{same_reply, stays}
use Rattle.mailbox.proofs.State.handed.Goals as goal
use Rattle.mailbox.proofs.State.handed.Goals.{in-Untimed, in-At}

pub returns : goal.returns
returns c = let m = c in
    let a = m in
    let q = a.args.self in
    let given : reply (saved m.match-when.self) (told m.match-when.given) (result_unwrap_or m.match-when.given 0)
    ≡ given_to state_room (saved q) (call_of a.args.when a.args.e) =
    elim m.match-when.branch [
      | in-Untimed w ↦ rw (w.self-is, w.given-is, w.in-Untimed.is) w.give-given.ensures.answer
      | in-At w ↦ rw (w.self-is, w.given-is, w.in-At.is) w.give_at-given.ensures.answer
    ] in
    let d : Gives q (call_of a.args.when a.args.e) _ = record {
      answer = same_reply c.itself-state.result _ c.itself-state.ensures.same (rw (c.from.ensures.0, c.from.ensures.1) given);
      lent = search rules;
      whole = c.itself-state.ensures.whole;
    } in
    record {
      answer = d;
      sound = stays q (call_of a.args.when a.args.e) d;
    }
