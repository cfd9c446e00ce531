-- `mailbox_call::ask` meets its contract: each kind by its case.
-- Assumes nothing.
use mathlib.Core.Path.{◌≡◌, ap}
use native.Mathlib.Omega.{arith}
use borrow.Author.Tests.{ne_eqb}
use Rattle.std.specs.Prelude.{Err}
use Rattle.refusals.specs.declared.Refusal.TheVariants.{Outside}
use Rattle.protocol_state.specs.Saved.{state_room}
use Rattle.protocol_state.specs.Give.{given_to}
use Rattle.mailbox_call.specs.Calls.{requested}
use Rattle.mailbox_call.proofs.Far.{given_over, start_far, read_far, finish_far}
use Rattle.mailbox_call.proofs.ask.Goals as goal

pub returns-in-1 : goal.returns-in-1
unfolding requested
returns-in-1 c w q = rw c.in-1.is (ap (given_to state_room q) (given_over w _))

pub returns-in_ok-named-in-2 : goal.returns-in_ok-named-in-2
unfolding requested
returns-in_ok-named-in-2 c w q = rw (c.in-2.is, ← c.in_ok-named-in-2.ensures) (ap (given_to state_room q) (given_over w _))

pub returns-in_err-named-in-2 : goal.returns-in_err-named-in-2
unfolding requested
returns-in_err-named-in-2 c w q =
    let e : c.from_residual.result ≡ Err Outside = grind arith in
    rw (e, c.in-2.is) (start_far w q c.args.which c.in_err-named-in-2.ensures.1)

pub returns-in_ok-named-in-3 : goal.returns-in_ok-named-in-3
unfolding requested
returns-in_ok-named-in-3 c w q = rw (c.in-3.is, ← c.in_ok-named-in-3.ensures) (ap (given_to state_room q) (given_over w _))

pub returns-in_err-named-in-3 : goal.returns-in_err-named-in-3
unfolding requested
returns-in_err-named-in-3 c w q =
    let e : c.from_residual-in_err-named-in-3.result ≡ Err Outside = grind arith in
    rw (e, c.in-3.is) (read_far w q c.args.which c.in_err-named-in-3.ensures.1)

pub returns-in_ok-named-in-4 : goal.returns-in_ok-named-in-4
unfolding requested
returns-in_ok-named-in-4 c w q = rw (c.in-4.is, ← c.in_ok-named-in-4.ensures) (ap (given_to state_room q) (given_over w _))

pub returns-in_err-named-in-4 : goal.returns-in_err-named-in-4
unfolding requested
returns-in_err-named-in-4 c w q =
    let e : c.from_residual-in_err-named-in-4.result ≡ Err Outside = grind arith in
    rw (e, c.in-4.is) (finish_far w q c.args.which c.in_err-named-in-4.ensures.1 c.args.value)

pub returns-in_default : goal.returns-in_default
unfolding requested
returns-in_default c w q =
    let k = c.args.kind in
    rw (ne_eqb k 1 (omega arith), ne_eqb k 2 (omega arith), ne_eqb k 3 (omega arith), ne_eqb k 4 (omega arith))
