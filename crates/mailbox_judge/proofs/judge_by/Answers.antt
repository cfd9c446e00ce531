-- `mailbox_judge::judge_by` meets its contract: outside the table, and inside it, by its phase and then by who goes before.
-- Assumes nothing.
use mathlib.Core.Path.{◌≡◌, sym}
use native.Mathlib.Omega.{arith}
use Rattle.std.specs.Prelude.{Err}
use Rattle.mailbox_judge.proofs.Judged.{judged_outside, judged_refused, judged_allowed}
use Rattle.mailbox_judge.proofs.judge_by.Goals as goal

pub returns-then-few-i : goal.returns-then-few-i
returns-then-few-i g c before says = rw (← c.few.ensures) (judged_outside _ _ _ _ _ (omega arith))

pub returns-in_err-decide : goal.returns-in_err-decide
returns-in_err-decide g c before says =
    let e : c.from_residual.result ≡ Err c.in_err-decide.field-0.0 = grind arith in
    let phase = rw c.from-i.ensures at c.control_at.ensures in
    rw (e, ← c.few.ensures) (judged_refused _ _ _ _ _ (omega arith) phase (sym c.in_err-decide.ensures.0) c.in_err-decide.ensures.1)

pub returns-then-waits : goal.returns-then-waits
returns-then-waits g c before says =
    let phase = rw c.from-i.ensures at c.control_at.ensures in
    let wait = rw (← c.few.ensures) at says (omega arith) _ (rw c.from-i.ensures at c.waits.ensures) in
    rw (← c.few.ensures) (judged_allowed _ _ _ _ _ (omega arith) phase (sym c.in_ok-decide.ensures.0) c.in_ok-decide.ensures.1 wait (rw c.if-waits.true))

pub returns : goal.returns
returns g c before says =
    let phase = rw c.from-i.ensures at c.control_at.ensures in
    let wait = rw (← c.few.ensures) at says (omega arith) _ (rw c.from-i.ensures at c.waits.ensures) in
    rw (← c.few.ensures) (judged_allowed _ _ _ _ _ (omega arith) phase (sym c.in_ok-decide.ensures.0) c.in_ok-decide.ensures.1 wait (rw c.if-waits.false))
