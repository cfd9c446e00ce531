-- `mailbox_give::give` meets its contract: unsound or with deadlines, no event, refused, or done.
-- Assumes nothing.
use mathlib.Core.Path.{◌≡◌, refl, ap}
use mathlib.Core.Bool.{not}
use native.Mathlib.Omega.{arith}
use Rattle.std.specs.Prelude.{Err}
use Rattle.refusals.proofs.Numbers.{number_not_0}
use Rattle.mailbox_layout.specs.Layout.{ahead_among}
use Rattle.mailbox_event.specs.declared.When.TheVariants.{Untimed}
use Rattle.mailbox_give.proofs.Ways.{heard_unsound, heard_none, heard_refused, heard_done}
use Rattle.mailbox_give.proofs.give.Goals as goal

pub returns-then-not-sound-entry_at-clause-answer : goal.returns-then-not-sound-entry_at-clause-answer
returns-then-not-sound-entry_at-clause-answer c = let a = c.args in
    heard_unsound a.tasks a.links a.control.now a.values.now a.times.now Untimed a.asked (c.is_sound-sound.ensures c.plan_of-plan.ensures) c.entry_at.ensures (ap not c.if-not-sound-entry_at.true)

pub returns-in_err-e-clause-answer : goal.returns-in_err-e-clause-answer
returns-in_err-e-clause-answer c = let a = c.args in
    let e : c.from_residual.result ≡ Err c.in_err-e.field-0.0 = grind arith in
    rw e (heard_none a.tasks a.links a.control.now a.values.now a.times.now Untimed a.asked (c.is_sound-sound.ensures c.plan_of-plan.ensures) c.entry_at.ensures (ap not c.if-not-sound-entry_at.false) c.in_err-e.was)

pub returns-in_err-judge_fixed-clause-answer : goal.returns-in_err-judge_fixed-clause-answer
returns-in_err-judge_fixed-clause-answer c = let a = c.args in
    let e : c.from_residual-in_err-judge_fixed.result ≡ Err c.in_err-judge_fixed.field-0.0 = grind arith in
    rw e (heard_refused a.tasks a.links a.control.now a.values.now a.times.now Untimed a.asked (c.is_sound-sound.ensures c.plan_of-plan.ensures) c.entry_at.ensures (ap not c.if-not-sound-entry_at.false) c.in_ok-e.was (c.in_err-judge_fixed.ensures 0 a.values.now a.times.now) (number_not_0 c.in_err-judge_fixed.field-0.0))

pub returns-clause-answer : goal.returns-clause-answer
returns-clause-answer c = let a = c.args in
    heard_done a.tasks a.links a.control.now a.values.now a.times.now Untimed a.asked (c.is_sound-sound.ensures c.plan_of-plan.ensures) c.entry_at.ensures (ap not c.if-not-sound-entry_at.false) c.in_ok-e.was
    (c.in_ok-judge_fixed.ensures 0 a.values.now a.times.now) _ _ _ refl (c.value_of-number.ensures a.tasks a.links a.times.now)
    (c.do_fixed.ensures.fixed (ahead_among a.times.now) c.plan_of-plan.ensures 0 a.times.now)
