-- `mailbox::State::judged` meets its contract: refused, or kept.
-- Assumes nothing.
use mathlib.Core.Path.{sym, ap, ◌∙◌}
use Rattle.refusals.specs.Numbers.{told}
use Rattle.refusals.proofs.Numbers.{number_not_0}
use Rattle.mailbox_rules.proofs.Front.{ranks_among}
use Rattle.mailbox.proofs.Makes.{from_refused, from_kept}
use Rattle.mailbox.proofs.State.judged.Goals as goal

pub returns-in-Err : goal.returns-in-Err
returns-in-Err c = rw c.from.ensures record {
  answer =
      from_refused c.args.self (c.judge_table-table.ensures.refusal _ (ranks_among _) c.plan_of-plan.ensures) (λ room. ap told (sym c.in-Err.is) ∙ c.then_dates.ensures room) c.single.result
      (number_not_0 c.in-Err.refusal) c.single.ensures.0;
  whole = c.single.ensures.1;
}

pub returns-in-Ok : goal.returns-in-Ok
returns-in-Ok c = record {
  answer =
      from_kept c.args.self (c.judge_table-table.ensures.refusal _ (ranks_among _) c.plan_of-plan.ensures) c.then_dates.ensures c.itself.result c.itself.ensures.same (ap told c.in-Ok.is);
  whole = c.itself.ensures.whole;
}
