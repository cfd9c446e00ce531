-- `mailbox_judge::judge_arrival` meets its contract: a set has a bit from `tasks` on where the shift leaves one.
-- Assumes nothing.
use mathlib.Core.Path.{refl}
use Rattle.mailbox_judge.proofs.Judged.{arrival_judged}
use Rattle.mailbox_judge.proofs.judge_arrival.Goals as goal

pub returns-then-set-from : goal.returns-then-set-from
returns-then-set-from c = rw (← c.few-n.ensures) (arrival_judged _ _ _ (rw c.from.ensures at c.if-set-from.true) refl refl)

pub returns-then-not-all_may : goal.returns-then-not-all_may
returns-then-not-all_may c = rw (← c.few-n.ensures) (arrival_judged _ _ _ (rw c.from.ensures at c.if-set-from.false) c.all_may.ensures (rw c.if-not-all_may.true))

pub returns : goal.returns
returns c = rw (← c.few-n.ensures) (arrival_judged _ _ _ (rw c.from.ensures at c.if-set-from.false) c.all_may.ensures (rw c.if-not-all_may.false))
