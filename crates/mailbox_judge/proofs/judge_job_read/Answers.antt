-- `mailbox_judge::judge_job_read` meets its contract: outside the table, and inside it.
-- Assumes nothing.
use mathlib.Core.Path.{◌≡◌}
use native.Mathlib.Omega.{arith}
use Rattle.std.specs.Prelude.{Err}
use Rattle.refusals.specs.declared.Refusal.TheVariants.{Outside}
use Rattle.mailbox_judge.proofs.Judged.{read_outside, read_inside}
use Rattle.mailbox_judge.proofs.judge_job_read.Goals as goal

pub returns-in_err-reader : goal.returns-in_err-reader
returns-in_err-reader c =
    let e : c.from_residual.result ≡ Err Outside = grind arith in
    rw e (read_outside _ _ _ _ _ _ c.in_err-reader.ensures.0)

pub returns : goal.returns
returns c = read_inside _ _ _ _ _ _ c.in_ok-reader.ensures.0 (rw (← c.in_ok-reader.ensures.1) c.judge_job.ensures)
