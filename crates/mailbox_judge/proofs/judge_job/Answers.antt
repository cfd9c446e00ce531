-- `mailbox_judge::judge_job` meets its contract: the jobs that go before are those that are due earlier.
-- Assumes nothing.
use Rattle.std.proofs.Common.{rules}
use Rattle.mailbox_layout.specs.Layout.{sooner_among}
use Rattle.mailbox_judge.proofs.judge_job.Goals as goal

pub returns : goal.returns
returns c = c.judge_by.ensures (sooner_among c.args.times.now) (λ l b p. (search rules))
