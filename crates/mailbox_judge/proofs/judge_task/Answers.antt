-- `mailbox_judge::judge_task` meets its contract: the tasks that go before are those before it.
-- Assumes nothing.
use Rattle.std.proofs.Common.{rules}
use Rattle.protocol_state.specs.Saved.{at}
use Rattle.protocol_state.specs.Records.{earlier}
use Rattle.mailbox_layout.specs.Layout.{phase_in}
use Rattle.mailbox_judge.proofs.Judged.{waits_before}
use Rattle.mailbox_judge.proofs.judge_task.Goals as goal

pub returns : goal.returns
returns c = c.judge_by.ensures earlier (λ l b p. waits_before _ _ (at (phase_in c.args.control.now)) l (search rules))
