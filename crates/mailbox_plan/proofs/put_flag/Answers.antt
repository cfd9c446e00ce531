-- `mailbox_plan::put_flag` meets its contract: past the room the plan has ended.
-- Assumes nothing.
use mathlib.Core.Path.{sym}
use native.Mathlib.Omega.{arith}
use lib.Seq.{set_out}
use Rattle.mailbox_plan.proofs.put_flag.Goals as goal

pub returns-else-l-lt-LINKS : goal.returns-else-l-lt-LINKS
returns-else-l-lt-LINKS c = sym (set_out _ _ _ (omega arith))
