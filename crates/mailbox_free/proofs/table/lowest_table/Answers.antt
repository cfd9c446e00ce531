-- `mailbox_free::table::lowest_table` meets its contract: the test is computed, at all patterns.
-- Assumes nothing.
use mathlib.Core.Path.{refl}
use Rattle.lists.specs.Lists.{first}
use Rattle.protocol.specs.Event.{has}
use Rattle.mailbox_free.proofs.Entries.{tested, all_lowest}
use Rattle.mailbox_free.proofs.table.lowest_table.Goals as goal

pub returns : goal.returns
unfolding first has tested
returns c = all_lowest _ refl refl
