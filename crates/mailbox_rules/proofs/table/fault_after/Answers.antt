-- `mailbox_rules::table::fault_after` meets its contract: what the calls ensure, put together.
-- Assumes nothing.
use Rattle.mailbox_layout.specs.Layout.{ahead_among}
use Rattle.mailbox_rules.proofs.Front.{ranks_among}
use Rattle.mailbox_rules.proofs.table.fault_after.Goals as goal

pub returns : goal.returns
returns c plan b = let n = c in
    let t = n in
    let times = t.args.times.now in
    rw (
      c.fault_of.ensures (ahead_among times) (ranks_among times) c.is_ahead-behind.ensures,
      n.readers_behind-count.ensures.count (ahead_among times) plan,
      t.has_pair-twice.ensures,
    )
