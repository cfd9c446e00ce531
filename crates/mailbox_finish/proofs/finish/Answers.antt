-- `mailbox_finish::finish` meets its contract: its two steps.
-- Assumes nothing.
use Rattle.mailbox_layout.specs.Layout.{state_of}
use Rattle.mailbox_layout.proofs.Fields.{cells_put}
use Rattle.mailbox_finish.proofs.Done.{finish_both}
use Rattle.mailbox_finish.proofs.finish.Goals as goal

pub returns : goal.returns
returns c ahead right T x = let p = c in
    let a = p.args in
    finish_both ahead a.t (state_of T _ a.control.now a.values.now x) a.v
    (cells_put T _ _ _ _ x (rw p.control_at.ensures at p.put_cell.ensures)) (c.release.ensures ahead right T _ x)
