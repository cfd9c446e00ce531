-- `mailbox_finish::release` meets its contract: its two steps.
-- Assumes nothing.
use Rattle.mailbox_layout.specs.Layout.{state_of}
use Rattle.mailbox_finish.proofs.Done.{release_both}
use Rattle.mailbox_finish.proofs.release.Goals as goal

pub returns : goal.returns
returns c ahead right T v x = let f = c in
    let a = f.args in
    rw (← f.few.ensures)
    (release_both ahead a.t (state_of T f.few.result a.control.now v x) (c.free_links.ensures ahead (rw f.few.ensures right) T _ v x) (c.advance.ensures T _ v x))
