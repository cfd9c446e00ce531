-- `mailbox_finish::free_link` meets its contract: the pointer and the mark are put as a finish leaves them.
-- Assumes nothing.
use Rattle.mailbox_layout.specs.Layout.{state_of}
use Rattle.mailbox_layout.proofs.Fields.{pointer_put, mark_put}
use Rattle.mailbox_plan.proofs.Plans.{flag_to}
use Rattle.mailbox_finish.proofs.Done.{freed_link}
use Rattle.mailbox_finish.proofs.free_link.Goals as goal

pub returns : goal.returns
returns c ahead n right l T L v x = let f = c in
    let p = f in
    let b = p in
    let r = b in
    let a = r.args in
    let gone = flag_to a.l a.t right l in
    freed_link ahead a.t a.l (state_of T L a.control.now v x)
    (rw (r.control_at-r.ensures, b.flag_is_one-behind.ensures, p.control_at.ensures, gone) at p.freed_at-x.ensures)
    (rw (r.control_at-r.ensures, b.flag_is_one-behind.ensures, f.control_at-2.ensures, gone) at f.freed_at-m.ensures)
    (pointer_put T L _ _ v x c.put_control.ensures) (mark_put T L _ _ v x c.put_control-2.ensures)
