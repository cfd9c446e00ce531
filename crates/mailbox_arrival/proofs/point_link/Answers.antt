-- `mailbox_arrival::point_link` meets its contract: by whether the link's reader is in the set.
-- Assumes nothing.
use mathlib.Core.Path.{ap}
use mathlib.Core.Bool.{not}
use Rattle.mailbox_layout.specs.Layout.{state_of}
use Rattle.mailbox_layout.proofs.Fields.{pointer_put, mark_put}
use Rattle.mailbox_arrival.proofs.Moves.{link_stays, link_points}
use Rattle.mailbox_arrival.proofs.point_link.Goals as goal

pub returns-then-not-has : goal.returns-then-not-has
returns-then-not-has c T L v x = let r = c in
    let a = r.args in
    link_stays a.set a.l (state_of T L a.control.now v x) _ (rw r.control_at-r.ensures at c.has.ensures) (ap not c.if-not-has.true)

pub returns : goal.returns
returns c T L v x = let m = c in
    let p = m in
    let k = p in
    let w = k in
    let h = w in
    let r = h in
    let a = r.args in
    link_points a.set a.l (state_of T L a.control.now v x) _ (rw r.control_at-r.ensures at h.has.ensures) (ap not h.if-not-has.false)
    (rw (w.control_at-w.ensures, k.control_at-k.ensures) at p.aim-x.ensures)
    (rw (m.control_at.ensures, w.control_at-w.ensures, k.control_at-k.ensures) at m.mark_of-m.ensures)
    (pointer_put T L _ _ v x c.put_control.ensures) (mark_put T L _ _ v x c.put_control-2.ensures)
