-- `mailbox_arrival::move_task` meets its contract: by whether the task is in the set.
-- Assumes nothing.
use mathlib.Core.Path.{ap}
use mathlib.Core.Bool.{not}
use Rattle.mailbox_layout.specs.Layout.{state_of}
use Rattle.mailbox_layout.proofs.Fields.{phase_put, newest_put, previous_put, seen_put}
use Rattle.mailbox_arrival.proofs.Moves.{stays, moves}
use Rattle.mailbox_arrival.proofs.move_task.Goals as goal

pub returns-then-not-has : goal.returns-then-not-has
returns-then-not-has c table ahead right T v x = stays ahead _ _ _ _ c.has.ensures (ap not c.if-not-has.true)

pub returns : goal.returns
returns c table ahead right T v x = let p = c in
    let o = p in
    let d = o in
    let f = d in
    let h = f in
    let a = h.args in
    moves ahead _ _ (state_of T a.links a.control.now v x) _ h.has.ensures (ap not h.if-not-has.false) f.control_at-x.ensures (f.lowest_free-free.ensures table ahead right)
    (rw d.control_at.ensures at d.entry-phase.ensures) (rw o.control_at-2.ensures at o.seen_once-seen.ensures)
    (previous_put T _ _ _ v x p.put_control.ensures) (newest_put T _ _ _ v x c.put_control-2.ensures)
    (seen_put T _ _ _ v x c.put_control-3.ensures) (phase_put T _ _ _ v x c.put_control-4.ensures)
