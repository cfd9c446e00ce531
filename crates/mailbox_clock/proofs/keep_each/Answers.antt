-- `mailbox_clock::keep_each` meets its contract: after t turns those of the first t tasks that are in the set have its tick.
-- Assumes nothing.
use mathlib.Core.Path.{sym, ap, ◌∙◌}
use Rattle.mailbox_layout.specs.Layout.{cut_times}
use Rattle.mailbox_clock.proofs.Ticks.{kept_none, kept_in, kept_out, kept_end}
use Rattle.mailbox_clock.proofs.keep_each.Goals as goal
use Rattle.mailbox_clock.proofs.keep_each.Goals.{then-has, else-has}

pub loop-t-init : goal.loop-t-init
loop-t-init c = kept_none _ _ _

pub loop-t-preserved : goal.loop-t-preserved
loop-t-preserved c = let a = c.args in
    elim c.if-has.branch [
      | then-has w ↦ kept_in a.set a.tick a.times.now _ c.loop-t.times c.loop-t.invariant (sym c.has.ensures ∙ w.if-has.true) _ (ap cut_times w.times-is ∙ w.put_entry.ensures)
      | else-has w ↦ ap cut_times w.times-is ∙ kept_out a.set a.tick a.times.now _ c.loop-t.times c.loop-t.invariant (sym c.has.ensures ∙ w.if-has.false)
    ]

pub returns : goal.returns
returns c = let a = c.args in
    kept_end a.set a.tick a.times.now _ _ c.loop-t.times c.loop-t.invariant c.loop-t.auto.t-end c.loop-t-test.false
