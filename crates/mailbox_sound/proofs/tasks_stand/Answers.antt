-- `mailbox_sound::tasks_stand` meets its contract: each task is asked, by the counts that are right.
-- Assumes nothing.
use mathlib.Core.Path.{◌∙◌}
use native.Mathlib.Omega.{arith}
use Rattle.mailbox_sound.proofs.Judged.{every_same}
use Rattle.protocol_state.specs.Sound.{task_stands}
use Rattle.mailbox_layout.specs.Layout.{state_of}
use Rattle.mailbox_sound.proofs.tasks_stand.Goals as goal

pub returns : goal.returns
returns c room ahead L n T v = let a = c.args in
    c.every.ensures
    ∙ every_same _ (task_stands ahead (state_of T L a.control.now v a.times.now)) a.tasks (λ t h. rw (n.count t (omega (arith, room, h))))
