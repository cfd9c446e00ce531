-- `mailbox_sound::links_stand` meets its contract: each link is asked, by the flags and the counts that are right.
-- Assumes nothing.
use mathlib.Core.Path.{◌∙◌}
use Rattle.mailbox_sound.proofs.Judged.{every_same}
use Rattle.mailbox_layout.specs.Layout.{state_of, writer_in}
use Rattle.mailbox_plan.proofs.Plans.{flag_says}
use Rattle.protocol_state.specs.Saved.{at}
use Rattle.protocol_state.specs.Sound.{link_stands}
use Rattle.mailbox_sound.proofs.links_stand.Goals as goal

pub returns : goal.returns
returns c room ahead p n T v x = let a = c.args in
    c.every.ensures
    ∙ every_same _ (link_stands ahead (state_of T a.links a.control.now v x)) a.links
    (λ l h. rw (flag_says l p h, n.count (at (writer_in a.control.now) l) (room l h)))
