-- `mailbox_arrival::held` meets its contract: each link is asked by its flag, which is right.
-- Assumes nothing.
use mathlib.Core.Path.{ap, ◌∙◌}
use mathlib.Core.Bool.{Bool, ◌&&◌}
use lib.Dec.{eqb}
use Rattle.protocol.specs.Free.{holds}
use Rattle.protocol_state.specs.Saved.{at}
use Rattle.protocol_state.proofs.Places.{some_same}
use Rattle.mailbox_layout.specs.Layout.{writer_in, reader_in, pointer_in}
use Rattle.mailbox_plan.proofs.Plans.{flag_from}
use Rattle.mailbox_arrival.proofs.held.Goals as goal

pub returns : goal.returns
returns c ahead right = let a = c.args in
    let W = at (writer_in a.control.now) in
    let X = at (pointer_in a.control.now) in
    c.some.ensures
    ∙ some_same _ (holds ahead W (at (reader_in a.control.now)) X a.t a.p) a.links (λ l h. ap (λ (b : Bool). b && eqb (X l) a.p) (flag_from l a.t right h))
