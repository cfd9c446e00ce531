-- `mailbox_judge::some_before` meets its contract: past the last phase there is no active task.
-- Assumes nothing.
use mathlib.Core.Path.{ap, ◌∙◌}
use mathlib.Core.Bool.{true}
use Rattle.lists.specs.Lists.{some}
use Rattle.protocol_state.specs.Saved.{at, active_phase}
use Rattle.mailbox_judge.proofs.Judged.{idle_past}
use Rattle.mailbox_judge.proofs.some_before.Goals as goal

pub returns : goal.returns
returns c = let a = c.args in
    c.some.ensures
    ∙ ap (some (λ u. active_phase (at a.phase.now u))) c.few.ensures
    ∙ idle_past (λ k. true) a.phase.now a.t
