-- `mailbox_judge::some_sooner` meets its contract: past the last phase there is no active task.
-- Assumes nothing.
use mathlib.Core.Path.{◌≡◌, ap, ◌∙◌}
use mathlib.Core.Bool.{◌&&◌, ◌||◌}
use mathlib.Core.List.{List}
use Prim.Native.Nat.{ℕ, ◌+◌}
use Rattle.lists.specs.Lists.{some}
use Rattle.lists.proofs.Lists.{some_none, some_more, some_end}
use Rattle.protocol_state.specs.Saved.{at, active_phase}
use Rattle.mailbox_layout.specs.Layout.{sooner_among}
use Rattle.mailbox_judge.proofs.Judged.{idle_past}
use Rattle.mailbox_judge.proofs.some_sooner.Goals as goal
use Rattle.mailbox_judge.proofs.some_sooner.Goals.{then-goes_first, else-goes_first}

pub loop-u-init : goal.loop-u-init
loop-u-init c = some_none _

pub loop-u-preserved : goal.loop-u-preserved
loop-u-preserved c = let l = c in
    let a = l.args in
    let asked : (l.goes_first.result || l.loop-u.found) ≡ some (λ k. sooner_among a.times.now k a.t && active_phase (at l.phases_in-phase.result.now k)) (l.loop-u.u + 1) =
    some_more _ _ (rw l.due_at-due.ensures at l.goes_first.ensures) l.loop-u.invariant in
    elim c.if-goes_first.branch [
      | then-goes_first w ↦ w.found-is ∙ (rw w.if-goes_first.true at asked)
      | else-goes_first w ↦ w.found-is ∙ (rw w.if-goes_first.false at asked)
    ]

pub returns : goal.returns
returns c = let a = c.args in
    let xs = c.phases_in-phase.result.now in
    some_end _ _ _ c.loop-u.invariant c.loop-u.auto.u-end c.loop-u-test.false
    ∙ ap (some (λ u. sooner_among a.times.now u a.t && active_phase (at xs u))) c.few-u-end.ensures
    ∙ idle_past (λ u. sooner_among a.times.now u a.t) xs a.tasks
    ∙ ap (λ (xs : List ℕ). some (λ u. sooner_among a.times.now u a.t && active_phase (at xs u)) a.tasks) c.phases_in-phase.ensures
