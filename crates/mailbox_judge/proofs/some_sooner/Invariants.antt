-- `mailbox_judge::some_sooner`: after u turns `found` says whether an active job of the first u tasks goes before that of t.
-- Assumes nothing.
use mathlib.Core.Path.{◌≡◌}
use mathlib.Core.Bool.{◌&&◌}
use Rattle.lists.specs.Lists.{some}
use Rattle.protocol_state.specs.Saved.{at, active_phase}
use Rattle.mailbox_layout.specs.Layout.{sooner_among}
use Rattle.mailbox_judge.proofs.some_sooner.Given as goal

abbrev pub invariant-loop-u : goal.invariant-loop-u
invariant-loop-u l = l.found ≡ some (λ k. sooner_among l.times k l.t && active_phase (at l.phase k)) l.u
