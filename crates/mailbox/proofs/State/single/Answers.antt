-- `mailbox::State::single` meets its contract: computed.
-- Assumes nothing.
use mathlib.Core.Path.{refl, ap, ◌∙◌}
use mathlib.Core.List.{List}
use Prim.Native.Nat.{ℕ}
use lib.ListN.{replicate}
use borrow.Author.Rules.{rules}
use Rattle.lists.specs.Lists.{upto}
use Rattle.protocol_state.specs.Fresh.{fresh_of}
use Rattle.regions.specs.Regions.{regions}
use Rattle.mailbox_layout.specs.Layout.{value_size, time_size, cut_values, cut_times, fields_of}
use Rattle.mailbox.proofs.State.single.Goals as goal

pub returns : goal.returns
unfolding fresh_of upto regions
returns c = (ap (λ (b : List (List ℕ)). fields_of 1 0 b (cut_values (replicate value_size 0)) (cut_times (replicate time_size 0))) c.fresh_control.ensures ∙ refl, search rules)
