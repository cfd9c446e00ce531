-- `mailbox_layout::phases_in` meets its contract: the phases are the first region, so the part that holds them is that region.
-- Assumes nothing.
use mathlib.Core.Path.{refl}
use Rattle.regions.specs.Regions.{regions}
use Rattle.mailbox_layout.proofs.phases_in.Goals as goal

pub returns : goal.returns
unfolding regions
returns c = refl
