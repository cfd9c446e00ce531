-- `mailbox_rules::links::readers_behind` meets its contract: after l turns `c` counts those of the first l links whose flag says so.
-- Assumes nothing.
use mathlib.Core.Path.{◌≡◌}
use Rattle.mailbox_layout.specs.Layout.{writer_in}
use Rattle.lists.specs.Lists.{count}
use Rattle.protocol_state.specs.Saved.{at}
use Rattle.mailbox_rules.proofs.Flags.{flagged}
use Rattle.mailbox_rules.proofs.links.readers_behind.Given as goal

abbrev pub invariant-loop-l : goal.invariant-loop-l
invariant-loop-l l = l.c ≡ count (flagged (at (writer_in l.control)) l.plan l.t) l.l
