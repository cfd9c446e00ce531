-- `mailbox::tables::put_links` meets its contract: after l turns the first l links are put.
-- Assumes nothing.
use mathlib.Core.Path.{◌≡◌}
use mathlib.Core.List.{List, []}
use Rattle.protocol_state.specs.Records.{Task, first_links}
use Rattle.mailbox_layout.specs.Layout.{cut, cut_values}
use Rattle.mailbox_layout.specs.Fresh.{fresh_control, fresh_values}
use Rattle.mailbox.proofs.tables.put_links.Given as goal

abbrev pub invariant-loop-l : goal.invariant-loop-l
invariant-loop-l l = (cut l.initial.control ≡ fresh_control [] → cut l.control ≡ fresh_control (first_links l.l l.writer l.reader l.kind l.start_value))
    × ((ts : List Task) → cut_values l.initial.values ≡ fresh_values ts [] → cut_values l.values ≡ fresh_values ts (first_links l.l l.writer l.reader l.kind l.start_value))
