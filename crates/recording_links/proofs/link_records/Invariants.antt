-- `recording_links::link_records` meets its contract: so many records are read and the others are left, turn by turn.
-- Assumes nothing.
use mathlib.Core.List.{List}
use Rattle.protocol_state.specs.Records.{Task}
use Rattle.mailbox_layout.specs.Layout.{ahead_among}
use Rattle.recording_links.specs.Links.{NoLinks}
use Rattle.recording_links.proofs.LinkLoop.{LinksTurn}
use Rattle.recording_links.proofs.link_records.Given as goal

abbrev pub invariant-loop-l : goal.invariant-loop-l
invariant-loop-l l = (ts : List Task) → NoLinks ts l.initial.control l.initial.values → LinksTurn (ahead_among l.times) ts l.tasks l.n l.s l.at l.plan l.control l.values l.place l.l
