-- `recording_text::read_text` meets its contract. The loop's invariant: the first lines are read, and can be, and what they say is stored.
-- Assumes nothing.
use Rattle.recording_text_line.specs.Left.{said_left}
use Rattle.recording_text.proofs.Texts.{Reading}
use Rattle.recording_text.proofs.read_text.Given as goal

abbrev pub invariant-loop-said : goal.invariant-loop-said
invariant-loop-said l =
    Reading l.text (said_left l.said-iterator) l.line l.kind l.initial.tasks l.tasks l.initial.links l.links l.initial.events l.events l.task l.link l.event
