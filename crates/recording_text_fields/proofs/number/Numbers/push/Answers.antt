-- `recording_text_fields::number::Numbers::push` meets its contract: the number is one of the first four, or not.
-- Assumes nothing.
use Rattle.recording_text_fields.proofs.Numerals.{gathered_more, gathered_past}
use Rattle.recording_text_fields.proofs.number.Numbers.push.Goals as goal
use Rattle.recording_text_fields.proofs.number.Numbers.push.Goals.{then-self-lt-KEPT, else-self-lt-KEPT}

pub returns : goal.returns
returns c ns g =
    elim c.if-self-lt-KEPT.branch [
      | then-self-lt-KEPT w ↦ rw w.self-is (gathered_more ns c.args.n c.bit.ensures g w.if-self-lt-KEPT.true)
      | else-self-lt-KEPT w ↦ rw w.self-is (gathered_past ns c.args.n c.bit.ensures g w.if-self-lt-KEPT.false)
    ]
