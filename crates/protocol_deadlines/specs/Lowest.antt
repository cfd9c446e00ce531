-- The protocol with the lowest free position, as an answer function: one of those that the demands allow.
-- Assumes nothing.
use Rattle.std.specs.Prelude.{cond, eqb}
use Rattle.protocol.specs.Lowest.{fresh_boxes, next_boxes, boxes_of, value_then}
use Rattle.protocol_deadlines.specs.Timed.{untimed, judged_at}
use Rattle.protocol_deadlines.specs.Answering.{Answerer}

unfoldable pub lowest_answers : {Val : Type 0} → Val → Answerer Val
lowest_answers zero = record {
  fresh = fresh_boxes;
  reply = λ T H x e. cond (eqb (judged_at T H x e) 0)
      (record { refusal = 0; value = value_then T zero (boxes_of T (untimed H)) e; boxes = next_boxes T e (boxes_of T (untimed H)) })
      (record { refusal = judged_at T H x e; value = zero; boxes = boxes_of T (untimed H) });
}
