-- The demands are met by one answer function at least: the protocol with the lowest free position.
-- Assumes nothing.
use mathlib.Core.Path.{◌≡◌, refl, ap, sym, ◌∙◌}
use mathlib.Core.Logic.{◌≢◌}
use mathlib.Core.Bool.{Bool, true, false}
use mathlib.Core.List.{List, [], ◌∷◌}
use Prim.Native.Nat.{ℕ}
use borrow.Author.Tests.{eqb-true, eqb-false, ne_eqb}
use lib.Dec.{eqb}
use Rattle.protocol.specs.Event.{Event, arrival, start, read, finish}
use Rattle.protocol.specs.Table.{Table}
use Rattle.protocol.specs.Published.{Boxes}
use Rattle.protocol.specs.Lowest.{next_boxes, boxes_of, value_then}
use Rattle.protocol.proofs.Lowest.{next_step, fresh_fresh}
use Rattle.protocol_deadlines.specs.Timed.{Timed, timed, untimed, AllPossibleAt, judged_at}
use Rattle.protocol_deadlines.specs.Answering.{Response, ReadsNothing, boxes_after, RefusesRightly, FollowsProtocol, ReadsZeroTime}
use Rattle.protocol_deadlines.specs.Lowest.{lowest_answers}
use Rattle.protocol_deadlines.proofs.Timed.{judged_possible_at, possible_judged_at}
use Rattle.protocol_deadlines.proofs.Answering.{protocol_reads_zero_time}

-- the two ways of an answer
module _ {Val : Type 0} (zero : Val) (T : Table Val) (H : List (Timed Val)) where
  abbrev answer : ℕ → Event Val → Response Val
  answer x e = (lowest_answers zero).reply T H x e

  answer_yes : (x : ℕ) (e : Event Val) → judged_at T H x e ≡ 0 → answer x e ≡ record { refusal = 0; value = value_then T zero (boxes_of T (untimed H)) e; boxes = next_boxes T e (boxes_of T (untimed H)) }
  unfolding lowest_answers
  answer_yes x e i = rw i

  answer_no : (x : ℕ) (e : Event Val) → judged_at T H x e ≢ 0 → answer x e ≡ record { refusal = judged_at T H x e; value = zero; boxes = boxes_of T (untimed H) }
  unfolding lowest_answers
  answer_no x e n = let z : eqb (judged_at T H x e) 0 ≡ false = ne_eqb _ 0 n in rw z

  answer_refusal : (x : ℕ) (e : Event Val) → (answer x e).refusal ≡ judged_at T H x e
  answer_refusal x e = go (eqb (judged_at T H x e) 0) refl
    where
      go : (b : Bool) → eqb (judged_at T H x e) 0 ≡ b → (answer x e).refusal ≡ judged_at T H x e
      go true i = rw (answer_yes x e (eqb-true _ 0 i)) (sym (eqb-true _ 0 i))
      go false i = rw (answer_no x e (eqb-false _ 0 i))

-- the boxes after a possible history are those of the protocol
boxes_after_lem : {Val : Type 0} (zero : Val) (T : Table Val) (H : List (Timed Val)) → AllPossibleAt T H → boxes_after (lowest_answers zero) T H ≡ boxes_of T (untimed H)
unfolding boxes_after boxes_of AllPossibleAt lowest_answers untimed
boxes_after_lem zero T [] P = refl
boxes_after_lem zero T (timed x e ∷ H) P = ap (λ (r : Response _). r.boxes) (answer_yes zero T H x e (possible_judged_at T H x e P.0))

module _ {Val : Type 0} (zero : Val) where
  silent_value : (T : Table Val) (s : Boxes Val) (e : Event Val) → ReadsNothing e → value_then T zero s e ≡ zero
  unfolding ReadsNothing
  silent_value T s (arrival m) q = refl
  silent_value T s (start t) q = refl
  silent_value T s (read l) q = absurd q
  silent_value T s (finish t v) q = refl

  pub lowest_refuses_rightly : RefusesRightly (lowest_answers zero) zero
  lowest_refuses_rightly = record {
    number = λ T L B H P x e. answer_refusal zero T H x e;
    unchanged = λ T L B H P x e n. rw (answer_no zero T H x e (λ z. n (answer_refusal zero T H x e ∙ z)), boxes_after_lem zero T H P) (refl, refl);
    silent = λ T L B H P x e q. quiet T H x e q (eqb (judged_at T H x e) 0) refl;
  }
    where
      quiet : (T : Table Val) (H : List (Timed Val)) (x : ℕ) (e : Event Val) → ReadsNothing e → (b : Bool) → eqb (judged_at T H x e) 0 ≡ b → (answer zero T H x e).value ≡ zero
      quiet T H x e q true i = rw (answer_yes zero T H x e (eqb-true _ 0 i)) (silent_value T (boxes_of T (untimed H)) e q)
      quiet T H x e q false i = rw (answer_no zero T H x e (eqb-false _ 0 i))

  pub lowest_follows_protocol : FollowsProtocol (lowest_answers zero)
  unfolding lowest_answers
  lowest_follows_protocol = record {
    fresh = λ T L. fresh_fresh T;
    only = λ T L B H P x e i. judged_possible_at T H x e (sym (answer_refusal zero T H x e) ∙ i);
    all = λ T L B H P x e p. answer_refusal zero T H x e ∙ possible_judged_at T H x e p;
    step = λ T L B H P x e p. rw (answer_yes zero T H x e (possible_judged_at T H x e p), boxes_after_lem zero T H P) (next_step T e (boxes_of T (untimed H)));
    number = λ T L B H P x l p. rw (answer_yes zero T H x (read l) (possible_judged_at T H x (read l) p), boxes_after_lem zero T H P);
  }

  pub lowest_reads_zero_time : ReadsZeroTime (lowest_answers zero)
  lowest_reads_zero_time = protocol_reads_zero_time (lowest_answers zero) lowest_follows_protocol
