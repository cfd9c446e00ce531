-- Two answers allowed for one input are equal: answer functions that meet demands 1 and 2 agree on every refusal, position, pointer, mailbox and number.
-- Assumes nothing.
use mathlib.Core.Path.{◌≡◌, refl, sym, ◌∙◌}
use mathlib.Core.Bool.{Bool, true, false}
use mathlib.Core.List.{List, ◌∷◌}
use Prim.Native.Nat.{ℕ}
use borrow.Author.Tests.{eqb-true, eqb-false}
use lib.Dec.{eqb}
use Rattle.protocol.specs.Event.{Event, arrival, start, read, finish}
use Rattle.protocol.specs.Table.{Table, Lawful}
use Rattle.protocol.specs.Published.{Same}
use Rattle.protocol.proofs.Unique.{runs_same, number_same}
use Rattle.protocol_deadlines.specs.Deadline.{ByDeadline}
use Rattle.protocol_deadlines.specs.Timed.{Timed, timed, PossibleAt, AllPossibleAt}
use Rattle.protocol_deadlines.specs.Answering.{SameResponse, Answerer, ReadsNothing, boxes_after, RefusesRightly, FollowsProtocol}
use Rattle.protocol_deadlines.proofs.Answering.{answers_run}

module _ {Val : Type 0} (A B : Answerer Val) (T : Table Val) (L : Lawful T) (O : ByDeadline T) where
  -- the same refusal to every event
  pub same_refusal : {zero : Val} → RefusesRightly A zero → RefusesRightly B zero → (H : List (Timed Val)) → AllPossibleAt T H → (x : ℕ) (e : Event Val)
      → (A.reply T H x e).refusal ≡ (B.reply T H x e).refusal
  same_refusal EA EB H P x e = EA.number T L O H P x e ∙ sym (EB.number T L O H P x e)

  module _ (DA : FollowsProtocol A) (DB : FollowsProtocol B) where
    -- the same boxes after every history
    pub same_boxes : (H : List (Timed Val)) → AllPossibleAt T H → Same (boxes_after A T H) (boxes_after B T H)
    same_boxes H P = runs_same T (answers_run A DA T L O H P) (answers_run B DB T L O H P)

    -- the same number at every read
    pub same_number : (H : List (Timed Val)) → AllPossibleAt T H → (x l : ℕ) → PossibleAt T H x (read l) → (A.reply T H x (read l)).value ≡ (B.reply T H x (read l)).value
    same_number H P x l p = DA.number T L O H P x l p ∙ number_same T (same_boxes H P) l ∙ sym (DB.number T L O H P x l p)

    module _ {zero : Val} (EA : RefusesRightly A zero) (EB : RefusesRightly B zero) (H : List (Timed Val)) (P : AllPossibleAt T H) (x : ℕ) where
      -- the same value of every accepted event
      same_value : (e : Event Val) → PossibleAt T H x e → (A.reply T H x e).value ≡ (B.reply T H x e).value
      unfolding ReadsNothing
      same_value (arrival m) p = EA.silent T L O H P x (arrival m) tt ∙ sym (EB.silent T L O H P x (arrival m) tt)
      same_value (start t) p = EA.silent T L O H P x (start t) tt ∙ sym (EB.silent T L O H P x (start t) tt)
      same_value (read l) p = same_number H P x l p
      same_value (finish t v) p = EA.silent T L O H P x (finish t v) tt ∙ sym (EB.silent T L O H P x (finish t v) tt)

      -- the same reply to every event, accepted or refused
      pub same_reply : (e : Event Val) → SameResponse (A.reply T H x e) (B.reply T H x e)
      unfolding AllPossibleAt boxes_after
      same_reply e = go (eqb (A.reply T H x e).refusal 0) refl
        where
          same : (A.reply T H x e).refusal ≡ (B.reply T H x e).refusal
          same = same_refusal EA EB H P x e

          go : (b : Bool) → eqb (A.reply T H x e).refusal 0 ≡ b → SameResponse (A.reply T H x e) (B.reply T H x e)
          go true i =
              let p = DA.only T L O H P x e (eqb-true _ 0 i) in
              record { refusal = same; value = same_value e p; boxes = same_boxes (timed x e ∷ H) (p, P) }
          go false i =
              let a = EA.unchanged T L O H P x e (eqb-false _ 0 i) in
              let b = EB.unchanged T L O H P x e (λ z. eqb-false _ 0 i (same ∙ z)) in
              record { refusal = same; value = a.1 ∙ sym b.1; boxes = rw (a.0, b.0) (same_boxes H P) }
