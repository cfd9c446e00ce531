-- Demand 3 follows from demand 2: whatever answers by the published protocol reads the numbers of the run where tasks take no time.
-- Assumes nothing.
use mathlib.Core.Path.{◌≡◌, refl, ap, sym, ◌∙◌}
use mathlib.Core.List.{List, [], ◌∷◌}
use Prim.Native.Nat.{ℕ}
use Rattle.protocol.specs.Event.{arrival, start, read, finish}
use Rattle.protocol.specs.Table.{Table, Lawful}
use Rattle.protocol.specs.Schedule.{Policy, Fair, AllPossible}
use Rattle.protocol.specs.ZeroTime.{dues, ideals}
use Rattle.protocol.specs.Published.{Lowest, Run}
use Rattle.protocol.specs.Published as published
use Rattle.protocol.specs.Instant.{Order, theres}
use Rattle.protocol.proofs.Theorem.{lowest_only, ideals_there, zero_time}
use Rattle.protocol.proofs.ZeroRun.{ideals_read, theres_same}
use Rattle.protocol_deadlines.specs.Deadline.{ByDeadline}
use Rattle.protocol_deadlines.specs.Timed.{Timed, timed, untimed, earliest_at, AllPossibleAt}
use Rattle.protocol_deadlines.specs.Answering.{Answerer, boxes_after, numbers_read, FollowsProtocol, ReadsZeroTime}
use Rattle.protocol_deadlines.proofs.Timed.{possible_fair, timed_possible}

module _ {Val : Type 0} (A : Answerer Val) (D : FollowsProtocol A) (T : Table Val) (L : Lawful T) (B : ByDeadline T) where
  -- the boxes after every possible history are those of a run of the published protocol
  pub answers_run : (H : List (Timed Val)) → AllPossibleAt T H → Run T (Lowest T) (boxes_after A T H) (untimed H)
  unfolding AllPossibleAt boxes_after untimed
  answers_run [] P = published.fresh (D.fresh T L)
  answers_run (timed x e ∷ H) P = published.next e (answers_run H P.1) (D.step T L B H P.1 x e P.0)

  -- every number read is the one due, under any fair policy under which all of it could happen
  answers_dues : (may : Policy Val) → Fair T may → (H : List (Timed Val)) → AllPossibleAt T H → AllPossible T may (untimed H) → theres (numbers_read A T H) ≡ dues T (untimed H)
  unfolding AllPossibleAt AllPossible numbers_read dues theres untimed
  answers_dues may F [] P Q = refl
  answers_dues may F (timed x (arrival m) ∷ H) P Q = answers_dues may F H P.1 Q.1
  answers_dues may F (timed x (start t) ∷ H) P Q = answers_dues may F H P.1 Q.1
  answers_dues may F (timed x (read l) ∷ H) P Q =
      rw (
        D.number T L B H P.1 x l P.0,
        (zero_time T may L F (lowest_only T) (answers_run H P.1) Q.1 l Q.0).0,
        answers_dues may F H P.1 Q.1,
      )
  answers_dues may F (timed x (finish t v) ∷ H) P Q = answers_dues may F H P.1 Q.1

  -- so they are the closed form's
  pub answers_ideals : (H : List (Timed Val)) → AllPossibleAt T H → numbers_read A T H ≡ ideals T (untimed H)
  answers_ideals H P =
      let F : Fair T (earliest_at T H) = possible_fair T B H P in
      let Q = timed_possible T H P in
      theres_same _ _ (answers_dues (earliest_at T H) F H P Q ∙ sym (ideals_there T (earliest_at T H) L F (untimed H) Q))

-- demand 3, for every type of values
pub protocol_reads_zero_time : {Val : Type 0} (A : Answerer Val) → FollowsProtocol A → ReadsZeroTime A
protocol_reads_zero_time A D T L B H P order O =
    ap theres (answers_ideals A D T L B H P) ∙ ideals_read T (earliest_at T H) L (possible_fair T B H P) order O (untimed H) (timed_possible T H P)

-- and whatever meets demand 3 gives the closed form's numbers and no others
pub only_ideals : {Val : Type 0} (A : Answerer Val) → ReadsZeroTime A → (T : Table Val) → Lawful T → ByDeadline T → (order : List ℕ) → Order T order
    → (H : List (Timed Val)) → AllPossibleAt T H → numbers_read A T H ≡ ideals T (untimed H)
only_ideals A D T L B order O H P =
    theres_same _ _ (D T L B H P order O ∙ sym (ideals_read T (earliest_at T H) L (possible_fair T B H P) order O (untimed H) (timed_possible T H P)))
