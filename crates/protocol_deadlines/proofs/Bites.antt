-- The demands bite: taken over any answer function, demands 2 and 3 exclude those that do not look. The witness is one pair of tasks with one link, under
-- fixed priorities: without deadlines, and every event at tick 0.
-- Assumes nothing.
use mathlib.Core.Path.{◌≡◌, refl, ap, sym, ◌∙◌}
use mathlib.Core.Logic.{◌≢◌}
use mathlib.Core.Bool.{Bool, true, false, cond, true≢false}
use mathlib.Core.List.{List, [], ◌∷◌}
use Prim.Native.Nat.{ℕ}
use lib.Dec.{eqb, ltb, lit<}
use Rattle.lists.specs.Lists.{some}
use Rattle.protocol.specs.Given.{there, values}
use Rattle.protocol.specs.Event.{Event, arrival, start, read, finish, has}
use Rattle.protocol.specs.Table.{Table, early, start_of, Lawful}
use Rattle.protocol.specs.History.{Goes, same, more, arrivals, starts, finishes, up_to, output}
use Rattle.protocol.specs.Schedule.{urgent, Possible, AllPossible, judged}
use Rattle.protocol.specs.ZeroTime.{had, dues, ideals}
use Rattle.protocol.specs.Published.{Boxes, Step}
use Rattle.protocol.specs.Instant.{upward}
use Rattle.protocol.proofs.Schedule.{all_judged, all_judged_lem}
use Rattle.protocol.proofs.Upward.{upward_order}
use Rattle.protocol_deadlines.specs.Deadline.{ahead_by, ByDeadline}
use Rattle.protocol_deadlines.specs.Timed.{Timed, untimed, still, PossibleAt, AllPossibleAt}
use Rattle.protocol_deadlines.specs.Answering.{Answerer, boxes_after, numbers_read, FollowsProtocol, ReadsZeroTime}
use Rattle.protocol_deadlines.proofs.Orders.{smaller_tie}
use Rattle.protocol_deadlines.proofs.Fixed.{untimed_still, fixed_possible}
use Rattle.protocol_deadlines.proofs.Answering.{only_ideals}

module _ {Val : Type 0} where
  -- what is there is one value
  there_same : {x y : Val} → there x ≡ there y → x ≡ y
  there_same e = cc

  -- two tasks, one link from the more urgent to the other, the default d, the start value b
  unfoldable pair : Val → Val → Bool → Table Val
  pair d b late = record { tasks = 2; links = 1; default = λ t. d; deadline = λ t. 0; start_value = λ l. b; writer = λ l. 0; reader = λ l. 1; delayed = λ l. late; ahead = ltb }

  pair_lawful : (d b : Val) (late : Bool) → Lawful (pair d b late)
  unfolding pair
  pair_lawful d b late = record { writer = λ l q. lit< tt; reader = λ l q. lit< tt; direct = λ l q e. refl; other = λ l q e. absurd (true≢false e) }

  pair_order : (d b : Val) (late : Bool) → ByDeadline (pair d b late)
  unfolding pair ahead_by
  pair_order d b late u t = sym (smaller_tie 0 0 (ltb u t) refl)

  -- both arrive, the first runs and gives x, the second reads
  unfoldable both : Val → List (Event Val)
  both x = read 0 ∷ start 1 ∷ finish 0 x ∷ start 0 ∷ arrival 3 ∷ []

  -- the second is held up: the first arrives again and gives y, then the second reads
  unfoldable held : Val → Val → List (Event Val)
  held x y = read 0 ∷ finish 0 y ∷ start 0 ∷ arrival 1 ∷ start 1 ∷ finish 0 x ∷ start 0 ∷ arrival 3 ∷ []

  -- the second arrives alone and is ready to read
  unfoldable alone : List (Event Val)
  alone = start 1 ∷ arrival 2 ∷ []

  -- it reads and finishes; then both arrive, the first gives x, and the second is ready to read again
  unfoldable again : Val → Val → List (Event Val)
  again x y = start 1 ∷ finish 0 x ∷ start 0 ∷ arrival 3 ∷ finish 1 y ∷ read 0 ∷ alone

  -- both arrive twice, the first gives x, then y, and the second is ready to read, in its second run
  unfoldable twice : Val → Val → List (Event Val)
  twice x y = start 1 ∷ finish 0 y ∷ start 0 ∷ arrival 3 ∷ finish 1 y ∷ start 1 ∷ finish 0 x ∷ start 0 ∷ arrival 3 ∷ []

  -- what could happen under fixed priorities, by a test that computes, could happen at tick 0
  could : (d b : Val) (late : Bool) (h : List (Event Val)) → AllPossible (pair d b late) (urgent (pair d b late)) h → AllPossibleAt (pair d b late) (still h)
  unfolding pair
  could d b late h P = (fixed_possible (pair d b late) (λ t. refl) h).1 P

  module _ (d b : Val) (late : Bool) (x y : Val) where
    both_possible : AllPossibleAt (pair d b late) (still (both x))
    unfolding all_judged pair both judged some arrivals starts finishes has
    both_possible = could d b late (both x) (all_judged_lem (pair d b late) (both x) refl)

    held_possible : AllPossibleAt (pair d b late) (still (held x y))
    unfolding all_judged pair held judged some arrivals starts finishes has
    held_possible = could d b late (held x y) (all_judged_lem (pair d b late) (held x y) refl)

    again_possible : AllPossibleAt (pair d b late) (still (read 0 ∷ again x y))
    unfolding all_judged pair again alone judged some arrivals starts finishes has
    again_possible = could d b late (read 0 ∷ again x y) (all_judged_lem (pair d b late) (read 0 ∷ again x y) refl)

    first_possible : AllPossibleAt (pair d b late) (still (read 0 ∷ alone))
    unfolding all_judged pair alone judged some arrivals starts finishes has
    first_possible = could d b late (read 0 ∷ alone) (all_judged_lem (pair d b late) (read 0 ∷ alone) refl)

    twice_possible : AllPossibleAt (pair d b late) (still (read 0 ∷ twice x y))
    unfolding all_judged pair twice judged some arrivals starts finishes has
    twice_possible = could d b late (read 0 ∷ twice x y) (all_judged_lem (pair d b late) (read 0 ∷ twice x y) refl)

    comes_possible : PossibleAt (pair d b late) [] 0 (arrival 1)
    unfolding all_judged pair judged some arrivals starts finishes has AllPossibleAt still
    comes_possible = (could d b late (arrival 1 ∷ []) (all_judged_lem (pair d b late) (arrival 1 ∷ []) refl)).0

  -- an answer function that meets demand 3 reads what the closed form says, on the pair
  told : (A : Answerer Val) → ReadsZeroTime A → (d b : Val) (late : Bool) (h : List (Event Val)) → AllPossibleAt (pair d b late) (still h)
      → numbers_read A (pair d b late) (still h) ≡ ideals (pair d b late) h
  unfolding pair
  told A D d b late h P =
      only_ideals A D (pair d b late) (pair_lawful d b late) (pair_order d b late) (upward 0 2) (upward_order (pair d b late) (λ u t. refl)) (still h) P
      ∙ ap (ideals (pair d b late)) (untimed_still h)

  module _ (A : Answerer Val) (D : ReadsZeroTime A) (d x y : Val) where
    -- by a direct link it reads the output x, for every x
    reads_output : (A.reply (pair d d false) (still (start 1 ∷ finish 0 x ∷ start 0 ∷ arrival 3 ∷ [])) 0 (read 0)).value ≡ x
    unfolding pair both still numbers_read dues values arrivals starts finishes up_to output has
    reads_output = cc (told A D d d false (both x) (both_possible d d false x y))

    -- and still x where the reader is held up while its writer runs again
    reads_own_arrival : (A.reply (pair d d false) (still (finish 0 y ∷ start 0 ∷ arrival 1 ∷ start 1 ∷ finish 0 x ∷ start 0 ∷ arrival 3 ∷ [])) 0 (read 0)).value ≡ x
    unfolding pair held still numbers_read dues values arrivals starts finishes up_to output has
    reads_own_arrival = cc (told A D d d false (held x y) (held_possible d d false x y))

    -- by a delayed link it reads the link's start value
    reads_start : (b : Val) → (A.reply (pair d b true) (still (start 1 ∷ finish 0 x ∷ start 0 ∷ arrival 3 ∷ [])) 0 (read 0)).value ≡ b
    unfolding pair both still numbers_read dues values arrivals starts finishes up_to output has
    reads_start b = cc (told A D d b true (both x) (both_possible d b true x y))

    -- and after the writer's second arrival its first output
    reads_before : (b : Val) → (A.reply (pair d b true) (still (twice x y)) 0 (read 0)).value ≡ x
    unfolding pair twice still numbers_read dues values arrivals starts finishes up_to output has
    reads_before b = cc (told A D d b true (read 0 ∷ twice x y) (twice_possible d b true x y))

    -- the reader's first arrival settled on the default
    reads_first : (A.reply (pair d d false) (still alone) 0 (read 0)).value ≡ d
    unfolding pair alone still numbers_read dues values arrivals starts finishes up_to output has
    reads_first = cc (told A D d d false (read 0 ∷ alone) (first_possible d d false x y))

    -- its second on the output x
    reads_anew : (A.reply (pair d d false) (still (again x y)) 0 (read 0)).value ≡ x
    unfolding pair again alone still numbers_read dues values arrivals starts finishes up_to output has
    reads_anew = cc (told A D d d false (read 0 ∷ again x y) (again_possible d d false x y))

  -- ---- what demand 2 excludes
  module _ (A : Answerer Val) (D : FollowsProtocol A) (d : Val) where
    -- one that refuses everything
    pub no_refuser : ((T : Table Val) (H : List (Timed Val)) (x : ℕ) (e : Event Val) → (A.reply T H x e).refusal ≢ 0) → ⊥
    unfolding AllPossibleAt
    no_refuser R = R (pair d d false) [] 0 (arrival 1) (D.all (pair d d false) (pair_lawful d d false) (pair_order d d false) [] tt 0 (arrival 1) (comes_possible d d false d d))

    -- one that accepts everything
    pub no_accepter : ((T : Table Val) (H : List (Timed Val)) (x : ℕ) (e : Event Val) → (A.reply T H x e).refusal ≡ 0) → ⊥
    unfolding AllPossibleAt Possible pair untimed arrivals starts
    no_accepter R =
        true≢false (sym (D.only (pair d d false) (pair_lawful d d false) (pair_order d d false) [] tt 0 (start 0) (R (pair d d false) [] 0 (start 0))).possible.1)

    -- one that hands the state back untouched
    pub no_idler : ((T : Table Val) (H : List (Timed Val)) (x : ℕ) (e : Event Val) → (A.reply T H x e).boxes ≡ boxes_after A T H) → ⊥
    unfolding AllPossibleAt Step pair has
    no_idler R =
        ((D.step (pair d d false) (pair_lawful d d false) (pair_order d d false) [] tt 0 (arrival 1) (comes_possible d d false d d)).chosen 0 refl).free.apart
        (ap (λ (s : Boxes Val). s.newest 0) (R (pair d d false) [] 0 (arrival 1)))

  -- ---- what demand 3 excludes, for any kind of value that has two
  module _ (a b : Val) (n : a ≢ b) (A : Answerer Val) (D : ReadsZeroTime A) where
    -- one that reads a constant
    pub no_constant : (v : Val) → ((T : Table Val) (H : List (Timed Val)) (x l : ℕ) → (A.reply T H x (read l)).value ≡ v) → ⊥
    no_constant v R = n (sym (reads_output A D a a a) ∙ R _ _ 0 0 ∙ sym (R _ _ 0 0) ∙ reads_output A D a b b)

    -- one that settles all numbers at the first arrival and then repeats them: whatever was read by a link once is read by it ever after
    pub no_repeater : ((T : Table Val) (G H : List (Timed Val)) (x l : ℕ) → Goes (read l ∷ untimed G) (untimed H) → (A.reply T H x (read l)).value ≡ (A.reply T G x (read l)).value) → ⊥
    unfolding again
    no_repeater R =
        let g : Goes (read 0 ∷ alone) (again b a) = more (start 1) (more (finish 0 b) (more (start 0) (more (arrival 3) (more (finish 1 a) same)))) in
        let e : Goes (read 0 ∷ untimed (still alone)) (untimed (still (again b a))) = rw (untimed_still alone, untimed_still (again b a)) g in
        n (sym (reads_first A D a b a) ∙ sym (R (pair a a false) (still alone) (still (again b a)) 0 0 e) ∙ reads_anew A D a b a)

    -- one that reads the writer's default always
    pub no_defaults : ((T : Table Val) (H : List (Timed Val)) (x l : ℕ) → (A.reply T H x (read l)).value ≡ T.default (T.writer l)) → ⊥
    unfolding pair
    no_defaults R = n (sym (R (pair a a false) _ 0 0) ∙ reads_output A D a b b)

    -- one that reads the last output that is finished when the read comes
    pub no_latest : ((T : Table Val) (H : List (Timed Val)) (x l : ℕ) → there (A.reply T H x (read l)).value
        ≡ cond (eqb (finishes (untimed H) (T.writer l)) 0) (there (start_of T l)) (output (untimed H) (T.writer l) (finishes (untimed H) (T.writer l)))) → ⊥
    unfolding pair untimed still output finishes
    no_latest R = n (sym (reads_own_arrival A D a a b) ∙ there_same (R (pair a a false) _ 0 0))

    -- one that reads a delayed link like a direct one
    pub no_all_direct : ((T : Table Val) (H : List (Timed Val)) (x l : ℕ) → there (A.reply T H x (read l)).value
        ≡ cond (eqb (had T (untimed H) l) 0) (there (start_of T l)) (output (untimed H) (T.writer l) (had T (untimed H) l))) → ⊥
    unfolding pair untimed still output finishes arrivals up_to has
    no_all_direct R = n (sym (reads_start A D a b b a) ∙ there_same (R (pair a a true) _ 0 0))

    -- one that reads the writer's default in place of a link's start value
    pub no_default_start : ((T : Table Val) (H : List (Timed Val)) (x l : ℕ) → early (T.delayed l) (had T (untimed H) l) ≡ true → (A.reply T H x (read l)).value ≡ T.default (T.writer l)) → ⊥
    unfolding pair untimed still arrivals up_to has
    no_default_start R = n (sym (R (pair a b true) (still (start 1 ∷ finish 0 b ∷ start 0 ∷ arrival 3 ∷ [])) 0 0 refl) ∙ reads_start A D a b b b)

    -- one that reads what a link starts with always
    pub no_starts : ((T : Table Val) (H : List (Timed Val)) (x l : ℕ) → (A.reply T H x (read l)).value ≡ start_of T l) → ⊥
    unfolding pair
    no_starts R = n (sym (R (pair a a true) _ 0 0) ∙ reads_before A D a b b a)
