-- A task that reads its own last output (request 2026-04): what holds of its link in any table in which nobody is ahead of himself, and an example, computed by
-- the published protocol, in closed form and in the run where tasks take no time.
-- Assumes nothing.
use mathlib.Core.Path.{◌≡◌, refl, sym, subst, ◌∙◌}
use mathlib.Core.Logic.{◌≢◌}
use mathlib.Core.Bool.{Bool, true, false, cond, true≢false}
use mathlib.Core.List.{List, [], ◌∷◌}
use Prim.Native.Nat.{ℕ, zero, suc, ◌+◌}
use borrow.Author.Tests.{eqb-true}
use lib.Dec.{eqb, ltb, lit<}
use Rattle.lists.specs.Lists.{some, count, first}
use Rattle.lists.proofs.Bools.{and_if}
use Rattle.protocol.specs.Event.{Event, arrival, start, read, finish, has}
use Rattle.protocol.specs.Table.{Table, to_behind, behind, N, Lawful}
use Rattle.protocol.specs.History.{arrivals, starts, finishes, up_to, output}
use Rattle.protocol.specs.Schedule.{urgent, AllPossible, judged}
use Rattle.protocol.specs.ZeroTime.{had, dues}
use Rattle.protocol.specs.Published.{Boxes, Free, leaves, number}
use Rattle.protocol.specs.Lowest.{boxes_of, numbers_of}
use Rattle.protocol.specs.Instant.{ask, read_links, run_whole, work, come, carried, upward, sets, zero_run, find, looked, theres}
use Rattle.protocol.proofs.Schedule.{all_judged, all_judged_lem}

-- up to its last arrival a task arrived as often as in all
arrivals_own : {Val : Type 0} (h : List (Event Val)) (t : ℕ) → arrivals (up_to h t) t ≡ arrivals h t
unfolding arrivals up_to
arrivals_own [] t = refl
arrivals_own (arrival m ∷ h) t = go (has m t) refl (arrivals_own h t)
  where
    go : (b : Bool) → has m t ≡ b → arrivals (up_to h t) t ≡ arrivals h t → arrivals (cond b (arrival m ∷ h) (up_to h t)) t ≡ cond b (suc (arrivals h t)) (arrivals h t)
    go true e i = rw e
    go false e i = i
arrivals_own (start u ∷ h) t = arrivals_own h t
arrivals_own (read l ∷ h) t = arrivals_own h t
arrivals_own (finish u v ∷ h) t = arrivals_own h t

module _ {Val : Type 0} (T : Table Val) (l : ℕ) (self : T.writer l ≡ T.reader l) where
  -- what the link's writer had had by its reader's last arrival is all that it has had
  pub self_had : (h : List (Event Val)) → had T h l ≡ arrivals h (T.reader l)
  self_had h = rw self (arrivals_own h (T.reader l))

  module _ (level : (t : ℕ) → T.ahead t t ≡ false) where
    -- the link does not go to a reader behind
    pub self_not_behind : behind T l ≡ false
    self_not_behind = rw (behind, self) (level (T.reader l))

    -- no N counts it
    pub self_uncounted : (t : ℕ) → to_behind T.ahead T.writer T.reader t l ≡ false
    self_uncounted t = and_if (eqb (T.writer l) t) (T.ahead t (T.reader l)) (λ x. rw (← eqb-true (T.writer l) t x) self_not_behind)

    -- no finish frees its pointer and its mark
    pub self_stays : (t : ℕ) → leaves T t l ≡ false
    self_stays t =
        and_if (ltb l T.links) _ (λ y. and_if (eqb (T.reader l) t) (T.ahead (T.writer l) t) (λ x. rw (← eqb-true (T.reader l) t x) self_not_behind))

    -- and the search does not look at its pointer: what is free stays free, wherever it points
    pub self_unprotected : (s s' : Boxes Val) (t p : ℕ) → s.newest t ≡ s'.newest t → ((k : ℕ) → k ≢ l → s.pointer k ≡ s'.pointer k) → Free T s t p → Free T s' t p
    self_unprotected s s' t p n same f = record {
      low = f.low;
      high = f.high;
      apart = subst (λ (x : ℕ). p ≢ x) n f.apart;
      unused = λ k h w b. subst (λ (x : ℕ). p ≢ x) (same k (λ e. true≢false (sym b ∙ rw e self_not_behind))) (f.unused k h w b);
    }

-- ---- a filter: one task with default 100 and one delayed link to itself with start value 40
unfoldable pub filter : Table ℕ
filter = record { tasks = 1; links = 1; default = λ t. 100; deadline = λ t. 0; start_value = λ l. 40; writer = λ l. 0; reader = λ l. 0; delayed = λ l. true; ahead = ltb }

-- it is a lawful table, and the link is not counted in N
pub filter_lawful : Lawful filter × (N filter 0 ≡ 0)
unfolding filter count
filter_lawful = (record { writer = λ l q. lit< tt; reader = λ l q. lit< tt; direct = λ l q e. absurd (true≢false e); other = λ l q e n. absurd (n refl) }, refl)

-- k runs, each of which adds 1 to what it reads
unfoldable pub adding : ℕ → List (Event ℕ)
adding zero = []
adding (suc k) = finish 0 (number filter (boxes_of filter (read 0 ∷ start 0 ∷ arrival 1 ∷ adding k)) 0 + 1) ∷ read 0 ∷ start 0 ∷ arrival 1 ∷ adding k

-- the first run reads the start value, each later one the output of the run before it
pub filter_numbers :
    (numbers_of filter (adding 4) ≡ 43 ∷ 42 ∷ 41 ∷ 40 ∷ [])
    × (dues filter (adding 4) ≡ theres (43 ∷ 42 ∷ 41 ∷ 40 ∷ []))
    × (looked filter (zero_run filter (upward 0 1) (adding 4)) (adding 4) ≡ theres (43 ∷ 42 ∷ 41 ∷ 40 ∷ []))
unfolding filter adding numbers_of boxes_of judged some count first arrivals starts finishes up_to output has dues theres ask read_links run_whole work come carried upward sets find looked
filter_numbers = (refl, refl, refl)

-- every event could happen
pub filter_possible : AllPossible filter (urgent filter) (adding 4)
unfolding all_judged filter adding boxes_of judged some count first arrivals starts finishes has
filter_possible = all_judged_lem filter (adding 4) refl

-- pointer and mark stay at the finish; after the second arrival there is no mark
pub filter_boxes :
    ((boxes_of filter (adding 1)).pointer 0 ≡ 1) × ((boxes_of filter (adding 1)).mark 0 ≡ true)
    × ((boxes_of filter (adding 2)).pointer 0 ≡ 2) × ((boxes_of filter (adding 2)).mark 0 ≡ false)
unfolding filter adding boxes_of count first some has
filter_boxes = (refl, refl, refl, refl)
