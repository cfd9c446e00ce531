-- A free position always exists, the lowest lies in 1 to N + 2, and the function that takes it does what the published protocol allows.
-- Assumes nothing.
use mathlib.Core.Path.{◌≡◌, refl, sym, ◌∙◌}
use mathlib.Core.Bool.{Bool, true, false, true≢false}
use mathlib.Core.List.{List, [], ◌∷◌}
use Prim.Native.Nat.{ℕ, ◌+◌, ◌≤◌, ◌<◌}
use native.Mathlib.Omega.{arith}
use borrow.Author.Tests.{eqb-true, eqb-false, eq-eqb, ne_eqb}
use lib.Dec.{eqb}
use Rattle.lists.specs.Lists.{first}
use Rattle.lists.proofs.Bools.{or_left, or_right, and_left, and_right}
use Rattle.lists.proofs.Lists.{some_not, some_of_none}
use Rattle.lists.proofs.Search.{lowest_in_range, lowest_is_free, first_below}
use Rattle.protocol.specs.Event.{Event, arrival, start, read, finish}
use Rattle.protocol.specs.Table.{Table, to_behind, behind, N}
use Rattle.protocol.specs.Published.{Boxes, Fresh, Free, Lowest, Step, Run}
use Rattle.protocol.specs.Published as published
use Rattle.protocol.specs.Free.{holds, taken}
use Rattle.protocol.specs.Lowest.{lowest, fresh_boxes, next_boxes, boxes_of}

module _ {Val : Type 0} (T : Table Val) (s : Boxes Val) (t : ℕ) where
  -- p is taken: the test that the search makes
  abbrev gone : ℕ → Bool
  gone p = taken T.ahead T.writer T.reader s.pointer T.links t (s.newest t) p

  -- link l's pointer holds p, and l is one of t's links to readers behind
  held : (p l : ℕ) → T.writer l ≡ t → behind T l ≡ true → p ≡ s.pointer l → holds T.ahead T.writer T.reader s.pointer t p l ≡ true
  held p l w b e =
      let ours : T.ahead (T.writer l) (T.reader l) ≡ true = b in
      rw (eq-eqb (T.writer l) t w, rw w at ours) (eq-eqb (s.pointer l) p (sym e))

  -- what the test lets through, within 1 to N + 2, is free
  not_gone_free : (p : ℕ) → 1 ≤ p → p ≤ N T t + 2 → gone p ≡ false → Free T s t p
  not_gone_free p low high g = record {
    low = low;
    high = high;
    apart = λ e. eqb-false (s.newest t) p (or_left (eqb (s.newest t) p) _ g) (sym e);
    unused = λ l k w b e. true≢false (sym (held p l w b e) ∙ some_not (holds T.ahead T.writer T.reader s.pointer t p) T.links l (or_right (eqb (s.newest t) p) _ g) k);
  }

  -- and what is free it lets through
  free_not_gone : (p : ℕ) → Free T s t p → gone p ≡ false
  free_not_gone p F = rw (ne_eqb (s.newest t) p (λ e. F.apart (sym e))) (some_of_none _ T.links (λ l k. clear l k (holds T.ahead T.writer T.reader s.pointer t p l) refl))
    where
      clear : (l : ℕ) → l < T.links → (b : Bool) → holds T.ahead T.writer T.reader s.pointer t p l ≡ b → b ≡ false
      clear l k false e = refl
      clear l k true e =
          let mine : to_behind T.ahead T.writer T.reader t l ≡ true = and_left _ (eqb (s.pointer l) p) e in
          let w : T.writer l ≡ t = eqb-true _ _ (and_left (eqb (T.writer l) t) _ mine) in
          let b : T.ahead (T.writer l) (T.reader l) ≡ true = rw w (and_right (eqb (T.writer l) t) _ mine) in
          absurd (F.unused l k w b (sym (eqb-true _ _ (and_right (to_behind T.ahead T.writer T.reader t l) _ e))))

  -- for any bound that looks at N + 2 positions or more, the search ends at the lowest free one
  pub search_lowest : (m : ℕ) → N T t < m → Lowest T s t (first gone m 1)
  search_lowest m few = record {
    free = not_gone_free (first gone m 1) range.0 range.1 (lowest_is_free (to_behind T.ahead T.writer T.reader t) s.pointer m T.links (s.newest t) few);
    least = λ q F. first_below gone m 1 q F.low (free_not_gone q F);
  }
    where
      range : (1 ≤ first gone m 1) × (first gone m 1 ≤ N T t + 2)
      range = lowest_in_range (to_behind T.ahead T.writer T.reader t) s.pointer m T.links (s.newest t)

  -- a free position always exists, and the lowest lies in 1 to N + 2
  pub lowest_exists : Lowest T s t (lowest T s t)
  lowest_exists = search_lowest (N T t + 1) (omega arith)

module _ {Val : Type 0} (T : Table Val) where
  -- the function does what the published protocol allows, with the lowest free position
  pub next_step : (e : Event Val) (s : Boxes Val) → Step T (Lowest T) e s (next_boxes T e s)
  unfolding Step
  next_step (arrival m) s = record { previous = λ t. refl; chosen = λ t i. rw i (lowest_exists T s t); kept = λ t i. rw i; seen = λ t. refl; pointer = λ l. refl; mark = λ l. refl; cell = λ t p. refl }
  next_step (start t) s = refl
  next_step (read l) s = refl
  next_step (finish t v) s = record { newest = λ u. refl; previous = λ u. refl; seen = λ u. refl; pointer = λ l. refl; mark = λ l. refl; cell = λ u p. refl }

  pub fresh_fresh : Fresh T (fresh_boxes T)
  fresh_fresh = record { newest = λ t. refl; previous = λ t. refl; seen = λ t. refl; pointer = λ l. refl; mark = λ l. refl; cell = λ t p. refl }

  -- so every history leads to one of its runs
  pub lowest_run : (h : List (Event Val)) → Run T (Lowest T) (boxes_of T h) h
  unfolding boxes_of
  lowest_run [] = published.fresh fresh_fresh
  lowest_run (e ∷ h) = published.next e (lowest_run h) (next_step e (boxes_of T h))
