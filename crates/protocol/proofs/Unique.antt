-- The published protocol with the lowest free position allows one outcome: two runs over one history end in the same boxes.
-- Assumes nothing.
use mathlib.Core.Path.{◌≡◌, refl, sym, ◌∙◌}
use mathlib.Core.Bool.{Bool, true, false}
use mathlib.Core.List.{List}
use Prim.Native.Nat.{ℕ}
use native.Mathlib.Nat.{le_antisymm}
use Rattle.protocol.specs.Event.{Event, arrival, start, read, finish, has}
use Rattle.protocol.specs.Table.{Table}
use Rattle.protocol.specs.Published.{Boxes, Same, Fresh, Free, Lowest, Arrived, Finished, number, Step, Run, fresh, next}

module _ {Val : Type 0} (T : Table Val) where
  fresh_same : {s r : Boxes Val} → Fresh T s → Fresh T r → Same s r
  fresh_same F G = record {
    newest = λ t. F.newest t ∙ sym (G.newest t);
    previous = λ t. F.previous t ∙ sym (G.previous t);
    seen = λ t. F.seen t ∙ sym (G.seen t);
    pointer = λ l. F.pointer l ∙ sym (G.pointer l);
    mark = λ l. F.mark l ∙ sym (G.mark l);
    cell = λ t p. F.cell t p ∙ sym (G.cell t p);
  }

  module _ {s r : Boxes Val} (S : Same s r) where
    free_same : {t p : ℕ} → Free T s t p → Free T r t p
    free_same {t} F = record { low = F.low; high = F.high; apart = λ e. F.apart (e ∙ sym (S.newest t)); unused = λ l k w b e. F.unused l k w b (e ∙ sym (S.pointer l)) }

    free_back : {t p : ℕ} → Free T r t p → Free T s t p
    free_back {t} F = record { low = F.low; high = F.high; apart = λ e. F.apart (e ∙ S.newest t); unused = λ l k w b e. F.unused l k w b (e ∙ S.pointer l) }

    -- each link reads the same number
    pub number_same : (l : ℕ) → number T s l ≡ number T r l
    number_same l = rw (S.mark l, S.cell (T.writer l) (s.pointer l), S.pointer l)

    -- there is one lowest free position
    lowest_same : {t p q : ℕ} → Lowest T s t p → Lowest T r t q → p ≡ q
    lowest_same P Q = le_antisymm (P.least _ (free_back Q.free)) (Q.least _ (free_same P.free))

    module _ {s' r' : Boxes Val} where
      arrived_same : {m : ℕ} → Arrived T (Lowest T) m s s' → Arrived T (Lowest T) m r r' → Same s' r'
      arrived_same {m} A B = record {
        newest = newest;
        previous = previous;
        seen = seen;
        pointer = λ l. A.pointer l ∙ rw (newest (T.writer l), previous (T.writer l), S.pointer l) (sym (B.pointer l));
        mark = λ l. A.mark l ∙ rw (seen (T.writer l), S.mark l) (sym (B.mark l));
        cell = λ t p. A.cell t p ∙ S.cell t p ∙ sym (B.cell t p);
      }
        where
          newest : (t : ℕ) → s'.newest t ≡ r'.newest t
          newest t = go (has m t) refl
            where
              go : (b : Bool) → has m t ≡ b → s'.newest t ≡ r'.newest t
              go true e = lowest_same (A.chosen t e) (B.chosen t e)
              go false e = A.kept t e ∙ S.newest t ∙ sym (B.kept t e)

          previous : (t : ℕ) → s'.previous t ≡ r'.previous t
          previous t = A.previous t ∙ rw (S.newest t, S.previous t) (sym (B.previous t))

          seen : (t : ℕ) → s'.seen t ≡ r'.seen t
          seen t = A.seen t ∙ rw (S.seen t) (sym (B.seen t))

      finished_same : {t : ℕ} {v : Val} → Finished T t v s s' → Finished T t v r r' → Same s' r'
      finished_same {t} F G = record {
        newest = λ u. F.newest u ∙ S.newest u ∙ sym (G.newest u);
        previous = λ u. F.previous u ∙ S.previous u ∙ sym (G.previous u);
        seen = λ u. F.seen u ∙ S.seen u ∙ sym (G.seen u);
        pointer = λ l. F.pointer l ∙ rw (S.pointer l) (sym (G.pointer l));
        mark = λ l. F.mark l ∙ rw (S.mark l) (sym (G.mark l));
        cell = λ u p. F.cell u p ∙ rw (S.newest t, S.cell u p) (sym (G.cell u p));
      }

      -- one event more
      pub step_same : (e : Event Val) → Step T (Lowest T) e s s' → Step T (Lowest T) e r r' → Same s' r'
      unfolding Step
      step_same (arrival m) A B = arrived_same A B
      step_same (start t) A B = rw (A, B) S
      step_same (read l) A B = rw (A, B) S
      step_same (finish t v) A B = finished_same A B

  -- two runs over one history end in the same boxes
  pub runs_same : {s r : Boxes Val} {h : List (Event Val)} → Run T (Lowest T) s h → Run T (Lowest T) r h → Same s r
  runs_same (fresh f) (fresh g) = fresh_same f g
  runs_same (next e a x) (next _ b y) = step_same (runs_same a b) e x y
