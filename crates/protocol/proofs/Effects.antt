-- What an arrival and a finish do to the boxes, case by case: the published equations, where their tests are known.
-- Assumes nothing.
use mathlib.Core.Path.{◌≡◌, refl, ap, ◌∙◌}
use mathlib.Core.Logic.{◌≢◌}
use mathlib.Core.Bool.{true, false, cond, ◌&&◌}
use Prim.Native.Nat.{ℕ, ◌<◌}
use borrow.Author.Tests.{lt-ltb, eq-eqb, ne_eqb}
use lib.Dec.{eqb, ltb}
use Rattle.lists.proofs.Bools.{and_if}
use Rattle.protocol.specs.Event.{has}
use Rattle.protocol.specs.Table.{Table, behind, marks}
use Rattle.protocol.specs.Published.{Boxes, seen_once, Choice, Arrived, Finished}

module _ {Val : Type 0} (T : Table Val) where
  module _ {choice : Choice Val} {m : ℕ} {s s' : Boxes Val} (A : Arrived T choice m s s') where
    -- who arrives has for its previous position what was its newest
    pub previous_in_lem : (t : ℕ) → has m t ≡ true → s'.previous t ≡ s.newest t
    previous_in_lem t e = rw (A.previous t, e)

    -- who does not arrive keeps it
    pub previous_out : (t : ℕ) → has m t ≡ false → s'.previous t ≡ s.previous t
    previous_out t e = rw (A.previous t, e)

    -- one more arrival of who arrives is seen
    pub seen_in : (t : ℕ) → has m t ≡ true → s'.seen t ≡ seen_once (s.seen t)
    seen_in t e = rw (A.seen t, e)

    -- and none of who does not
    pub seen_out : (t : ℕ) → has m t ≡ false → s'.seen t ≡ s.seen t
    seen_out t e = rw (A.seen t, e)

    -- an arriving reader's direct link points to its writer's newest position
    pub pointer_direct : (l : ℕ) → l < T.links → has m (T.reader l) ≡ true → T.delayed l ≡ false → s'.pointer l ≡ s'.newest (T.writer l)
    pointer_direct l k e d = rw (A.pointer l, lt-ltb l T.links k, e, d)

    -- its delayed link to the previous one
    pub pointer_delayed : (l : ℕ) → l < T.links → has m (T.reader l) ≡ true → T.delayed l ≡ true → s'.pointer l ≡ s'.previous (T.writer l)
    pointer_delayed l k e d = rw (A.pointer l, lt-ltb l T.links k, e, d)

    -- the link of a reader that does not arrive keeps its pointer
    pub pointer_out : (l : ℕ) → has m (T.reader l) ≡ false → s'.pointer l ≡ s.pointer l
    pointer_out l e = rw (A.pointer l, and_if (ltb l T.links) (has m (T.reader l)) (λ k. e))

    -- an arriving reader's link is marked by its writer's arrivals
    pub mark_in_lem : (l : ℕ) → l < T.links → has m (T.reader l) ≡ true → s'.mark l ≡ marks T l (s'.seen (T.writer l))
    mark_in_lem l k e = rw (A.mark l, lt-ltb l T.links k, e)

    -- the link of a reader that does not arrive keeps its mark
    pub mark_out : (l : ℕ) → has m (T.reader l) ≡ false → s'.mark l ≡ s.mark l
    mark_out l e = rw (A.mark l, and_if (ltb l T.links) (has m (T.reader l)) (λ k. e))

  module _ {t : ℕ} {v : Val} {s s' : Boxes Val} (F : Finished T t v s s') where
    -- the value is at the newest position
    pub cell_new : s'.cell t (s.newest t) ≡ v
    cell_new = F.cell t (s.newest t) ∙ ap (λ b. cond b v (s.cell t (s.newest t))) its_own
      where
        its_own : eqb t t && eqb (s.newest t) (s.newest t) ≡ true
        its_own = rw (eq-eqb t t refl, eq-eqb (s.newest t) (s.newest t) refl)

    -- the task's other positions stay
    pub cell_same : (p : ℕ) → p ≢ s.newest t → s'.cell t p ≡ s.cell t p
    cell_same p n = rw (F.cell t p, and_if (eqb t t) (eqb p (s.newest t)) (λ k. ne_eqb p (s.newest t) n))

    -- and so do the other tasks' positions
    pub cell_other : (u p : ℕ) → u ≢ t → s'.cell u p ≡ s.cell u p
    cell_other u p n = rw (F.cell u p, ne_eqb u t n)

    -- a link of another reader keeps its pointer
    pub pointer_other : (l : ℕ) → T.reader l ≢ t → s'.pointer l ≡ s.pointer l
    pointer_other l n = rw (F.pointer l, ne_eqb (T.reader l) t n, and_if (ltb l T.links) false (λ k. refl))

    -- a link by which the task reads from a writer ahead of it has none any more
    pub pointer_gone : (l : ℕ) → l < T.links → T.reader l ≡ t → behind T l ≡ true → s'.pointer l ≡ 0
    pointer_gone l k e b = rw (F.pointer l, lt-ltb l T.links k, ← e, eq-eqb (T.reader l) (T.reader l) refl, b)
