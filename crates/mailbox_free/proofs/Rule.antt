-- What an entry of the table says: the lowest position that is not taken, or that all ten are.
-- Assumes nothing.
use mathlib.Core.Path.{◌≡◌, refl}
use mathlib.Core.Bool.{Bool, true, false, cond}
use mathlib.Core.Logic.{◌⊎◌, inl, inr, ⊎_elim}
use Prim.Native.Nat.{ℕ, ◌+◌, ◌≤◌, ◌<◌}
use native.Mathlib.Omega.{arith}
use borrow.Author.Tests.{leb-true, leb-false}
use lib.Dec.{leb}
use Rattle.lists.specs.Lists.{first}
use Rattle.lists.proofs.Search.{first_least, first_stops, first_from}
use Rattle.protocol_state.specs.Saved.{positions}
use Rattle.mailbox_free.specs.Pattern.{taken_in, TakenBefore, LeftFree, lowest_in}

-- an entry is the lowest position that its pattern leaves free, or it is 0 and all ten are taken
pub lowest_says : (k : ℕ) → LeftFree k (lowest_in k) ⊎ ((lowest_in k ≡ 0) × TakenBefore k (positions + 1))
lowest_says k = go (leb stop positions) refl where
  stop : ℕ
  stop = first (taken_in k) positions 1

  go : (b : Bool) → leb stop positions ≡ b → LeftFree k (cond b stop 0) ⊎ ((cond b stop 0 ≡ 0) × TakenBefore k (positions + 1))
  go false e =
      let h : positions < stop = leb-false _ _ e in
      inr (refl, λ q l m. first_least (taken_in k) positions 1 q l (omega arith))
  go true e =
      let h : stop ≤ positions = leb-true _ _ e in
      inl record {
        from = first_from (taken_in k) positions 1;
        upto = h;
        free = ⊎_elim (λ s. s) (λ (s : stop ≡ 1 + positions). absurd (omega arith)) (first_stops (taken_in k) positions 1);
        before = λ q l m. first_least (taken_in k) positions 1 q l m;
      }
