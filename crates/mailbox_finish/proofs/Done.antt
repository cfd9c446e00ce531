-- A finish, turn by turn.
-- Assumes nothing.
use mathlib.Core.Path.{◌≡◌, refl, ap, ◌∙◌}
use mathlib.Core.Bool.{Bool}
use Prim.Native.Nat.{ℕ, ◌+◌, ◌≤◌}
use lib.ListN.{set}
use Rattle.lists.proofs.Lists.{at_bound, upto_none, upto_more}
use Rattle.protocol_state.specs.Saved.{Saved, at, cell_of}
use Rattle.protocol_state.specs.Next.{with_cells, with_pointer, with_mark, released, finished}
use Rattle.mailbox_finish.specs.Frees.{freed_on, freed_one, freed_first, advanced}

-- the two puts of a link's turn
pub freed_link : (ahead : ℕ → ℕ → Bool) (t l : ℕ) (q : Saved) {x m : ℕ} {q₁ q₂ : Saved} → x ≡ freed_on ahead t q l (at q.pointer l) → m ≡ freed_on ahead t q l (at q.mark l)
    → q₁ ≡ with_pointer (set q.pointer l x) q → q₂ ≡ with_mark (set q₁.mark l m) q₁ → q₂ ≡ freed_one ahead t l q
freed_link ahead t l q {x} {m} a b e₁ e₂ = e₂ ∙ ap (λ (p : Saved). with_mark (set p.mark l m) p) e₁ ∙ rw (a, b)

module _ (ahead : ℕ → ℕ → Bool) (t : ℕ) (q₀ : Saved) where
  pub freed_none : q₀ ≡ freed_first ahead t 0 q₀
  freed_none = rw (upto_none (freed_on ahead t q₀) q₀.pointer, upto_none (freed_on ahead t q₀) q₀.mark)

  -- the turn of link l
  pub freed_more : (l : ℕ) {q q' : Saved} → q ≡ freed_first ahead t l q₀ → q' ≡ freed_one ahead t l q → q' ≡ freed_first ahead t (l + 1) q₀
  freed_more l e one = one ∙ ap (freed_one ahead t l) e ∙ rw (upto_more (freed_on ahead t q₀) l q₀.pointer 0 refl refl, upto_more (freed_on ahead t q₀) l q₀.mark 0 refl refl)

  pub freed_end : (i n : ℕ) {q : Saved} → q ≡ freed_first ahead t i q₀ → i ≤ n → n ≤ i → q ≡ freed_first ahead t n q₀
  freed_end = at_bound (λ (k : ℕ). freed_first ahead t k q₀)

  -- the two steps of a release
  pub release_both : {q₁ q₂ : Saved} → q₁ ≡ freed_first ahead t q₀.links q₀ → q₂ ≡ advanced 3 t q₁ → q₂ ≡ released ahead t q₀
  release_both e₁ e₂ = e₂ ∙ ap (advanced 3 t) e₁

  -- and of a finish
  pub finish_both :
      (v : ℕ) {q₁ q₂ : Saved} → q₁ ≡ with_cells (set q₀.cells (cell_of t (at q₀.newest t)) v) q₀ → q₂ ≡ released ahead t q₁ →
      q₂ ≡ finished ahead t v q₀
  finish_both v e₁ e₂ = e₂ ∙ ap (released ahead t) e₁
