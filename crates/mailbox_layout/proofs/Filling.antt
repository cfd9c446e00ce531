-- The regions of a fresh state, turn by turn.
-- Assumes nothing.
use mathlib.Core.Path.{◌≡◌, refl, ap, ◌∙◌}
use mathlib.Core.List.{List, [], ◌∷◌}
use Prim.Native.Nat.{ℕ, ◌+◌, ◌*◌, ◌/◌, ◌≤◌}
use lib.ListN.{set, replicate}
use Rattle.lists.specs.Lists.{upto}
use Rattle.lists.proofs.Lists.{at_bound, upto_none, upto_more}
use Rattle.protocol_state.specs.Saved.{state_room, at, positions}
use Rattle.regions.specs.Regions.{regions, region}
use Rattle.mailbox_layout.specs.Layout.{cell_region, previous_region, newest_region, default_region, control_size, cut, cut_values, defaults_in, start_value_in, cells_in}
use Rattle.mailbox_layout.specs.Fresh.{fresh_control, with_number, each_default}

-- the first t tasks have the position 1
ones : ℕ → List ℕ
ones t = upto (λ i x. 1) t (replicate state_room.tasks 0)

pub first_ones : ℕ → List (List ℕ)
first_ones t =
    replicate state_room.tasks 0
    ∷ ones t
    ∷ ones t
    ∷ replicate state_room.tasks 0
    ∷ replicate state_room.links 0
    ∷ replicate state_room.links 0
    ∷ replicate state_room.links 0
    ∷ replicate state_room.links 0
    ∷ replicate state_room.links 0
    ∷ []

pub ones_none : cut (replicate control_size 0) ≡ first_ones 0
unfolding regions first_ones ones upto
ones_none = refl

pub ones_more : (t : ℕ) {c c₁ c₂ : List (List ℕ)} → c ≡ first_ones t → c₁ ≡ with_number newest_region t 1 c → c₂ ≡ with_number previous_region t 1 c₁ → c₂ ≡ first_ones (t + 1)
unfolding first_ones ones
ones_more t e e₁ e₂ =
    e₂ ∙ ap (with_number previous_region t 1) (e₁ ∙ ap (with_number newest_region t 1) e) ∙ rw (upto_more {A = ℕ} (λ i x. 1) t (replicate state_room.tasks 0) 0 refl refl)

pub ones_end : (i : ℕ) {c : List (List ℕ)} → c ≡ first_ones i → i ≤ state_room.tasks → state_room.tasks ≤ i → c ≡ fresh_control []
unfolding first_ones ones upto
ones_end i e l h = at_bound first_ones i state_room.tasks e l h

-- the first i cells hold their task's default; the start values B stay
pub first_cells : ℕ → List ℕ → List ℕ → List ℕ → List (List ℕ)
first_cells i D B C = D ∷ B ∷ upto (λ k x. at D (k / positions)) i C ∷ []

module _ (v : List ℕ) where
  pub cells_none : cut_values v ≡ first_cells 0 (defaults_in v) (start_value_in v) (cells_in v)
  unfolding regions first_cells
  cells_none = rw (upto_none (λ k x. at (defaults_in v) (k / positions)) (cells_in v))

  pub cells_end : (i : ℕ) {n : List (List ℕ)} → n ≡ first_cells i (defaults_in v) (start_value_in v) (cells_in v) → i ≤ state_room.tasks * positions → state_room.tasks * positions ≤ i →
      n ≡ set (cut_values v) cell_region (each_default (defaults_in v) (cells_in v))
  unfolding regions first_cells
  cells_end i e l h = at_bound (λ (k : ℕ). first_cells k (defaults_in v) (start_value_in v) (cells_in v)) i (state_room.tasks * positions) e l h

pub cells_more : (i : ℕ) (D B C : List ℕ) {n n' : List (List ℕ)} {x : ℕ} → n ≡ first_cells i D B C → x ≡ at (region n default_region) (i / positions) → n' ≡ with_number cell_region i x n →
    n' ≡ first_cells (i + 1) D B C
unfolding first_cells
cells_more i D B C {n} {n'} {x} e d p =
    let f : ℕ → ℕ → ℕ = λ k y. at D (k / positions) in
    let o : x ≡ at D (i / positions) = d ∙ ap (λ (rs : List (List ℕ)). at (region rs 0) (i / positions)) e in
    p ∙ ap (with_number cell_region i x) e ∙ ap (λ (ys : List ℕ). D ∷ B ∷ ys ∷ []) (upto_more f i C 0 refl o)
