-- Whether a state is sound, way by way.
-- Assumes nothing.
use mathlib.Core.Path.{◌≡◌, refl, sym, ◌∙◌}
use mathlib.Core.Bool.{Bool, false, ◌&&◌}
use Prim.Native.Nat.{ℕ, zero, suc, ◌<◌}
use native.Mathlib.Omega.{arith}
use borrow.Author.Tests.{eq-eqb, ne_eqb}
use Rattle.lists.specs.Lists.{every}
use Rattle.protocol_state.specs.Saved.{Saved, state_room, link_in}
use Rattle.protocol_state.specs.Rules.{judged_table}
use Rattle.protocol_state.specs.Sound.{clock_is, task_stands, link_stands, is_sound}

-- a test of each number below n is any other that agrees with it there
pub every_same : (f g : ℕ → Bool) (n : ℕ) → ((k : ℕ) → k < n → f k ≡ g k) → every f n ≡ every g n
unfolding every
every_same f g zero h = refl
every_same f g (suc n) h = rw (h n (omega arith), every_same f g n (λ k l. h k (omega arith)))

-- k is what its table is judged, under the order `ahead`
module _ (ahead : ℕ → ℕ → Bool) (q : Saved) {k : ℕ} (e : k ≡ judged_table ahead q.tasks (link_in q) state_room q.links) where
  pub unsound : (k ≡ 0 → ⊥) → false ≡ is_sound ahead state_room q
  unfolding is_sound
  unsound ne = rw (ne_eqb _ 0 (λ z. ne (e ∙ z)))

  pub sound : {o a b : Bool} → k ≡ 0 → o ≡ clock_is q.policy q.last → a ≡ every (task_stands ahead q) q.tasks → b ≡ every (link_stands ahead q) q.links → (o && (a && b)) ≡ is_sound ahead state_room q
  unfolding is_sound
  sound z eo ea eb = rw (eq-eqb _ 0 (sym e ∙ z), eo, ea, eb)
