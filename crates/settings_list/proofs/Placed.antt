-- A refusal that `map_err` gave its place.
-- Assumes nothing.
use mathlib.Core.Path.{◌≡◌, refl}
use Prim.Native.Nat.{ℕ}
use Rattle.std.specs.Prelude.{Result, Ok, Err, MatchResult}
use Rattle.refusals.specs.declared.Refusal.{Refusal}
use Rattle.refusals.specs.declared.Refused.{Refused}

module _ {A : Type 0} where
  -- m is r, its refusal at the place p
  abbrev pub Placed : Result A Refusal → Result A Refused → ℕ → Type 0
  Placed r m p = MatchResult r (λ x. m ≡ Ok x) (λ e. m ≡ Err (record { refusal = e; place = p }))

  -- so what was accepted before is what is accepted
  pub placed_ok : (r : Result A Refusal) {m : Result A Refused} (p : ℕ) {x : A} → Placed r m p → m ≡ Ok x → r ≡ Ok x
  placed_ok (Ok y) p h e = cc
  placed_ok (Err y) p h e = absurd cc

  -- and the refusal before is the refusal, at that place
  pub placed_err : (r : Result A Refusal) {m : Result A Refused} (p : ℕ) {d : Refused} → Placed r m p → m ≡ Err d → (r ≡ Err d.refusal) × (d.place ≡ p)
  placed_err (Ok y) p h e = absurd cc
  placed_err (Err y) p {d} h e = let k : d ≡ record { refusal = y; place = p } = cc in rw k (refl, refl)
