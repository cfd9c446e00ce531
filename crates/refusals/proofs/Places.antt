-- What a refusal with its place says of what was judged.
-- Assumes nothing.
use mathlib.Core.Path.{◌≡◌, refl, sym, ap}
use Prim.Native.Nat.{ℕ}
use Rattle.std.specs.Prelude.{Result, Ok, Err}
use Rattle.refusals.specs.Numbers.{placed}
use Rattle.refusals.specs.declared.Refusal.{Refusal}
use Rattle.refusals.specs.declared.Refused.{Refused}

module _ {A : Type 0} where
  -- nothing is refused
  pub placed_ok : (judged : Result A Refusal) (p : ℕ) {x : A} → placed judged p ≡ Ok x → judged ≡ Ok x
  placed_ok (Ok y) p {x} e = let same : y ≡ x = cc in ap Ok same
  placed_ok (Err why) p e = absurd cc

  -- it is, for this reason, at this place
  pub placed_err : (judged : Result A Refusal) (p : ℕ) {r : Refused} → placed judged p ≡ Err r → (judged ≡ Err r.refusal) × (r.place ≡ p)
  placed_err (Ok y) p e = absurd cc
  placed_err (Err why) p {r} e =
      let same : record { refusal = why; place = p } ≡ r = cc in
      (ap (λ (x : Refused). Err x.refusal) same, sym (ap (λ (x : Refused). x.place) same))
