-- A set that reaches 2 ^ n has a task from n on.
-- Assumes nothing.
use mathlib.Core.Path.{◌≡◌, sym, ap, ◌∙◌}
use mathlib.Core.Bool.{true}
use Prim.Native.Nat.{ℕ, zero, suc, ◌+◌, ◌*◌, ◌/◌, ◌%◌, ◌^◌, ◌≤◌, ◌<◌}
use native.Mathlib.Omega.{arith}
use native.Mathlib.Nat.{pow-succ', div-div-eq-div-mul, div-one, div-add-mod, mod-lt, le-div_iff_mul-le, one-le-pow}
use native.Mathlib.Decide.{ℕ_discrete}
use borrow.Author.Tests.{eq-eqb}
use lib.Dec.{lit<}
use lib.Pow.{pow-add}
use Rattle.protocol.specs.Event.{has}

-- a number that is not 0 has a bit; `most` is at least the number
some_bit : (most k : ℕ) → 1 ≤ k → k ≤ most → (i : ℕ) × (k / 2 ^ i % 2 ≡ 1)
some_bit zero k a b = absurd (omega arith)
some_bit (suc most) k a b = go (ℕ_discrete (k % 2) 1) (some_bit most (k / 2))
  where
    halves : 2 * (k / 2) + k % 2 ≡ k
    halves = div-add-mod k 2

    small : k % 2 < 2
    small = mod-lt k (lit< tt)

    go : Dec (k % 2 ≡ 1) → (1 ≤ k / 2 → k / 2 ≤ most → (i : ℕ) × (k / 2 / 2 ^ i % 2 ≡ 1)) → (i : ℕ) × (k / 2 ^ i % 2 ≡ 1)
    go (yes e) f = (0, ap (λ (x : ℕ). x % 2) (div-one k) ∙ e)
    go (no n) f =
        let w = f (omega (arith, halves, small)) (omega (arith, halves, small)) in
        (suc w.0, ap (λ (d : ℕ). k / d % 2) (pow-succ' 2 w.0) ∙ ap (λ (x : ℕ). x % 2) (sym (div-div-eq-div-mul k 2 (2 ^ w.0))) ∙ w.1)

pub high_bit : (m n : ℕ) → 2 ^ n ≤ m → (t : ℕ) × (n ≤ t) × (has m t ≡ true)
unfolding has
high_bit m n h =
    let l : 1 ≤ m / 2 ^ n = (le-div_iff_mul-le (one-le-pow n 2 (lit< tt))).1 (omega arith) in
    let w = some_bit (m / 2 ^ n) (m / 2 ^ n) l (omega arith) in (
      n + w.0,
      omega arith,
      eq-eqb _ 1 (ap (λ (d : ℕ). m / d % 2) (pow-add 2 n w.0) ∙ ap (λ (x : ℕ). x % 2) (sym (div-div-eq-div-mul m (2 ^ n) (2 ^ w.0))) ∙ w.1),
    )
