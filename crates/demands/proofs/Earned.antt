-- Of the numbers that fit the one that is tried first is given: numbers tried in their turns, each by its test.
-- Assumes nothing.
use mathlib.Core.Path.{◌≡◌, refl, sym, ap, subst, ◌∙◌}
use mathlib.Core.Logic.{◌↔◌}
use mathlib.Core.Bool.{Bool, true, false, cond, true≢false}
use mathlib.Core.List.{List, [], ◌∷◌}
use Prim.Native.Nat.{ℕ, ◌*◌, ◌/◌, ◌<◌, ◌≤◌}
use native.Mathlib.Omega.{arith}
use native.Mathlib.Decide.{dec_le}
use borrow.Author.Tests.{eqb-true, ne_eqb}
use lib.Dec.{eqb}
use Rattle.demands.specs.Refusals.{turn, Earns, none, first}

-- the number whose turn it is: no two have the same turn
unfoldable number_of : ℕ → ℕ
number_of k = cond (eqb k 121) 22 (cond (eqb k 122) 21 (cond (eqb k 165) 23 (k / 10)))

number_turn : (n : ℕ) → number_of (turn n) ≡ n
unfolding turn number_of
number_turn n = large (eqb n 22) refl
  where
    rest : number_of (n * 10) ≡ n
    rest = rw (ne_eqb (n * 10) 121 (λ z. omega arith), ne_eqb (n * 10) 122 (λ z. omega arith), ne_eqb (n * 10) 165 (λ z. omega arith)) (omega arith)

    late : (b : Bool) → eqb n 23 ≡ b → number_of (cond b 165 (n * 10)) ≡ n
    late true e = sym (eqb-true n 23 e)
    late false e = rest

    falls : (b : Bool) → eqb n 21 ≡ b → number_of (cond b 122 (cond (eqb n 23) 165 (n * 10))) ≡ n
    falls true e = sym (eqb-true n 21 e)
    falls false e = late (eqb n 23) refl

    large : (b : Bool) → eqb n 22 ≡ b → number_of (cond b 121 (cond (eqb n 21) 122 (cond (eqb n 23) 165 (n * 10)))) ≡ n
    large true e = sym (eqb-true n 22 e)
    large false e = falls (eqb n 21) refl

one_turn : (a b : ℕ) → turn a ≡ turn b → a ≡ b
one_turn a b e = sym (number_turn a) ∙ ap number_of e ∙ number_turn b

-- one number is given
module _ {Fits : ℕ → Type 0} where
  pub earns_one : {a b : ℕ} → Earns Fits a → Earns Fits b → a ≡ b
  earns_one (none x) (none y) = refl
  earns_one (none x) (first f y) = absurd (x _ f)
  earns_one (first f x) (none y) = absurd (y _ f)
  earns_one {a} {b} (first f x) (first g y) = go (dec_le (turn a) (turn b)) (dec_le (turn b) (turn a))
    where
      go : Dec (turn a ≤ turn b) → Dec (turn b ≤ turn a) → a ≡ b
      go (yes h) (yes k) = one_turn a b (omega arith)
      go (yes h) (no k) = absurd (y a (omega arith) f)
      go (no h) k = absurd (x b (omega arith) g)

  -- so a number that is earned is the one exactly where it is earned
  pub earns_exactly : {x r : ℕ} → x ≡ r → Earns Fits r → (n : ℕ) → (x ≡ n) ↔ Earns Fits n
  earns_exactly e g n = (λ z. subst (λ (k : ℕ). Earns Fits k) (sym e ∙ z) g, λ f. e ∙ earns_one g f)

-- what fits alike earns alike
pub earns_alike : {P Q : ℕ → Type 0} → ((n : ℕ) → P n → Q n) → ((n : ℕ) → Q n → P n) → {r : ℕ} → Earns P r → Earns Q r
earns_alike f g (none x) = none (λ n q. x n (g n q))
earns_alike f g (first p x) = first (f _ p) (λ n h q. x n h (g n q))

-- a number, and the test by which it is given
pub record Test : Type 0 where
  pub number : ℕ
  pub holds : Bool

abbrev pub test : ℕ → Bool → Test
test n b = record { number = n; holds = b }

-- the first that holds
abbrev pub chain : List Test → ℕ
chain [] = 0
chain (t ∷ ts) = cond t.holds t.number (chain ts)

-- n is the number of a test that holds
pub data Fires : List Test → ℕ → Type 0 where
  here : {t : Test} {ts : List Test} → t.holds ≡ true → Fires (t ∷ ts) t.number
  later : {t : Test} {ts : List Test} {n : ℕ} → Fires ts n → Fires (t ∷ ts) n

-- the turns rise, from above k on
abbrev pub InTurn : ℕ → List Test → Type 0
InTurn k [] = Unit {0}
InTurn k (t ∷ ts) = (k < turn t.number) × InTurn (turn t.number) ts

fires_above : {k n : ℕ} (ts : List Test) → InTurn k ts → Fires ts n → k < turn n
fires_above (t ∷ ts) r (here e) = r.0
fires_above {k = k} {n = n} (t ∷ ts) r (later f) = omega (arith, r.0, fires_above {k = turn t.number} {n = n} ts r.1 f)
fires_above {k = k} {n = n} [] r past = elim past [ ]

fires_nothing : {n : ℕ} → Fires [] n → ⊥
fires_nothing = elim [ ]

pub chain_earns : (k : ℕ) (ts : List Test) → InTurn k ts → Earns (Fires ts) (chain ts)
chain_earns k [] r = none (λ n f. fires_nothing f)
chain_earns k (t ∷ ts) r = go t.holds refl (chain_earns (turn t.number) ts r.1)
  where
    sooner : {n : ℕ} → turn n < turn t.number → Fires (t ∷ ts) n → ⊥
    sooner h (here e) = omega arith
    sooner h (later f) = omega (arith, fires_above ts r.1 f)

    pass : {n : ℕ} → t.holds ≡ false → Fires (t ∷ ts) n → Fires ts n
    pass u (here e) = absurd (true≢false (sym e ∙ u))
    pass u (later f) = f

    go : (c : Bool) → t.holds ≡ c → Earns (Fires ts) (chain ts) → Earns (Fires (t ∷ ts)) (cond c t.number (chain ts))
    go true e g = first (here e) (λ n h f. sooner h f)
    go false e g = earns_alike (λ n f. later f) (λ n f. pass e f) g
