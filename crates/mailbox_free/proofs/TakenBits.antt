-- Words of taken positions: bit p of the word says whether position p is taken. What a word says that is put together from others, and what the table
-- says of its pattern.
-- Assumes nothing.
use mathlib.Core.Path.{◌≡◌, refl, sym, ap, ◌∙◌}
use mathlib.Core.Bool.{Bool, true, false, cond, ◌&&◌, ◌||◌}
use mathlib.Core.List.{List}
use Prim.Native.Nat.{ℕ, zero, suc, ◌+◌, ◌-◌, ◌*◌, ◌/◌, ◌%◌, ◌^◌, ◌≤◌, ◌<◌, min}
use native.Mathlib.Nat.{mod-lt, one-mul, zero-mul}
use native.Mathlib.Omega.{arith}
use borrow.Author.Tests.{eqb-true, ne_eqb, leb-true, leb-false}
use lib.Bits.{bit_or, or_shr, or_mod}
use lib.Dec.{eqb, leb}
use lib.Pow.{field, mod-mod-pow, shl_exact, shr-shr}
use mir.Val.{bool_byte}
use Rattle.lists.specs.Lists.{every, first}
use Rattle.lists.proofs.Lists.{every_at}
use Rattle.lists.proofs.Search.{first_from, first_same, first_less}
use Rattle.protocol.specs.Event.{has}
use Rattle.protocol.proofs.Schedule.{has_not}
use Rattle.protocol_state.specs.Saved.{at, positions}
use Rattle.mailbox_free.specs.Bits.{last_bit, bit_word}
use Rattle.mailbox_free.specs.Pattern.{patterns, taken_in, lowest_in, AllLowest}

-- ---- two words in one
or_digit : (x y : ℕ) → x < 2 → y < 2 → eqb (bit_or x y) 1 ≡ (eqb x 1 || eqb y 1)
or_digit zero zero l h = refl
or_digit zero (suc zero) l h = refl
or_digit (suc zero) zero l h = refl
or_digit (suc zero) (suc zero) l h = refl
or_digit (suc (suc x)) y l h = absurd (omega arith)
or_digit zero (suc (suc y)) l h = absurd (omega arith)
or_digit (suc zero) (suc (suc y)) l h = absurd (omega arith)

-- has each bit of both
pub has_or : (a b p : ℕ) → has (bit_or a b) p ≡ (has a p || has b p)
unfolding has
has_or a b p =
    ap (λ (n : ℕ). eqb n 1) (ap (λ (n : ℕ). n % 2) (or_shr a b p) ∙ or_mod (a / 2 ^ p) (b / 2 ^ p) 1)
    ∙ or_digit (a / 2 ^ p % 2) (b / 2 ^ p % 2) (mod-lt _ (omega arith)) (mod-lt _ (omega arith))

pub has_none : (p : ℕ) → has 0 p ≡ false
has_none p = has_not 0 0 p (omega arith) (omega arith)

-- ---- one bit
digit : (b : Bool) → eqb (cond b 1 0) 1 ≡ b
digit true = refl
digit false = refl

-- a word with one bit has that bit: computed, for the bits of a word
has_bit : (n p : ℕ) → n < 16 → p < 16 → has (2 ^ n) p ≡ eqb n p
unfolding has every
has_bit n p l h =
    ap (λ (d : ℕ). eqb d 1)
    (eqb-true (2 ^ n / 2 ^ p % 2) (cond (eqb n p) 1 0)
    (every_at (λ j. eqb (2 ^ n / 2 ^ j % 2) (cond (eqb n j) 1 0)) 16 p
    (every_at (λ k. every (λ j. eqb (2 ^ k / 2 ^ j % 2) (cond (eqb k j) 1 0)) 16) 16 n refl l) h))
    ∙ digit (eqb n p)

-- the bit of position x, where b says so, is at x and nowhere else; what lies past the positions shares the last bit
pub has_taken : (b : Bool) (x p : ℕ) → p < last_bit → has (cond b (bit_word x) 0) p ≡ (b && eqb x p)
has_taken false x p l = has_none p
has_taken true x p l = go (leb x last_bit) refl where
  go : (b : Bool) → leb x last_bit ≡ b → has (bit_word x) p ≡ eqb x p
  go true e =
      let h : x ≤ last_bit = leb-true _ _ e in
      let s : min x last_bit ≡ x = omega arith in
      rw s (has_bit x p (omega arith) (omega arith))
  go false e =
      let h : last_bit < x = leb-false _ _ e in
      let s : min x last_bit ≡ last_bit = omega arith in
      rw s (has_bit last_bit p (omega arith) (omega arith) ∙ ne_eqb _ _ (λ (q : last_bit ≡ p). omega arith) ∙ sym (ne_eqb _ _ (λ (q : x ≡ p). omega arith)))

-- ---- from the word to the pattern: bit p is bit p - 1
has_pattern : (a p : ℕ) → 1 ≤ p → p ≤ positions → taken_in (a / 2 % patterns) p ≡ has a p
unfolding has
has_pattern a p l h =
    let ten : positions ≡ ((positions - p) + 1) + (p - 1) = omega arith in
    let one : 1 + (p - 1) ≡ p = omega arith in
    ap (λ (n : ℕ). eqb n 1)
    (ap (λ (n : ℕ). a / 2 % 2 ^ n / 2 ^ (p - 1) % 2) ten
    ∙ ap (λ (n : ℕ). n % 2) (field (a / 2) ((positions - p) + 1) (p - 1))
    ∙ mod-mod-pow (a / 2 / 2 ^ (p - 1)) (positions - p) 1
    ∙ ap (λ (n : ℕ). n % 2) (shr-shr a 1 (p - 1))
    ∙ ap (λ (n : ℕ). a / 2 ^ n % 2) one)

-- ---- the search
-- the table's answer to the pattern, the tenth in place of none, is the lowest that is not taken, the tenth untested
untaken : (a : ℕ) → cond (eqb (lowest_in (a / 2 % patterns)) 0) positions (lowest_in (a / 2 % patterns)) ≡ first (has a) 9 1
untaken a =
    go (leb all positions) refl ∙ sym (first_less (taken_in (a / 2 % patterns)) 9 1)
    ∙ first_same (taken_in (a / 2 % patterns)) (has a) 9 1 (λ p l h. has_pattern a p l (omega arith)) where
      all : ℕ
      all = first (taken_in (a / 2 % patterns)) positions 1

      go : (b : Bool) → leb all positions ≡ b → cond (eqb (cond b all 0) 0) positions (cond b all 0) ≡ min all 10
      go true e =
          let h : all ≤ positions = leb-true _ _ e in
          let s : eqb all 0 ≡ false = ne_eqb _ _ (λ (z : all ≡ 0). omega (arith, first_from (taken_in (a / 2 % patterns)) positions 1)) in
          rw s (omega arith)
      go false e =
          let h : positions < all = leb-false _ _ e in
          omega arith

-- what the code answers with, of what the table has at the pattern
pub answered : {t : List ℕ} (a : ℕ) → AllLowest t → cond (eqb (at t (a / 2 % patterns)) 0) positions (at t (a / 2 % patterns)) ≡ first (has a) 9 1
answered a right =
    let s = right.entry (a / 2 % patterns) (mod-lt (a / 2) (omega arith)) in
    rw s (untaken a)

-- ---- a bit as the code makes it: 1 or 0, shifted
pub shifted : (b : Bool) (n : ℕ) → n ≤ last_bit → bool_byte b * 2 ^ n % 2 ^ 16 ≡ cond b (2 ^ n) 0
shifted true n l = shl_exact 1 n 16 (omega arith) (omega arith) ∙ one-mul (2 ^ n)
shifted false n l = ap (λ (k : ℕ). k % 2 ^ 16) (zero-mul (2 ^ n))
