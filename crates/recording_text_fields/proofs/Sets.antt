-- The set that an arrival hands over: it is judged as the set that its numbers name, and the empty one stands for no set that a table accepts.
-- Assumes nothing.
use mathlib.Core.Path.{◌≡◌, refl, sym, ◌∙◌}
use mathlib.Core.Bool.{Bool, true, false, true≢false, ◌||◌, or-true, or-false}
use mathlib.Core.List.{List, [], ◌∷◌}
use Prim.Native.Nat.{ℕ, ◌^◌, ◌≤◌, ◌<◌}
use native.Mathlib.Nat.{le_trans}
use native.Mathlib.Omega.{arith}
use borrow.Author.Tests.{leb-true, leb-false, lt-ltb, le-ltb, le-leb, ne_eqb}
use lib.Bits.{bit_or, or_lt, or_add_and, and_le_l, and_le_r}
use lib.Dec.{lit≤, lit<, eqb, eqb-suc-zero, leb}
use lib.ListN.{length}
use lib.Pow.{pow_pos, pow_mono, pow-lt}
use Rattle.lists.proofs.Bools.{or_left, or_right}
use Rattle.protocol_state.specs.Judge.{judged_arrival}
use Rattle.recording_format.specs.declared.WhichKind.{WhichKind}
use Rattle.recording_format.specs.declared.WhichKind.TheVariants.{Base, Wide, Dated}
use Rattle.recording_format.specs.RecordingKind.{any_kind}
use Rattle.recording_text_fields.specs.Numeral.{last_of_set, clipped, set_with, named_set, set_of, handed_set}

-- no table of any kind has a task of the last bit's number
pub last_of_set_free : (which : WhichKind) → (any_kind which).tasks ≤ last_of_set
last_of_set_free Base = lit≤ tt
last_of_set_free Wide = lit≤ tt
last_of_set_free Dated = lit≤ tt

-- whether one of these numbers is above the tasks of all tables
abbrev pub some_above : List ℕ → Bool
some_above [] = false
some_above (n ∷ ns) = leb last_of_set n || some_above ns

-- two sets in one
or_first : (a b : ℕ) → a ≤ bit_or a b
or_first a b = omega (arith, or_add_and a b, and_le_r a b)

or_second : (a b : ℕ) → b ≤ bit_or a b
or_second a b = omega (arith, or_add_and a b, and_le_l a b)

module _ (bit : ℕ → ℕ) where
  -- a set does not lose by more tasks
  set_grows : (set : ℕ) (ns : List ℕ) → set ≤ set_with bit set ns
  unfolding set_with
  set_grows set [] = omega arith
  set_grows set (n ∷ ns) =
      let one = 2 ^ bit n in
      omega (arith, or_first set one, set_grows (bit_or set one) ns)

  -- with a task it is not empty
  set_some : (set n : ℕ) (ns : List ℕ) → 0 < set_with bit set (n ∷ ns)
  unfolding set_with
  set_some set n ns =
      let one = 2 ^ bit n in
      omega (arith, pow_pos (bit n), or_second set one, set_grows (bit_or set one) ns)

  -- with one above all tables it reaches past them, where such a task has a bit that is not lower
  module _ (high : (n : ℕ) → last_of_set ≤ n → last_of_set ≤ bit n) where
    set_above : (set : ℕ) (ns : List ℕ) → some_above ns ≡ true → 2 ^ last_of_set ≤ set_with bit set ns
    unfolding set_with
    set_above set [] e = absurd (true≢false (sym e))
    set_above set (n ∷ ns) e = go (leb last_of_set n) refl e (set_above (bit_or set (2 ^ bit n)) ns)
      where
        go :
            (b : Bool) → leb last_of_set n ≡ b → (b || some_above ns) ≡ true → (some_above ns ≡ true → 2 ^ last_of_set ≤ set_with bit (bit_or set (2 ^ bit n)) ns) →
            2 ^ last_of_set ≤ set_with bit (bit_or set (2 ^ bit n)) ns
        go true h t rest =
            let m : 2 ^ last_of_set ≤ 2 ^ bit n = pow_mono (high n (leb-true last_of_set n h)) in
            le_trans m (le_trans (or_second set (2 ^ bit n)) (set_grows (bit_or set (2 ^ bit n)) ns))
        go false h t rest = rest t

-- a task above has the last bit, as the set is gathered, and its own, as it is named
clipped_high : (n : ℕ) → last_of_set ≤ n → last_of_set ≤ clipped n
clipped_high n h = omega arith

-- without one above it does not reach past them
set_within : (set : ℕ) (ns : List ℕ) → set < 2 ^ last_of_set → some_above ns ≡ false → set_with clipped set ns < 2 ^ last_of_set
unfolding set_with
set_within set [] l e = l
set_within set (n ∷ ns) l e =
    let b : n < last_of_set = leb-false last_of_set n (or_left (leb last_of_set n) (some_above ns) e) in
    let m : clipped n < last_of_set = omega arith in
    set_within (bit_or set (2 ^ clipped n)) ns (or_lt last_of_set set (2 ^ clipped n) l (pow-lt m)) (or_right (leb last_of_set n) (some_above ns) e)

-- and is gathered as it is named
set_same : (set : ℕ) (ns : List ℕ) → some_above ns ≡ false → set_with clipped set ns ≡ set_with (λ n. n) set ns
unfolding set_with
set_same set [] e = refl
set_same set (n ∷ ns) e =
    let b : n < last_of_set = leb-false last_of_set n (or_left (leb last_of_set n) (some_above ns) e) in
    let m : clipped n ≡ n = omega arith in
    rw m (set_same (bit_or set (2 ^ n)) ns (or_right (leb last_of_set n) (some_above ns) e))

-- a set that names no task above all tables is handed over as it is
pub whole_set : (ns : List ℕ) → some_above ns ≡ false → handed_set (set_of ns) ≡ set_of ns
whole_set ns e = rw (lt-ltb (set_of ns) (2 ^ last_of_set) (set_within 0 ns (lit< tt) e))

-- a set is empty exactly where no task is named
set_empty : (ns : List ℕ) → eqb (set_of ns) 0 ≡ eqb (length ns) 0
unfolding set_with
set_empty [] = refl
set_empty (n ∷ ns) = ne_eqb (set_of (n ∷ ns)) 0 (λ z. omega (arith, set_some clipped 0 n ns, z)) ∙ sym (eqb-suc-zero (length ns))

-- what is handed over is the empty set exactly where no task is named, or one above all tables: so it never stands for a set that a table accepts
pub empty_exactly : (ns : List ℕ) → eqb (handed_set (set_of ns)) 0 ≡ (eqb (length ns) 0 || some_above ns)
empty_exactly ns = go (some_above ns) refl
  where
    go : (b : Bool) → some_above ns ≡ b → eqb (handed_set (set_of ns)) 0 ≡ (eqb (length ns) 0 || b)
    go true e = rw (le-ltb (set_of ns) (2 ^ last_of_set) (set_above clipped clipped_high 0 ns e), or-true (eqb (length ns) 0))
    go false e = rw (whole_set ns e, or-false (eqb (length ns) 0)) (set_empty ns)

-- a set that reaches past all tables is 12 in every table of any kind
past_all : (which : WhichKind) (set tasks : ℕ) (phase : ℕ → ℕ) → tasks ≤ (any_kind which).tasks → 2 ^ last_of_set ≤ set → judged_arrival set tasks phase ≡ 12
unfolding judged_arrival
past_all which set tasks phase few reach =
    let m : 2 ^ tasks ≤ 2 ^ last_of_set = pow_mono (le_trans few (last_of_set_free which)) in
    let h : leb (2 ^ tasks) set ≡ true = le-leb (2 ^ tasks) set (le_trans m reach) in
    rw (h, or-true (eqb set 0))

-- what is handed over is judged as the set that the numbers name, by every table of any kind
pub judged_as_named :
    (which : WhichKind) (ns : List ℕ) (tasks : ℕ) (phase : ℕ → ℕ) → tasks ≤ (any_kind which).tasks →
    judged_arrival (handed_set (set_of ns)) tasks phase ≡ judged_arrival (named_set ns) tasks phase
unfolding judged_arrival
judged_as_named which ns tasks phase few = go (some_above ns) refl
  where
    go : (b : Bool) → some_above ns ≡ b → judged_arrival (handed_set (set_of ns)) tasks phase ≡ judged_arrival (named_set ns) tasks phase
    go true e =
        let reach = set_above (λ n. n) (λ n h. h) 0 ns e in
        rw (le-ltb (set_of ns) (2 ^ last_of_set) (set_above clipped clipped_high 0 ns e)) (sym (past_all which (named_set ns) tasks phase few reach))
    go false e = rw (whole_set ns e, set_same 0 ns e)
