-- Fields read as numbers, digit by digit; numbers gathered, one by one.
-- Assumes nothing.
use mathlib.Core.Path.{◌≡◌, refl, sym, ap, ◌∙◌}
use mathlib.Core.Bool.{Bool, true, false, cond}
use mathlib.Core.List.{List, [], ◌∷◌, ◌++◌, append_assoc, append-nil}
use Prim.Native.Nat.{ℕ, ◌+◌, ◌-◌, ◌*◌, ◌^◌, ◌≤◌, ◌<◌, min}
use native.Mathlib.Numerals.{add-one}
use native.Mathlib.Omega.{arith}
use borrow.Author.Tests.{lt-ltb, le-ltb, ne_eqb, eqb-true, eqb-false}
use lib.Bits.{bit_or}
use lib.Dec.{eqb}
use lib.ListN.{length, drop, set, get_or, length-append, drop_of_length-le}
use lib.Seq.{drop-cons}
use Rattle.std.proofs.Common.{Ok, Err}
use Rattle.recording_text_fields.specs.declared.number.Numbers.{Numbers}
use Rattle.recording_text_fields.specs.Numeral.{is_digit, all_digits, value_from, value, number_fault, field_number, first_fault, field_values, last_of_set, clipped, set_with, set_of, gathered, numbers_with}

-- a digit more
pub digits_on : (f : List ℕ) (i : ℕ) → i < length f → is_digit (get_or f i 0) ≡ true → all_digits (drop i f) ≡ all_digits (drop (i + 1) f)
unfolding all_digits
digits_on f i h e = ap all_digits (drop-cons f i 0 h) ∙ rw (e, add-one i)

pub digits_not : (f : List ℕ) (i : ℕ) → i < length f → is_digit (get_or f i 0) ≡ false → all_digits (drop i f) ≡ false
unfolding all_digits
digits_not f i h e = ap all_digits (drop-cons f i 0 h) ∙ rw e

pub value_on : (m : ℕ) (f : List ℕ) (i : ℕ) → i < length f → value_from m (drop i f) ≡ value_from (m * 10 + (get_or f i 0 - 48)) (drop (i + 1) f)
unfolding value_from
value_on m f i h = ap (value_from m) (drop-cons f i 0 h) ∙ rw (add-one i)

-- all digits are read
pub done : (f : List ℕ) (i m : ℕ) → length f ≤ i → all_digits f ≡ all_digits (drop i f) → value f ≡ value_from m (drop i f) → (all_digits f ≡ true) × (value f ≡ m)
unfolding all_digits value_from
done f i m h d v =
    let n : drop i f ≡ [] = drop_of_length-le f h in
    (d ∙ ap all_digits n, v ∙ ap (value_from m) n)

-- what a field is as a number
pub number_bad : (f : List ℕ) → all_digits f ≡ false → Err 2 ≡ field_number f
unfolding number_fault
number_bad f e = rw e

pub number_large : (f : List ℕ) → all_digits f ≡ true → 4294967295 < value f → Err 3 ≡ field_number f
unfolding number_fault
number_large f e h = rw (e, lt-ltb 4294967295 (value f) h)

pub number_good : (f : List ℕ) → all_digits f ≡ true → value f ≤ 4294967295 → Ok (value f) ≡ field_number f
unfolding number_fault
number_good f e h = rw (e, le-ltb 4294967295 (value f) h)

-- the bytes before i are digits, and n is their number, cut at one more than the largest
pub record Begun (f : List ℕ) (i n : ℕ) : Type 0 where
  pub number : ℕ
  pub cut : n ≡ min number 4294967296
  pub digits : all_digits f ≡ all_digits (drop i f)
  pub whole : value f ≡ value_from number (drop i f)

pub begun_none : (f : List ℕ) → Begun f 0 0
begun_none f = record { number = 0; cut = omega arith; digits = refl; whole = refl }

module _ {f : List ℕ} {i n : ℕ} (b : Begun f i n) where
  pub begun_on : i < length f → is_digit (get_or f i 0) ≡ true → {m : ℕ} → m ≡ min (n * 10 + (get_or f i 0 - 48)) 4294967296 → Begun f (i + 1) m
  begun_on h d e = record {
    number = b.number * 10 + (get_or f i 0 - 48);
    cut = omega (arith, b.cut, e);
    digits = b.digits ∙ digits_on f i h d;
    whole = b.whole ∙ value_on b.number f i h;
  }

  -- a byte that is no digit,
  pub begun_bad : i < length f → is_digit (get_or f i 0) ≡ false → Err 2 ≡ field_number f
  begun_bad h e = number_bad f (b.digits ∙ digits_not f i h e)

  -- and none left
  module _ (h : length f ≤ i) where
    its_value : (all_digits f ≡ true) × (value f ≡ b.number)
    its_value = done f i b.number h b.digits b.whole

    pub begun_large : 4294967295 < n → Err 3 ≡ field_number f
    begun_large l = number_large f its_value.0 (omega (arith, its_value.1, b.cut))

    pub begun_good : n ≤ 4294967295 → Ok n ≡ field_number f
    begun_good l =
        let v : n ≡ value f = omega (arith, its_value.1, b.cut) in
        rw v (number_good f its_value.0 (omega (arith, v)))

-- one number more: in the set, and among the first four
set_more : (set : ℕ) (ns : List ℕ) (n : ℕ) → bit_or (set_with clipped set ns) (2 ^ clipped n) ≡ set_with clipped set (ns ++ (n ∷ []))
unfolding set_with
set_more set [] n = refl
set_more set (a ∷ ns) n = set_more (bit_or set (2 ^ min a last_of_set)) ns n

first_more : (ns : List ℕ) (n : ℕ) → length ns < 4 → set (gathered ns).first (length ns) n ≡ (gathered (ns ++ (n ∷ []))).first
first_more [] n h = refl
first_more (a ∷ []) n h = refl
first_more (a ∷ b ∷ []) n h = refl
first_more (a ∷ b ∷ c ∷ []) n h = refl
first_more (a ∷ b ∷ c ∷ d ∷ ns) n h = absurd (omega arith)

first_same : (ns : List ℕ) (n : ℕ) → 4 ≤ length ns → (gathered ns).first ≡ (gathered (ns ++ (n ∷ []))).first
first_same [] n h = absurd (omega arith)
first_same (a ∷ []) n h = absurd (omega arith)
first_same (a ∷ b ∷ []) n h = absurd (omega arith)
first_same (a ∷ b ∷ c ∷ []) n h = absurd (omega arith)
first_same (a ∷ b ∷ c ∷ d ∷ ns) n h = refl

module _ (ns : List ℕ) (n : ℕ) {e : ℕ} (s : e ≡ 2 ^ min n last_of_set) where
  more_with : {first : List ℕ} → first ≡ (gathered (ns ++ (n ∷ []))).first → record { count = length ns + 1; first = first; set = bit_or (set_of ns) e } ≡ gathered (ns ++ (n ∷ []))
  more_with f = rw (f, s, set_more 0 ns n, length-append ns (n ∷ []))

  pub gathered_more : {m : Numbers} → m ≡ gathered ns → m.count < 4 → record { count = m.count + 1; first = set m.first m.count n; set = bit_or m.set e } ≡ gathered (ns ++ (n ∷ []))
  gathered_more g h = rw g (more_with (first_more ns n (rw g at h)))

  pub gathered_past : {m : Numbers} → m ≡ gathered ns → 4 ≤ m.count → record { count = m.count + 1; first = m.first; set = bit_or m.set e } ≡ gathered (ns ++ (n ∷ []))
  gathered_past g h = rw g (more_with (first_same ns n (rw g at h)))

-- a field more: a number, or the fault
pub numbers_on : (ns : List ℕ) (f : List ℕ) (fs : List (List ℕ)) → number_fault f ≡ 0 → numbers_with ns (f ∷ fs) ≡ numbers_with (ns ++ (value f ∷ [])) fs
unfolding numbers_with first_fault field_values
numbers_on ns f fs e = rw (e, append_assoc ns (value f ∷ []) (field_values fs))

pub numbers_stop : (ns : List ℕ) (f : List ℕ) (fs : List (List ℕ)) → (number_fault f ≡ 0 → ⊥) → numbers_with ns (f ∷ fs) ≡ Err (number_fault f)
unfolding numbers_with first_fault
numbers_stop ns f fs e = let k = ne_eqb (number_fault f) 0 e in rw (k, k)

-- a field that is a number, and one that is none
pub is_number : (f : List ℕ) {v : ℕ} → Ok v ≡ field_number f → (number_fault f ≡ 0) × (v ≡ value f)
is_number f {v} e = go (eqb (number_fault f) 0) refl e
  where
    go : (b : Bool) → eqb (number_fault f) 0 ≡ b → Ok v ≡ cond b (Ok (value f)) (Err (number_fault f)) → (number_fault f ≡ 0) × (v ≡ value f)
    go true q r = (eqb-true (number_fault f) 0 q, cc)
    go false q r = cc

pub is_none : (f : List ℕ) {k : ℕ} → Err k ≡ field_number f → (number_fault f ≡ 0 → ⊥) × (number_fault f ≡ k)
is_none f {k} e = go (eqb (number_fault f) 0) refl e
  where
    go : (b : Bool) → eqb (number_fault f) 0 ≡ b → Err k ≡ cond b (Ok (value f)) (Err (number_fault f)) → (number_fault f ≡ 0 → ⊥) × (number_fault f ≡ k)
    go true q r = cc
    go false q r = (eqb-false (number_fault f) 0 q, cc)

-- the numbers of the first fields are gathered, and the others are left
pub record Gathering (fs left : List (List ℕ)) (numbers : Numbers) : Type 0 where
  pub so_far : List ℕ
  pub gathers : numbers ≡ gathered so_far
  pub few : length so_far + length left ≤ length fs
  pub whole : numbers_with [] fs ≡ numbers_with so_far left

pub gathering_none : (fs : List (List ℕ)) {numbers : Numbers} → numbers ≡ gathered [] → Gathering fs fs numbers
gathering_none fs e = record { so_far = []; gathers = e; few = omega arith; whole = refl }

module _ {fs left : List (List ℕ)} {numbers : Numbers} (g : Gathering fs left numbers) where
  module _ {f : List ℕ} {rest : List (List ℕ)} (n : left ≡ f ∷ rest) where
    pub gathering_room : numbers.count < length fs
    gathering_room = let l : length left ≡ length (f ∷ rest) = ap length n in rw g.gathers (omega (arith, g.few, l))

    pub gathering_on : {v : ℕ} → Ok v ≡ field_number f → {more : Numbers} → ((ns : List ℕ) → numbers ≡ gathered ns → more ≡ gathered (ns ++ (v ∷ []))) → Gathering fs rest more
    gathering_on {v} e p =
        let (z, w) = is_number f e in
        let l : length left ≡ length (f ∷ rest) = ap length n in
        record {
          so_far = g.so_far ++ (v ∷ []);
          gathers = p g.so_far g.gathers;
          few = omega (arith, length-append g.so_far (v ∷ []), g.few, l);
          whole = g.whole ∙ ap (numbers_with g.so_far) n ∙ numbers_on g.so_far f rest z ∙ rw w;
        }

    pub gathering_stop : {k : ℕ} → Err k ≡ field_number f → Err k ≡ numbers_with [] fs
    gathering_stop {k} e =
        let (z, w) = is_none f e in
        sym (g.whole ∙ ap (numbers_with g.so_far) n ∙ numbers_stop g.so_far f rest z ∙ rw w)

  pub gathering_end : left ≡ [] → Ok numbers ≡ numbers_with [] fs
  unfolding numbers_with first_fault field_values
  gathering_end n = sym (g.whole ∙ ap (numbers_with g.so_far) n ∙ rw (append-nil g.so_far, g.gathers))
