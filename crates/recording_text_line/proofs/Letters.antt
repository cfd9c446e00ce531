-- Records by their letters and numbers, and the line that has them.
-- Assumes nothing.
use mathlib.Core.Path.{◌≡◌, refl, sym, ap, ◌∙◌}
use mathlib.Core.Bool.{Bool, true, false, cond, ◌&&◌}
use mathlib.Core.List.{List, [], ◌∷◌, ◌++◌}
use Prim.Native.Nat.{ℕ, zero, suc, ◌+◌, ◌-◌, ◌≤◌, ◌<◌}
use native.Mathlib.Omega.{arith}
use borrow.Author.Tests.{eq-eqb, ne_eqb, eqb-true}
use lib.Dec.{eqb, ltb}
use lib.ListN.{length, take, drop, get_or}
use lib.Seq.{get_or-take, get_or-drop}
use Rattle.std.proofs.Common.{Result, Ok, Err}
use Rattle.lists.proofs.Bools.{cond_of, cond_small}
use Rattle.recording_text_fields.specs.declared.fault.Fault.{Fault}
use Rattle.recording_text_fields.specs.declared.number.Numbers.{Numbers}
use Rattle.recording_text_fields.specs.Faults.{number, told}
use Rattle.recording_text_fields.specs.Pieces.{separator, fields, between, Ends}
use Rattle.recording_text_fields.specs.Numeral.{is_digit, first_fault, field_values, gathered, numbers_with}
use Rattle.recording_text_line.specs.Line.{Says, nothing, faulty, saying, is_event, sort, exactly, counted, record_of, lettered, letter_of, begins, letter_says, event_says, tick_says, fields_say, widest, Padded}
use Rattle.recording_text_fields.proofs.Splits.{has_byte, fields_some, fields_past, length_between}

-- numbers as they are wanted, in a record behind others, or the fault
module _ (b : ℕ) (before : List ℕ) (n : ℕ) (ns : List ℕ) (r : Result (List ℕ) Fault) (e : told r ≡ exactly n ns) where
  pub some_counted : (xs : List ℕ) → r ≡ Ok xs → saying b (before ++ xs) ≡ counted b before n ns
  some_counted xs w = go (ltb (length ns) n) (ltb n (length ns)) (sym (rw w at e))
    where
      go : (s t : Bool) → cond {A = Result (List ℕ) ℕ} s (Err 4) (cond t (Err 5) (Ok ns)) ≡ Ok xs → saying b (before ++ xs) ≡ cond s (faulty 4) (cond t (faulty 5) (saying b (before ++ ns)))
      go true t q = cc
      go false true q = cc
      go false false q = cc

  pub none_counted : (f : Fault) → r ≡ Err f → faulty (number f) ≡ counted b before n ns
  none_counted f w = go (ltb (length ns) n) (ltb n (length ns)) (sym (rw w at e))
    where
      go : (s t : Bool) → cond {A = Result (List ℕ) ℕ} s (Err 4) (cond t (Err 5) (Ok ns)) ≡ Err (number f) → faulty (number f) ≡ cond s (faulty 4) (cond t (faulty 5) (saying b (before ++ ns)))
      go true t q = cc
      go false true q = cc
      go false false q = cc

-- a letter that is none of some others
pub other :
    (dated : Bool) (b : ℕ) (tick ns : List ℕ) → (b ≡ 65 → ⊥) → (b ≡ 83 → ⊥) → (b ≡ 82 → ⊥) → (b ≡ 70 → ⊥) → (b ≡ 76 → ⊥) → (eqb b 84 && dated) ≡ false →
    counted b [] 1 ns ≡ record_of dated tick b ns
unfolding record_of
other dated b tick ns a s r f l t = rw (ne_eqb b 65 a, ne_eqb b 83 s, ne_eqb b 82 r, ne_eqb b 70 f, ne_eqb b 76 l, t)

-- the letter of an event that is none of the others is that of a finish
pub is_finish : (b : ℕ) → sort b ≡ 3 → (b ≡ 65 → ⊥) → (b ≡ 83 → ⊥) → (b ≡ 82 → ⊥) → b ≡ 70
unfolding sort
is_finish b k a s r = eqb-true b 70 (rw (ne_eqb b 65 a, ne_eqb b 83 s, ne_eqb b 82 r) at (go (eqb b 84) (eqb b 76) (is_event b) (eqb b 75) k))
  where
    go : (x y z w : Bool) → ◌≡◌ {A = ℕ} (cond x 1 (cond y 2 (cond z 3 (cond w 4 0)))) 3 → z ≡ true
    go true y z w e = absurd (omega arith)
    go false true z w e = absurd (omega arith)
    go false false true w e = refl
    go false false false true e = absurd (omega arith)
    go false false false false e = absurd (omega arith)

-- a field of more bytes than one, or of none, is no letter
pub no_letter : (f : List ℕ) → (length f ≡ 1 → ⊥) → sort (letter_of f) ≡ 0
unfolding sort
no_letter f n = rw (ne_eqb (length f) 1 n)

-- a letter, and numbers behind it or a fault among them
module _ (dated : Bool) (tick : List ℕ) (b : ℕ) (fs : List (List ℕ)) where
  pub no_numbers : {k : ℕ} → Err k ≡ numbers_with [] fs → faulty k ≡ lettered dated tick b fs
  unfolding lettered numbers_with
  no_numbers {k} g = go (eqb (first_fault fs) 0) g
    where
      go : (t : Bool) → Err k ≡ cond {A = Result Numbers ℕ} t (Ok (gathered (field_values fs))) (Err (first_fault fs)) → faulty k ≡ cond t (record_of dated tick b (field_values fs)) (faulty (first_fault fs))
      go true q = cc
      go false q = cc

  pub some_numbers : {n : Numbers} → Ok n ≡ numbers_with [] fs → {r : Says} → ((ns : List ℕ) → n ≡ gathered ns → r ≡ record_of dated tick b ns) → r ≡ lettered dated tick b fs
  unfolding lettered numbers_with
  some_numbers {n} g {r} y = go (eqb (first_fault fs) 0) g
    where
      go : (t : Bool) → Ok n ≡ cond {A = Result Numbers ℕ} t (Ok (gathered (field_values fs))) (Err (first_fault fs)) → r ≡ cond t (record_of dated tick b (field_values fs)) (faulty (first_fault fs))
      go true q = let e : n ≡ gathered (field_values fs) = cc in y (field_values fs) e
      go false q = cc

-- the bytes of a field: the first, and the letter that it is, or none
module _ (s : List ℕ) (a e : ℕ) (h : a < e) (m : e ≤ length s) where
  first_byte_lem : get_or (between a e s) 0 0 ≡ get_or s a 0
  first_byte_lem =
      let z : a + 0 ≡ a = omega arith in
      get_or-take (e - a) (drop a s) 0 0 (omega arith) ∙ get_or-drop a s 0 0 ∙ ap (λ (i : ℕ). get_or s i 0) z

  pub one_byte : e ≡ a + 1 → get_or s a 0 ≡ letter_of (between a e s)
  one_byte q = rw (eq-eqb (length (between a e s)) 1 (omega (arith, length_between a e s m)), first_byte_lem)

  pub more_bytes : (e ≡ a + 1 → ⊥) → 0 ≡ letter_of (between a e s)
  more_bytes q = rw (ne_eqb (length (between a e s)) 1 (λ l. q (omega (arith, length_between a e s m))))

-- a field lies between two places
pub record Field (s : List ℕ) (a e : ℕ) : Type 0 where
  pub ends : Ends (separator true) s a e
  pub some : a < e

pub field : (s : List ℕ) (a e : ℕ) → a < length s → separator true (get_or s a 0) ≡ false → (a < length s → Ends (separator true) s a e) → Field s a e
field s a e h q w = record { ends = w h; some = has_byte (separator true) s a e (w h) h q }

-- a line whose first field lies between two places: a remark, a tick, a letter
module _ (dated : Bool) {s : List ℕ} {a e : ℕ} (w : Field s a e) where
  said : fields_say dated (fields (drop a s)) ≡ fields_say dated (between a e s ∷ fields (drop (e + 1) s))
  said = ap (fields_say dated) (fields_some s a e w.ends w.some)

  byte : get_or (between a e s) 0 0 ≡ get_or s a 0
  byte = first_byte_lem s a e w.some w.ends.within

  pub remark : get_or s a 0 ≡ 35 → fields_say dated (fields (drop a s)) ≡ nothing
  unfolding fields_say
  remark k = said ∙ rw (byte, eq-eqb (get_or s a 0) 35 k)

  module _ (k : get_or s a 0 ≡ 35 → ⊥) {d : Bool} (q : d ≡ is_digit (get_or s a 0)) where
    pub ticked : (dated && d) ≡ true → fields_say dated (fields (drop a s)) ≡ tick_says (between a e s) (fields (drop (e + 1) s))
    unfolding fields_say
    ticked t = said ∙ rw (byte, ne_eqb (get_or s a 0) 35 k, ← q, t)

    pub unticked : (dated && d) ≡ false → fields_say dated (fields (drop a s)) ≡ letter_says dated (between a e s) (fields (drop (e + 1) s))
    unfolding fields_say
    unticked t = said ∙ rw (byte, ne_eqb (get_or s a 0) 35 k, ← q, t)

-- a first field that may be a letter
module _ (dated : Bool) (f : List ℕ) (fs : List (List ℕ)) {b k : ℕ} (e : b ≡ letter_of f) (q : k ≡ sort b) {x : Bool} (g : x ≡ begins dated k) where
  pub unknown : x ≡ false → letter_says dated f fs ≡ faulty 1
  unfolding letter_says
  unknown t = rw (← e, ← q, ← g, t)

  pub known : x ≡ true → letter_says dated f fs ≡ lettered dated [] b fs
  unfolding letter_says
  known t = rw (← e, ← q, ← g, t)

-- the fields behind a tick: none, no letter of an event, and one
module _ (x : ℕ) (s : List ℕ) (a : ℕ) {fs : List (List ℕ)} (same : fields (drop a s) ≡ fs) where
  pub no_event : length s ≤ a → event_says x fs ≡ faulty 1
  unfolding event_says
  no_event h = ap (event_says x) (sym same ∙ fields_past s a h)

  module _ {e : ℕ} (w : Field s a e) {b k : ℕ} (l : b ≡ letter_of (between a e s)) (q : k ≡ sort b) where
    behind : event_says x fs ≡ event_says x (between a e s ∷ fields (drop (e + 1) s))
    behind = ap (event_says x) (sym same ∙ fields_some s a e w.ends w.some)

    pub not_event : (k ≡ 3 → ⊥) → event_says x fs ≡ faulty 1
    unfolding event_says
    not_event n = behind ∙ rw (← l, ← q, ne_eqb k 3 n)

    pub event : k ≡ 3 → event_says x fs ≡ lettered true (x ∷ []) b (fields (drop (e + 1) s))
    unfolding event_says
    event n = behind ∙ rw (← l, ← q, eq-eqb k 3 n)

-- the first of the numbers, whether there is one or not
pub first_number : {letter : ℕ} (size : ℕ) (ns : List ℕ) → Padded letter size ns → get_or (take size ns) 0 0 ≡ get_or ns 0 0
first_number zero ns p = sym (ap (λ (l : List ℕ). get_or l 0 0) p.rest)
first_number (suc n) ns p = get_or-take (suc n) ns 0 0 (omega arith)

-- a record of any sort may have one number
pub least : (k : ℕ) → 1 ≤ widest k
least k = cond_of (λ n. 1 ≤ n) (eqb k 2) (omega arith) (cond_of (λ n. 1 ≤ n) (eqb k 3) (omega arith) (cond_of (λ n. 1 ≤ n) (eqb k 1) (omega arith) (omega arith)))

-- and at most four
pub widest_small : (k : ℕ) → widest k ≤ 4
widest_small k = cond_small (eqb k 2) (omega arith) (cond_small (eqb k 3) (omega arith) (cond_small (eqb k 1) (omega arith) (omega arith)))
