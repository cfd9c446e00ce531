-- The kind as it is known after lines that can be read, one by one; a text that can be read says it once.
-- Assumes nothing.
use mathlib.Core.Path.{◌≡◌, refl, sym, ap, ◌∙◌}
use mathlib.Core.Bool.{Bool, true, false, cond, true≢false, or-true, or-false}
use mathlib.Core.List.{List, [], ◌∷◌, ◌++◌, append-nil}
use Prim.Native.Nat.{ℕ, ◌<◌}
use native.Mathlib.Omega.{arith}
use borrow.Author.Tests.{ltb-true, eqb-true, eqb-false, ne_eqb}
use lib.Dec.{eqb}
use lib.ListN.{length, take, get_or}
use Rattle.lists.proofs.Bools.{else_zero}
use Rattle.std.proofs.Common.{Option, None}
use Rattle.std.specs.Option.{is_some}
use Rattle.recording_text_line.specs.declared.record.Record.{Record}
use Rattle.recording_text_line.specs.Line.{Says, sort}
use Rattle.recording_text_line.specs.Told.{record_said}
use Rattle.recording_text.specs.Text.{in_place, fault_in, known_after, readable, text_fault, records_of, joined, stored, kind_number, kind_after}
use Rattle.recording_text.proofs.Stores.{records_more}

-- a line without a fault stands where it may
pub stands : (known : Bool) (s : Says) → fault_in known s ≡ 0 → in_place known (sort s.letter) ≡ true
unfolding fault_in
stands known s z = go (eqb s.fault 0) refl z
  where
    go : (b : Bool) → eqb s.fault 0 ≡ b → cond b (cond (in_place known (sort s.letter)) 0 6) s.fault ≡ 0 → in_place known (sort s.letter) ≡ true
    go true e f = (else_zero (in_place known (sort s.letter)) 6 0 (λ q. omega arith) f).0
    go false e f = absurd (eqb-false s.fault 0 e f)

-- so the kind is said where it is not known
first_only : (known : Bool) (s : Says) → fault_in known s ≡ 0 → sort s.letter ≡ 4 → known ≡ false
first_only false s z k = refl
first_only true s z k = let p : in_place true 4 ≡ true = rw k at (stands true s z) in absurd (true≢false (sym p))

-- what is known of the kind after these lines is what they say of it
pub record Told (done : List Says) (kind : Option ℕ) : Type 0 where
  pub none : is_some kind ≡ false → records_of 4 done ≡ []
  pub number : kind_number kind ≡ get_or (stored 4 1 done) 0 0

pub told_none : Told [] None
unfolding records_of joined stored
told_none = record { none = λ q. refl; number = refl }

-- a line more that does not say it
pub told_same : {done : List Says} {kind : Option ℕ} → Told done kind → (s : Says) → eqb (sort s.letter) 4 ≡ false → Told (done ++ (s ∷ [])) kind
unfolding joined stored
told_same {done} told s t =
    let r : records_of 4 (done ++ (s ∷ [])) ≡ records_of 4 done = records_more 4 done s ∙ rw (t, append-nil (records_of 4 done)) in
    record { none = λ f. r ∙ told.none f; number = rw r told.number }

-- a record more
module _ {done : List Says} {kind : Option ℕ} (told : Told done kind) (r : Record) (z : fault_in (is_some kind) (record_said r) ≡ 0) {next : Option ℕ} (e : next ≡ kind_after kind r) where
  pub known_more : is_some next ≡ known_after (is_some kind) (record_said r)
  known_more = go (eqb (sort r.letter) 4) refl
    where
      go : (b : Bool) → eqb (sort r.letter) 4 ≡ b → is_some next ≡ known_after (is_some kind) (record_said r)
      go true t = rw (e, t, or-true (is_some kind))
      go false t = rw (e, t, or-false (is_some kind))

  pub told_more : Told (done ++ (record_said r ∷ [])) next
  unfolding joined stored
  told_more = go (eqb (sort r.letter) 4) refl
    where
      go : (b : Bool) → eqb (sort r.letter) 4 ≡ b → Told (done ++ (record_said r ∷ [])) next
      go true t =
          let k : sort r.letter ≡ 4 = eqb-true (sort r.letter) 4 t in
          let ns = take r.size r.numbers in
          let q : records_of 4 (done ++ (record_said r ∷ [])) ≡ ns ∷ [] = records_more 4 done (record_said r) ∙ rw (t, told.none (first_only (is_some kind) (record_said r) z k)) in
          rw (e, t) (record { none = λ f. absurd (true≢false f); number = rw (q, append-nil ns) })
      go false t = rw (e, t) (told_same told (record_said r) t)

-- after the kind is known no line that can be read says it
none_after : (ss : List Says) → records_of 4 (readable true ss) ≡ []
unfolding readable records_of
none_after [] = refl
none_after (s ∷ ss) = go (eqb (fault_in true s) 0) refl (none_after ss)
  where
    go : (b : Bool) → eqb (fault_in true s) 0 ≡ b → records_of 4 (readable true ss) ≡ [] → records_of 4 (cond b (s ∷ readable true ss) []) ≡ []
    go true e r =
        let k : sort s.letter < 4 = ltb-true (sort s.letter) 4 (stands true s (eqb-true (fault_in true s) 0 e)) in
        rw (ne_eqb (sort s.letter) 4 (λ q. omega arith)) r
    go false e r = refl

-- so a text that can be read says it in just one line
pub kind_once : (ss : List Says) → text_fault false ss ≡ 0 → length (records_of 4 (readable false ss)) ≡ 1
unfolding readable text_fault records_of
kind_once [] z = absurd (omega arith)
kind_once (s ∷ ss) z = go (eqb (fault_in false s) 0) refl z (kind_once ss)
  where
    said : (t : Bool) → eqb (sort s.letter) 4 ≡ t → text_fault t ss ≡ 0 → (text_fault false ss ≡ 0 → length (records_of 4 (readable false ss)) ≡ 1) → length (records_of 4 (s ∷ readable t ss)) ≡ 1
    said true h f r = rw (h, none_after ss)
    said false h f r = rw h (r f)

    go :
        (b : Bool) → eqb (fault_in false s) 0 ≡ b → cond b (text_fault (known_after false s) ss) (fault_in false s) ≡ 0 →
        (text_fault false ss ≡ 0 → length (records_of 4 (readable false ss)) ≡ 1) → length (records_of 4 (cond b (s ∷ readable (known_after false s) ss) [])) ≡ 1
    go true e f r = said (eqb (sort s.letter) 4) refl f r
    go false e f r = absurd (eqb-false (fault_in false s) 0 e f)

-- it is read to its end
pub all_read : (known : Bool) (ss : List Says) → text_fault known ss ≡ 0 → readable known ss ≡ ss
unfolding readable text_fault
all_read known [] z = refl
all_read known (s ∷ ss) z = go (eqb (fault_in known s) 0) refl z (all_read (known_after known s) ss)
  where
    go :
        (b : Bool) → eqb (fault_in known s) 0 ≡ b → cond b (text_fault (known_after known s) ss) (fault_in known s) ≡ 0 →
        (text_fault (known_after known s) ss ≡ 0 → readable (known_after known s) ss ≡ ss) → cond b (s ∷ readable (known_after known s) ss) [] ≡ s ∷ ss
    go true e f r = ap (λ (rest : List Says). s ∷ rest) (r f)
    go false e f r = absurd (eqb-false (fault_in known s) 0 e f)

-- the sort of the first line that has a record; 0 where none has
pub first_sort : List Says → ℕ
first_sort [] = 0
first_sort (s ∷ ss) = cond (eqb (sort s.letter) 0) (first_sort ss) (sort s.letter)

-- and in a text that can be read that line says the kind
pub kind_first : (ss : List Says) → text_fault false ss ≡ 0 → first_sort ss ≡ 4
unfolding first_sort text_fault
kind_first [] z = absurd (omega arith)
kind_first (s ∷ ss) z = go (eqb (fault_in false s) 0) refl z (kind_first ss)
  where
    said :
        (k : ℕ) → in_place false k ≡ true → (a b : Bool) → eqb k 0 ≡ a → eqb k 4 ≡ b → text_fault b ss ≡ 0 → (text_fault false ss ≡ 0 → first_sort ss ≡ 4) →
        cond a (first_sort ss) k ≡ 4
    said k p true true e f t r = absurd (omega (arith, eqb-true k 0 e, eqb-true k 4 f))
    said k p true false e f t r = r t
    said k p false true e f t r = eqb-true k 4 f
    said k p false false e f t r = let q : false ≡ true = rw (e, f) at p in absurd (true≢false (sym q))

    go :
        (b : Bool) → eqb (fault_in false s) 0 ≡ b → cond b (text_fault (known_after false s) ss) (fault_in false s) ≡ 0 →
        (text_fault false ss ≡ 0 → first_sort ss ≡ 4) → cond (eqb (sort s.letter) 0) (first_sort ss) (sort s.letter) ≡ 4
    go true e f r = said (sort s.letter) (stands false s (eqb-true (fault_in false s) 0 e)) _ _ refl refl f r
    go false e f r = absurd (eqb-false (fault_in false s) 0 e f)
