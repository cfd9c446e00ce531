-- What is stored of lines, one by one.
-- Assumes nothing.
use mathlib.Core.Path.{◌≡◌, refl, sym, ap, ◌∙◌}
use mathlib.Core.Bool.{Bool, true, false, cond}
use mathlib.Core.List.{List, [], ◌∷◌, ◌++◌, append-nil, append_assoc}
use Prim.Native.Nat.{ℕ, ◌+◌, ◌*◌, ◌≤◌, ◌<◌, min}
use native.Mathlib.Nat.{mul-add}
use native.Mathlib.Omega.{arith}
use borrow.Author.Tests.{eqb-true, ltb-true, ltb-false}
use lib.Dec.{eqb, ltb}
use lib.ListN.{length, take, drop, length-append}
use lib.Seq.{take-nil, take_all, take-append-le, take-append_seam, drop-append-add, drop-drop}
use Rattle.recording_text_line.specs.declared.record.Record.{Record}
use Rattle.recording_text.specs.declared.Kept.{Kept}
use Rattle.recording_text_line.specs.Line.{Says, sort, widest}
use Rattle.recording_text_line.specs.Told.{record_said}
use Rattle.recording_text.specs.Text.{records_of, joined, stored, over, none_kept, takes, and_record, put_at}

-- the records of one line more
pub records_more : (k : ℕ) (ss : List Says) (s : Says) → records_of k (ss ++ (s ∷ [])) ≡ records_of k ss ++ cond (eqb (sort s.letter) k) (s.numbers ∷ []) []
unfolding records_of
records_more k [] s = go (eqb (sort s.letter) k)
  where
    go : (t : Bool) → cond t (s.numbers ∷ []) [] ≡ cond t (s.numbers ∷ []) []
    go t = refl
records_more k (r ∷ ss) s = go (eqb (sort r.letter) k) (records_more k ss s)
  where
    go :
        (t : Bool) → records_of k (ss ++ (s ∷ [])) ≡ records_of k ss ++ cond (eqb (sort s.letter) k) (s.numbers ∷ []) [] →
        cond t (r.numbers ∷ records_of k (ss ++ (s ∷ []))) (records_of k (ss ++ (s ∷ [])))
        ≡ cond t (r.numbers ∷ records_of k ss) (records_of k ss) ++ cond (eqb (sort s.letter) k) (s.numbers ∷ []) []
    go true e = ap (λ (rs : List (List ℕ)). r.numbers ∷ rs) e
    go false e = e

joined_more : (rs : List (List ℕ)) (r : List ℕ) → joined (rs ++ (r ∷ [])) ≡ joined rs ++ r
unfolding joined
joined_more [] r = append-nil r
joined_more (q ∷ rs) r = ap (λ (x : List ℕ). q ++ x) (joined_more rs r) ∙ sym (append_assoc q (joined rs) r)

-- the numbers of a record
abbrev given : Record → List ℕ
given r = take r.size r.numbers

-- put behind those at the start
put_behind : (old x : List ℕ) (r : Record) → length (given r) ≡ r.size → put_at (over x old) (length x) r ≡ over (x ++ given r) old
unfolding over
put_behind old x r v =
    let a : take (length x) (x ++ drop (length x) old) ≡ x = take-append_seam x (drop (length x) old) in
    let b : drop (length x + r.size) (x ++ drop (length x) old) ≡ drop (length x + r.size) old = drop-append-add x (drop (length x) old) r.size ∙ drop-drop r.size (length x) old in
    rw (a, b, length-append x (given r), v, append_assoc x (given r) (drop (length x + r.size) old))

-- so many records of one sort are stored, and the list holds them
pub record Held (k most : ℕ) (ss : List Says) (old out : List ℕ) (kept : Kept) : Type 0 where
  pub records : kept.records ≡ min (length (records_of k ss)) most
  pub numbers : kept.numbers ≡ length (stored k most ss)
  pub list : out ≡ over (stored k most ss) old
  pub few : kept.numbers ≤ widest k * kept.records

pub held_none : (k most : ℕ) (old : List ℕ) {kept : Kept} → kept ≡ none_kept → Held k most [] old old kept
unfolding records_of stored joined over
held_none k most old e =
    let n : stored k most [] ≡ [] = ap joined (take-nil most) in
    rw e (record { records = omega arith; numbers = rw n; list = rw n; few = omega arith })

module _ (k most : ℕ) (ss : List Says) (old : List ℕ) {out : List ℕ} {kept : Kept} (held : Held k most ss old out kept) where
  -- a line with no such record, or one record too many
  same : (s : Says) → stored k most (ss ++ (s ∷ [])) ≡ stored k most ss → min (length (records_of k (ss ++ (s ∷ [])))) most ≡ min (length (records_of k ss)) most → Held k most (ss ++ (s ∷ [])) old out kept
  same s e r = record { records = held.records ∙ sym r; numbers = rw e held.numbers; list = rw e held.list; few = held.few }

  pub held_other : (s : Says) → eqb (sort s.letter) k ≡ false → Held k most (ss ++ (s ∷ [])) old out kept
  unfolding stored
  held_other s t =
      let e : records_of k (ss ++ (s ∷ [])) ≡ records_of k ss = records_more k ss s ∙ rw (t, append-nil (records_of k ss)) in
      same s (rw e) (rw e)

  module _ (r : Record) (v : length (given r) ≡ r.size) where
    abbrev more : List Says
    more = ss ++ (record_said r ∷ [])

    with_record : eqb (sort r.letter) k ≡ true → records_of k more ≡ records_of k ss ++ (given r ∷ [])
    with_record t = records_more k ss (record_said r) ∙ rw t

    held_full : eqb (sort r.letter) k ≡ true → most ≤ kept.records → Held k most more old out kept
    unfolding stored
    held_full t f =
        let e = with_record t in
        let m : most ≤ length (records_of k ss) = omega (arith, held.records) in
        same (record_said r) (rw (e, take-append-le most (records_of k ss) (given r ∷ []) m)) (rw e (omega (arith, length-append (records_of k ss) (given r ∷ []))))

    held_stored : eqb (sort r.letter) k ≡ true → kept.records < most → Held k most more old (put_at out kept.numbers r) (and_record r kept)
    unfolding stored
    held_stored t f =
        let rs = records_of k ss in
        let e = with_record t in
        let m : length rs < most = omega (arith, held.records) in
        let g : length (rs ++ (given r ∷ [])) ≡ length rs + 1 = length-append rs (given r ∷ []) in
        let a : take most (rs ++ (given r ∷ [])) ≡ take most rs ++ (given r ∷ []) = take_all most (rs ++ (given r ∷ [])) (omega arith) ∙ rw (take_all most rs (omega arith)) in
        let s : stored k most more ≡ stored k most ss ++ given r = rw (e, a) (joined_more (take most rs) (given r)) in
        let w : sort r.letter ≡ k = eqb-true (sort r.letter) k t in
        let n : r.size ≤ widest k = rw w at r.padded.few in
        let b : length (stored k most ss ++ given r) ≡ kept.numbers + r.size = omega (arith, length-append (stored k most ss) (given r), held.numbers, v) in
        record {
          records = rw e (omega (arith, held.records));
          numbers = rw s (sym b);
          list = rw (held.list, held.numbers, s) (put_behind old (stored k most ss) r v);
          few = omega (arith, held.few, mul-add (widest k) kept.records 1);
        }

    pub held_more : {kept' : Kept} {out' : List ℕ} → kept' ≡ cond (takes r k most kept) (and_record r kept) kept → out' ≡ cond (takes r k most kept) (put_at out kept.numbers r) out → Held k most more old out' kept'
    held_more {kept'} {out'} e f = go (eqb (sort r.letter) k) refl (ltb kept.records most) refl
      where
        go : (b : Bool) → eqb (sort r.letter) k ≡ b → (t : Bool) → ltb kept.records most ≡ t → Held k most more old out' kept'
        go false h t g = rw (e, f, h) (held_other (record_said r) h)
        go true h false g = rw (e, f, h, g) (held_full h (ltb-false kept.records most g))
        go true h true g = rw (e, f, h, g) (held_stored h (ltb-true kept.records most g))
