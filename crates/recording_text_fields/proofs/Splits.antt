-- Pieces between separators, one by one, and by their places.
-- Assumes nothing.
use Rattle.std.proofs.Common.{cond, ◌≡◌, refl, sym, ap, ◌∙◌, Bool, true, false, not, List, [], ◌∷◌, ℕ, suc, ◌+◌, ◌≤◌, ◌<◌, length, take, drop, get_or, length-drop, drop_of_length-le, arith, ◌-◌, ltb}
use native.Mathlib.Numerals.{add-one}
use borrow.Author.Tests.{not-false, ltb-true, ltb-false}
use lib.Seq.{take_all, drop-cons, drop-drop, length-take-le}
use Rattle.std.proofs.lemmas.List.Sums.{prefix_len-le-length, prefix_len_stops}
use Rattle.std.specs.List.{prefix_len, position_or_len}
use Rattle.recording_text_fields.specs.Pieces.{begun, pieces, separator, filled, fields, between, Ends}

-- the first piece, and those behind its separator
pub first_cut : (p : ℕ → Bool) (s : List ℕ) → 0 < length s → pieces p s ≡ take (position_or_len p s) s ∷ pieces p (drop (position_or_len p s + 1) s)
unfolding pieces
first_cut p [] h = absurd (omega arith)
first_cut p (b ∷ s) h = go (p b) refl s (λ k. first_cut p s k)
  where
    go :
        (t : Bool) → p b ≡ t → (s : List ℕ) → (0 < length s → pieces p s ≡ take (position_or_len p s) s ∷ pieces p (drop (position_or_len p s + 1) s)) →
        cond t ([] ∷ pieces p s) (begun b (pieces p s)) ≡ take (cond (not t) (1 + position_or_len p s) 0) (b ∷ s) ∷ pieces p (drop (cond (not t) (1 + position_or_len p s) 0 + 1) (b ∷ s))
    go true e s r = refl
    go false e [] r = refl
    go false e (c ∷ s) r =
        let n = position_or_len p (c ∷ s) in
        let o : 1 + n ≡ suc n = omega arith in
        let q : suc n + 1 ≡ suc (n + 1) = omega arith in
        rw (o, q) (ap (begun b) (r (omega arith)))

-- the first separator from a place on ends the piece, and where there is none the bytes do
pub ends_cut : (p : ℕ → Bool) (s : List ℕ) (a : ℕ) {e : ℕ} → a < length s → e ≡ a + position_or_len p (drop a s) → Ends p s a e
ends_cut p s a {e} h q =
    let n = position_or_len p (drop a s) in
    let l = length-drop a s in
    let z : e - a ≡ n = omega (arith, q) in
    let i : a + (n + 1) ≡ e + 1 = omega (arith, q) in
    let d : drop (n + 1) (drop a s) ≡ drop (e + 1) s = drop-drop (n + 1) a s ∙ ap (λ (k : ℕ). drop k s) i in
    record { after = omega (arith, q); within = omega (arith, q, l, prefix_len-le-length (λ b. not (p b)) (drop a s)); split = first_cut p (drop a s) (omega (arith, l)) ∙ rw (z, d) }

-- the bytes in front of the end of the first piece and from there on
module _ (p : ℕ → Bool) (s : List ℕ) {n : ℕ} {front back : List ℕ} (w : Ends p s 0 n) (f : front ≡ take n s) (g : back ≡ drop n s) where
  first_split : pieces p s ≡ front ∷ pieces p (drop (n + 1) s)
  first_split = let z : n - 0 ≡ n = omega arith in w.split ∙ rw (z, f)

  -- there is no separator
  pub cut_end : length back < 1 → pieces p s ≡ front ∷ pieces p back
  cut_end k =
      let l : length (drop n s) ≡ 0 = ap length (sym g) ∙ omega arith in
      let m : length s ≤ n = omega (arith, l, length-drop n s) in
      let z : drop (n + 1) s ≡ [] = drop_of_length-le s {i = n + 1} (omega arith) in
      let e : back ≡ [] = g ∙ drop_of_length-le s {i = n} m in
      first_split ∙ rw (z, e)

  -- the others are behind it
  pub cut_behind : 1 ≤ length back → pieces p s ≡ front ∷ pieces p (take (length back - 1) (drop 1 back))
  cut_behind k =
      let z : take (length back - 1) (drop 1 back) ≡ drop 1 back = take_all (length back - 1) (drop 1 back) (omega (arith, length-drop 1 back)) in
      let e : drop 1 back ≡ drop (n + 1) s = rw g (drop-drop 1 n s) in
      first_split ∙ rw (z, e)

-- the bytes between two places
pub between_none : (a : ℕ) (s : List ℕ) → between a a s ≡ []
between_none a s = let e : a - a ≡ 0 = omega arith in rw e

pub length_between : (a e : ℕ) (s : List ℕ) → e ≤ length s → length (between a e s) ≡ e - a
length_between a e s h = length-take-le (e - a) (drop a s) (omega (arith, length-drop a s))

module _ (p : ℕ → Bool) (s : List ℕ) where
  -- a byte that does not separate, and one that does
  pub pieces_on : (i : ℕ) → i < length s → p (get_or s i 0) ≡ false → pieces p (drop i s) ≡ begun (get_or s i 0) (pieces p (drop (i + 1) s))
  unfolding pieces
  pieces_on i h e = ap (pieces p) (drop-cons s i 0 h) ∙ rw (e, add-one i)

  pub pieces_at : (i : ℕ) → i < length s → p (get_or s i 0) ≡ true → pieces p (drop i s) ≡ [] ∷ pieces p (drop (i + 1) s)
  unfolding pieces
  pieces_at i h e = ap (pieces p) (drop-cons s i 0 h) ∙ rw (e, add-one i)

-- a piece that begins with no separator has a byte
head_length : List (List ℕ) → ℕ
head_length [] = 0
head_length (l ∷ ls) = length l

begun_head : (b : ℕ) (ps : List (List ℕ)) → 1 ≤ head_length (begun b ps)
unfolding head_length
begun_head b [] = omega arith
begun_head b (p ∷ ps) = omega arith

pub has_byte : (p : ℕ → Bool) (s : List ℕ) (a e : ℕ) → Ends p s a e → a < length s → p (get_or s a 0) ≡ false → a < e
unfolding head_length
has_byte p s a e w l q =
    let x : head_length (pieces p (drop a s)) ≡ length (between a e s) = ap head_length w.split in
    let y : head_length (pieces p (drop a s)) ≡ head_length (begun (get_or s a 0) (pieces p (drop (a + 1) s))) = ap head_length (pieces_on p s a l q) in
    omega (arith, length_between a e s w.within, begun_head (get_or s a 0) (pieces p (drop (a + 1) s)))

-- fields are no more than bytes
pub pieces_few : (p : ℕ → Bool) (s : List ℕ) → length (pieces p s) ≤ length s
unfolding pieces
pieces_few p [] = omega arith
pieces_few p (b ∷ s) = go (p b) (pieces p s) (pieces_few p s)
  where
    go : (t : Bool) (ps : List (List ℕ)) → length ps ≤ length s → length (cond t ([] ∷ ps) (begun b ps)) ≤ length (b ∷ s)
    go true ps h = omega arith
    go false [] h = omega arith
    go false (x ∷ ps) h = omega arith

filled_few : (ps : List (List ℕ)) → length (filled ps) ≤ length ps
unfolding filled
filled_few [] = omega arith
filled_few ([] ∷ ps) = omega (arith, filled_few ps)
filled_few ((b ∷ x) ∷ ps) = omega (arith, filled_few ps)

pub fields_few : (p : ℕ → Bool) (s : List ℕ) → length (filled (pieces p s)) ≤ length s
fields_few p s = omega (arith, filled_few (pieces p s), pieces_few p s)

-- no byte, no piece
pub pieces_none : (p : ℕ → Bool) (s : List ℕ) → length s ≡ 0 → pieces p s ≡ []
unfolding pieces
pieces_none p [] h = refl
pieces_none p (b ∷ s) h = absurd (omega arith)

-- a piece with a byte is a field
filled_some : (x : List ℕ) (ps : List (List ℕ)) → (length x ≡ 0 → ⊥) → filled (x ∷ ps) ≡ x ∷ filled ps
unfolding filled
filled_some [] ps h = absurd (h refl)
filled_some (b ∷ x) ps h = refl

filled_skip : (x : List ℕ) (ps : List (List ℕ)) → length x ≡ 0 → filled (x ∷ ps) ≡ filled ps
unfolding filled
filled_skip [] ps h = refl
filled_skip (b ∷ x) ps h = absurd (omega arith)

-- the fields from a place on: past a blank, past an empty piece, and from a field on
pub fields_skip : (s : List ℕ) (i : ℕ) → i < length s → separator true (get_or s i 0) ≡ true → fields (drop i s) ≡ fields (drop (i + 1) s)
unfolding filled
fields_skip s i h e = rw (pieces_at (separator true) s i h e)

pub fields_none : (s : List ℕ) (a e : ℕ) → Ends (separator true) s a e → e ≤ a → fields (drop a s) ≡ fields (drop (e + 1) s)
unfolding filled
fields_none s a e w h =
    let k : e ≡ a = omega (arith, w.after) in
    let n : between a e s ≡ [] = rw k (between_none a s) in
    ap filled w.split ∙ rw n

pub fields_some : (s : List ℕ) (a e : ℕ) → Ends (separator true) s a e → a < e → fields (drop a s) ≡ between a e s ∷ fields (drop (e + 1) s)
fields_some s a e w h = ap filled w.split ∙ filled_some (between a e s) (pieces (separator true) (drop (e + 1) s)) (λ z. omega (arith, length_between a e s w.within, z))

pub fields_past : (s : List ℕ) (i : ℕ) → length s ≤ i → fields (drop i s) ≡ []
unfolding filled pieces
fields_past s i h = rw (drop_of_length-le s h)

-- past the separators in front the fields are the same
pub filled_past : (p : ℕ → Bool) (s : List ℕ) → filled (pieces p (drop (prefix_len p s) s)) ≡ filled (pieces p s)
unfolding filled pieces
filled_past p [] = refl
filled_past p (b ∷ s) = go (p b) refl (filled_past p s)
  where
    go :
        (t : Bool) → p b ≡ t → filled (pieces p (drop (prefix_len p s) s)) ≡ filled (pieces p s) →
        filled (pieces p (drop (cond t (1 + prefix_len p s) 0) (b ∷ s))) ≡ filled (pieces p (b ∷ s))
    go true e h = let o : 1 + prefix_len p s ≡ suc (prefix_len p s) = omega arith in rw (o, e) h
    go false e h = refl

-- the first piece ends where the first separator stands
end_is : (p : ℕ → Bool) (s : List ℕ) (e : ℕ) → 0 < length s → Ends p s 0 e → position_or_len p s ≡ e
unfolding head_length
end_is p s e h w =
    let n = position_or_len p s in
    let x : head_length (pieces p s) ≡ length (take n s) = ap head_length (first_cut p s h) in
    let y : head_length (pieces p s) ≡ length (between 0 e s) = ap head_length w.split in
    omega (arith, x, y, length-take-le n s (prefix_len-le-length (λ b. not (p b)) s), length_between 0 e s w.within)

-- from there on the fields are those behind it
fields_end : (s : List ℕ) (e : ℕ) → 0 < length s → Ends (separator true) s 0 e → fields (drop e s) ≡ fields (drop (e + 1) s)
fields_end s e h w = go (ltb e (length s)) refl
  where
    go : (t : Bool) → ltb e (length s) ≡ t → fields (drop e s) ≡ fields (drop (e + 1) s)
    go true q =
        let n = end_is (separator true) s e h w in
        let stop = prefix_len_stops (λ b. not (separator true b)) s 0 (rw n (ltb-true e (length s) q)) in
        fields_skip s e (ltb-true e (length s) q) (not-false _ (rw (← n) stop))
    go false q =
        let l = ltb-false e (length s) q in
        fields_past s e l ∙ sym (fields_past s (e + 1) (omega (arith, l)))

-- the first field of a line that begins with it
pub fields_first :
    (s : List ℕ) (e : ℕ) {front back : List ℕ} → 0 < length s → separator true (get_or s 0 0) ≡ false → Ends (separator true) s 0 e → front ≡ take e s → back ≡ drop e s →
    fields s ≡ front ∷ fields back
fields_first s e h q w f g =
    let z : e - 0 ≡ e = omega arith in
    fields_some s 0 e w (has_byte (separator true) s 0 e w h q) ∙ rw (z, f, g, fields_end s e h w)
