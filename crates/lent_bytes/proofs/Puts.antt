-- Bytes put into others, and bytes put behind bytes.
-- Assumes nothing.
use mathlib.Core.Path.{◌≡◌, refl, sym, ap, ◌∙◌}
use mathlib.Core.Bool.{Bool, true, false}
use mathlib.Core.List.{List, [], ◌∷◌, ◌++◌, append_assoc, append-nil}
use Prim.Native.Nat.{ℕ, ◌+◌, ◌-◌, ◌≤◌, ◌<◌, min}
use native.Mathlib.Nat.{mod-eq_of_lt}
use native.Mathlib.Omega.{arith}
use borrow.Author.Tests.{ltb-true, ltb-false, leb-true, leb-false}
use lib.Dec.{ltb, leb}
use lib.ListN.{length, take, drop, length-append, length-drop}
use lib.Seq.{paste-zero, length-paste, take-append_seam, take-append-le, take-append-add, take_all, take-take, take-length, take_at, drop-append-add, drop-drop, drop-length, length-take-le}
use Rattle.byte_format.specs.Number.{bytes_of}
use Rattle.std.specs.Int.{w64, to_le_bytes}
use Rattle.byte_format.proofs.Numbers.{length_bytes}
use Rattle.lent_bytes.specs.Put.{put_at}
use Rattle.lent_bytes.proofs.Digits.{le_bytes}

-- bytes that have room are put whole
pub put_whole : (d : List ℕ) (at : ℕ) (x : List ℕ) → at + length x ≤ length d → put_at d at x ≡ take at d ++ x ++ drop (at + length x) d
put_whole d at x h =
    let n : min (length x) (length d - at) ≡ length x = omega arith in
    rw (n, take-length x)

module _ (d : List ℕ) (at : ℕ) (x y : List ℕ) (h : at + length x + length y ≤ length d) where
  front : List ℕ
  front = take at d ++ x

  front_long : length front ≡ at + length x
  unfolding front
  front_long = omega (arith, length-append (take at d) x, length-take-le at d (omega arith))

  -- bytes and then those behind them, where all have room
  room_put : put_at (put_at d at x) (at + length x) y ≡ put_at d at (x ++ y)
  unfolding front
  room_put =
      let m = at + length x in
      let a : put_at d at x ≡ front ++ drop m d = put_whole d at x (omega arith) in
      let l : length (front ++ drop m d) ≡ length d = omega (arith, front_long, length-append front (drop m d), length-drop m d) in
      let b : put_at (front ++ drop m d) m y ≡ take m (front ++ drop m d) ++ y ++ drop (m + length y) (front ++ drop m d) = put_whole (front ++ drop m d) m y (omega arith) in
      let f : take m (front ++ drop m d) ≡ front = take_at front (drop m d) m front_long in
      let k : length front + length y ≡ m + length y = omega (arith, front_long) in
      let g : drop (m + length y) (front ++ drop m d) ≡ drop (m + length y) d = ap (λ (i : ℕ). drop i (front ++ drop m d)) (sym k) ∙ drop-append-add front (drop m d) (length y) ∙ drop-drop (length y) m d in
      let n : at + length (x ++ y) ≡ m + length y = omega (arith, length-append x y) in
      let c : put_at d at (x ++ y) ≡ take at d ++ (x ++ y) ++ drop (at + length (x ++ y)) d = put_whole d at (x ++ y) (omega arith) in
      let e : take m (front ++ drop m d) ++ y ++ drop (m + length y) (front ++ drop m d) ≡ take at d ++ (x ++ y) ++ drop (at + length (x ++ y)) d =
      rw (f, g, n) (ap (λ (r : List ℕ). r ++ drop (m + length y) d) (append_assoc (take at d) x y)) in
      ap (λ (u : List ℕ). put_at u m y) a ∙ b ∙ e ∙ sym c

-- past the end nothing is put
pub put_past : (d : List ℕ) (at : ℕ) (x : List ℕ) → length d ≤ at → put_at d at x ≡ d
put_past d at x h = let z : min (length x) (length d - at) ≡ 0 = omega arith in rw z (sym (paste-zero d at x))

-- no byte comes or goes
pub length_put : (d : List ℕ) (at : ℕ) (x : List ℕ) → length (put_at d at x) ≡ length d
length_put d at x = go (ltb (length d) at) refl
  where
    go : (t : Bool) → ltb (length d) at ≡ t → length (put_at d at x) ≡ length d
    go true t = let h = ltb-true (length d) at t in ap length (put_past d at x (omega arith))
    go false t = let h = ltb-false (length d) at t in length-paste d at x (min (length x) (length d - at)) (omega arith) (omega arith)

-- only the bytes that have room count
put_cut : (d : List ℕ) (at : ℕ) (x : List ℕ) → put_at d at (take (length d - at) x) ≡ put_at d at x
put_cut d at x = go (ltb (length x) (length d - at)) refl
  where
    go : (t : Bool) → ltb (length x) (length d - at) ≡ t → put_at d at (take (length d - at) x) ≡ put_at d at x
    go true t = let h = ltb-true (length x) (length d - at) t in rw (take_all (length d - at) x (omega arith))
    go false t =
        let h = ltb-false (length x) (length d - at) t in
        let a : min (length (take (length d - at) x)) (length d - at) ≡ length d - at = omega (arith, length-take-le (length d - at) x h) in
        let b : min (length x) (length d - at) ≡ length d - at = omega arith in
        rw (a, b, take-take (length d - at) (length d - at) x (omega arith))

-- bytes and then those behind them
pub put_put : (d : List ℕ) (at : ℕ) (x y : List ℕ) → put_at (put_at d at x) (at + length x) y ≡ put_at d at (x ++ y)
put_put d at x y = go (ltb (length d) (at + length x + length y)) refl (ltb (at + length x) (length d)) refl
  where
    go :
        (t : Bool) → ltb (length d) (at + length x + length y) ≡ t → (u : Bool) → ltb (at + length x) (length d) ≡ u →
        put_at (put_at d at x) (at + length x) y ≡ put_at d at (x ++ y)
    go false t u v = room_put d at x y (ltb-false (length d) (at + length x + length y) t)
    go true t false v =
        let h = ltb-false (at + length x) (length d) v in
        let a : take (length d - at) (x ++ y) ≡ take (length d - at) x = take-append-le (length d - at) x y (omega arith) in
        put_past (put_at d at x) (at + length x) y (omega (arith, length_put d at x)) ∙ sym (put_cut d at x) ∙ ap (put_at d at) (sym a) ∙ put_cut d at (x ++ y)
    go true t true v =
        let h = ltb-true (length d) (at + length x + length y) t in
        let g = ltb-true (at + length x) (length d) v in
        let k = length d - (at + length x) in
        let l : length (take (length d - (at + length x)) y) ≡ length d - (at + length x) = length-take-le (length d - (at + length x)) y (omega arith) in
        let e : length (put_at d at x) - (at + length x) ≡ length d - (at + length x) = omega (arith, length_put d at x) in
        let f : length d - at ≡ length x + (length d - (at + length x)) = omega arith in
        let a : put_at (put_at d at x) (at + length x) (take k y) ≡ put_at (put_at d at x) (at + length x) y =
        ap (λ (n : ℕ). put_at (put_at d at x) (at + length x) (take n y)) (sym e) ∙ put_cut (put_at d at x) (at + length x) y in
        let b : put_at d at (x ++ take k y) ≡ put_at d at (x ++ y) = ap (put_at d at) (sym (ap (λ (n : ℕ). take n (x ++ y)) f ∙ take-append-add x y k)) ∙ put_cut d at (x ++ y) in
        sym a ∙ room_put d at x (take k y) (omega arith) ∙ b

-- the bytes of a number put into the part that has room for them
pub put_part :
    (d : List ℕ) (at w n s k : ℕ) {part : List ℕ} → w ≤ 8 → s ≡ min at (length d) → k ≡ min w (length d - at) → part ≡ take k (to_le_bytes w64 n) →
    take s d ++ (part ++ drop (s + k - s) (drop s d)) ≡ put_at d at (bytes_of w n)
put_part d at w n s k {part} h e f p = go (leb at (length d)) refl
  where
    m : min (length (bytes_of w n)) (length d - at) ≡ k
    m = omega (arith, length_bytes w n)

    q : part ≡ take k (bytes_of w n)
    q = p ∙ le_bytes k w n (omega arith) h

    go : (t : Bool) → leb at (length d) ≡ t → take s d ++ (part ++ drop (s + k - s) (drop s d)) ≡ put_at d at (bytes_of w n)
    go true t =
        let l = leb-true at (length d) t in
        let i : s ≡ at = omega arith in
        let j : at + k - at ≡ k = omega arith in
        rw (i, j, q, m, drop-drop k at d) (sym (append_assoc (take at d) (take k (bytes_of w n)) (drop (at + k) d)))
    go false t =
        let l = leb-false at (length d) t in
        let i : s ≡ length d = omega arith in
        let z : k ≡ 0 = omega arith in
        let j : length d + 0 - length d ≡ 0 = omega arith in
        rw (q, z, i, j, take-length d, drop-length d, put_past d at (bytes_of w n) (omega arith)) (append-nil d)

-- bytes put behind those that stand at the start
pub put_behind : (old x y : List ℕ) → length x + length y ≤ length old → put_at (x ++ drop (length x) old) (length x) y ≡ (x ++ y) ++ drop (length (x ++ y)) old
put_behind old x y h =
    let d = x ++ drop (length x) old in
    let l : length d ≡ length old = omega (arith, length-append x (drop (length x) old), length-drop (length x) old) in
    let a : take (length x) d ≡ x = take-append_seam x (drop (length x) old) in
    let b : drop (length x + length y) d ≡ drop (length x + length y) old = drop-append-add x (drop (length x) old) (length y) ∙ drop-drop (length y) (length x) old in
    put_whole d (length x) y (omega arith) ∙ rw (a, b, length-append x y)

-- one byte
one_byte : (n : ℕ) → n < 256 → bytes_of 1 n ≡ n ∷ []
unfolding bytes_of
one_byte n h = rw (mod-eq_of_lt h)

-- a byte put, and then a number of w bytes behind it
pub put_byte_number :
    (d : List ℕ) (at k w n : ℕ) {e f : List ℕ} → k < 256 → e ≡ put_at d at (bytes_of 1 k) → f ≡ put_at e (at + 1) (bytes_of w n) → f ≡ put_at d at (k ∷ bytes_of w n)
put_byte_number d at k w n l u v = v ∙ rw (u, one_byte k l) (put_put d at (k ∷ []) (bytes_of w n))
