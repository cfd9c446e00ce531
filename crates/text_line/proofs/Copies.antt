-- What was copied into a line and into a buffer.
-- Assumes nothing.
use mathlib.Core.Path.{◌≡◌, refl, sym, ap, ◌∙◌}
use mathlib.Core.Bool.{Bool, true, false}
use mathlib.Core.List.{List, ◌++◌}
use Prim.Native.Nat.{ℕ, ◌+◌, ◌-◌, ◌≤◌, ◌<◌, min}
use native.Mathlib.Numerals.{add-one}
use native.Mathlib.Omega.{arith}
use borrow.Author.Tests.{leb-true, leb-false}
use lib.Dec.{leb}
use lib.ListN.{length, take, set, get_or}
use lib.Seq.{paste, paste-suc, take-paste, take-append-add, take-length, take_all, length-take-le}
use Rattle.text_line.specs.Shown.{joined, fit, Put}

-- a turn of the loop that copies a text
pub text_turn : (d : List ℕ) (p : ℕ) (s : List ℕ) (i : ℕ) {o : List ℕ} → p + i < length d → i < length s → o ≡ paste d p s i → set o (p + i) (get_or s i 0) ≡ paste d p s (i + 1)
text_turn d p s i h g e = ap (λ (l : List ℕ). set l (p + i) (get_or s i 0)) e ∙ paste-suc d p s i 0 h g ∙ ap (paste d p s) (sym (add-one i))

-- no more can be taken than there is
pub take_least : (n : ℕ) (l : List ℕ) → take (min n (length l)) l ≡ take n l
take_least n l = go (leb n (length l)) refl
  where
    go : (b : Bool) → leb n (length l) ≡ b → take (min n (length l)) l ≡ take n l
    go true h =
        let k = leb-true n (length l) h in
        let e : min n (length l) ≡ n = omega arith in
        rw e
    go false h =
        let k = leb-false n (length l) h in
        let e : min n (length l) ≡ length l = omega arith in
        rw e (take-length l ∙ sym (take_all n l (omega arith)))

-- as much of a text as has room was copied behind the first bytes of a line: what is there then
pub copied :
    (bytes text : List ℕ) (size : ℕ) {at n : ℕ} {new : List ℕ} → length bytes ≡ 384 → at ≡ min size 384 → n ≡ min (384 - at) (length text) → new ≡ paste bytes at text n →
    take (at + n) new ≡ joined (take size bytes) text
unfolding joined
copied bytes text size {at} {n} {new} long a b e =
    let s : take at bytes ≡ take size bytes = rw (a, ← long) (take_least size bytes) in
    let l : length (take at bytes) ≡ at = length-take-le at bytes (omega arith) in
    let t : take n text ≡ take (384 - at) text = rw b (take_least (384 - at) text) in
    let r : 384 ≡ length (take at bytes) + (384 - at) = omega arith in
    let p : take (at + n) new ≡ take at bytes ++ take n text = rw e (take-paste bytes at text n (omega arith) (omega arith)) in
    let q : take 384 (take at bytes ++ text) ≡ take at bytes ++ take (384 - at) text =
    ap (λ (k : ℕ). take k (take at bytes ++ text)) r ∙ take-append-add (take at bytes) text (384 - at) in
    p ∙ rw (t, ← s) (sym q)

-- a line that was copied to the start of a buffer where it has room
pub copied_where_fits :
    (line old text : List ℕ) (r : ℕ) {s : ℕ} {new : List ℕ} → take r text ≡ line → length line ≡ r → s ≡ fit r (length old) → new ≡ paste old 0 text s → Put line old s new
copied_where_fits line old text r {s} {new} e l f g = go (leb (length line) (length old)) refl
  where
    go : (b : Bool) → leb (length line) (length old) ≡ b → Put line old s new
    go true h =
        let k : s ≡ r = f ∙ rw (← l, h) in
        let z : 0 + r ≡ r = omega arith in
        record { count = rw h (k ∙ sym l); bytes = rw h (g ∙ rw (k, e, l, z)) }
    go false h =
        let k : s ≡ 0 = f ∙ rw (← l, h) in
        record { count = rw h k; bytes = rw h (g ∙ rw k) }

-- a line of so many bytes, copied so
pub ended :
    (bytes : List ℕ) (size : ℕ) {line old new : List ℕ} {r s : ℕ} → length bytes ≡ 384 → r ≡ min size 384 → take size bytes ≡ line → s ≡ fit r (length old) → new ≡ paste old 0 bytes s →
    Put line old s new
ended bytes size {line} {old} {new} {r} long a e f g =
    let t : take r bytes ≡ line = rw (a, ← long) (take_least size bytes) ∙ e in
    let l : length (take r bytes) ≡ r = length-take-le r bytes (omega arith) in
    copied_where_fits line old bytes r t (rw t at l) f g

-- what fits is no more than there is, on both sides
pub fit_small : (n room : ℕ) → (fit n room ≤ n) × (fit n room ≤ room)
fit_small n room = go (leb n room) refl
  where
    go : (b : Bool) → leb n room ≡ b → (fit n room ≤ n) × (fit n room ≤ room)
    go true h =
        let k : n ≤ room = leb-true n room h in
        rw h (omega arith, k)
    go false h = rw h (omega arith, omega arith)
