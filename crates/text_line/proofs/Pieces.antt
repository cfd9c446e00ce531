-- A line made of pieces that all fit is those pieces, one after the other.
-- Assumes nothing.
use mathlib.Core.Path.{◌≡◌, refl, sym, ap, ◌∙◌}
use mathlib.Core.Bool.{Bool, true, false}
use mathlib.Core.List.{List, [], ◌++◌, append_assoc, append-nil}
use Prim.Native.Nat.{ℕ, ◌≤◌}
use native.Mathlib.Omega.{arith}
use borrow.Author.Tests.{leb-true, leb-false}
use lib.Dec.{leb}
use lib.ListN.{length, take, length-take}
use lib.Seq.{take_all, take-append-le, take-take, length-take-le}
use Rattle.text_line.specs.Shown.{shown, joined, empty_line, Put}
use Rattle.text_line.specs.declared.Line.{Line}

-- what is cut off stays cut off: a line is joined with two pieces at once
pub joined_joined : (a b c : List ℕ) → joined (joined a b) c ≡ joined a (b ++ c)
unfolding joined
joined_joined a b c = go (leb (length (a ++ b)) 384) refl
  where
    go : (t : Bool) → leb (length (a ++ b)) 384 ≡ t → take 384 (take 384 (a ++ b) ++ c) ≡ take 384 (a ++ (b ++ c))
    go true h = rw (take_all 384 (a ++ b) (leb-true (length (a ++ b)) 384 h), append_assoc a b c)
    go false h =
        let l : 384 ≤ length (a ++ b) = omega (arith, leb-false (length (a ++ b)) 384 h) in
        let k : length (take 384 (a ++ b)) ≡ 384 = length-take-le 384 (a ++ b) l in
        take-append-le 384 (take 384 (a ++ b)) c (omega arith) ∙ take-take 384 384 (a ++ b) (omega arith)
        ∙ sym (rw (← append_assoc a b c) (take-append-le 384 (a ++ b) c l))

-- a piece joins what comes after it
pub onto : {s : List ℕ} (u t v : List ℕ) → s ≡ joined u t → joined s v ≡ joined u (t ++ v)
onto u t v e = rw e (joined_joined u t v)

-- so a line that two pieces joined has both
pub chain : {s r : List ℕ} (u t v : List ℕ) → s ≡ joined u t → r ≡ joined s v → r ≡ joined u (t ++ v)
chain u t v e f = f ∙ onto u t v e

-- and all of them are the line, where they fit
pub begun : {s : List ℕ} (v : List ℕ) → s ≡ [] → length v ≤ 384 → joined s v ≡ v
unfolding joined
begun v e h = rw e (take_all 384 v h)

-- a line with nothing more is as it was
pub no_piece : (l : Line) → length l.bytes ≡ 384 → shown l ≡ joined (shown l) []
unfolding joined
no_piece l h = sym (rw (append-nil (shown l)) (take_all 384 (shown l) (omega (arith, length-take l.size l.bytes))))

-- the pieces of a line that was put into a buffer: the last one joins what came after it
pub piece : {line old new : List ℕ} {r : ℕ} (u t v : List ℕ) → line ≡ joined u t → Put (joined line v) old r new → Put (joined u (t ++ v)) old r new
piece u t v e p = rw (onto u t v e) at p

-- and all of them are what was put
pub whole : {l : Line} {old new : List ℕ} {r : ℕ} (v : List ℕ) → l ≡ empty_line → length v ≤ 384 → Put (joined (shown l) v) old r new → Put v old r new
whole v e h p = rw (begun v (ap shown e) h) at p
