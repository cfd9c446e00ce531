-- Lines found by their records, one by one.
-- Assumes nothing.
use mathlib.Core.Path.{◌≡◌, ap, ◌∙◌}
use mathlib.Core.Bool.{Bool, true, false, cond, ◌&&◌}
use mathlib.Core.List.{List, [], ◌∷◌}
use Prim.Native.Nat.{ℕ, suc, ◌+◌, ◌-◌, ◌≤◌}
use native.Mathlib.Numerals.{add-one}
use native.Mathlib.Omega.{arith}
use borrow.Author.Tests.{ne_eqb}
use lib.Dec.{lit≤, eqb}
use lib.ListN.{length}
use Rattle.recording_format.specs.declared.WhichKind.{WhichKind}
use Rattle.recording_format.specs.declared.WhichKind.TheVariants.{Base, Wide, Dated}
use Rattle.recording_format.specs.RecordingKind.{any_kind}
use Rattle.recording_format.specs.Recording.{task_place}
use Rattle.recording_text_line.specs.Line.{Says, is_event, sort}
use Rattle.recording_text_place.specs.declared.Measure.{Measure}
use Rattle.recording_text_place.specs.declared.Measure.TheVariants.{Records, Bytes}
use Rattle.recording_text_place.specs.Place.{step, all_bytes, line_after, links_at, events_at, of_link, of_event, refusal_line}

-- a line more
module _ {ss : List Says} {s : Says} {rest : List Says} (q : ss ≡ s ∷ rest) (k : ℕ) where
  pub bytes_on : (which : WhichKind) (much : ℕ) {x left : ℕ} → x ≡ step (Bytes which) k s.letter → left ≡ much - x → much - all_bytes which k ss ≡ left - all_bytes which k rest
  unfolding all_bytes
  bytes_on which much {x} {left} f g =
      let z : all_bytes which k ss ≡ x + all_bytes which k rest = ap (all_bytes which k) q ∙ rw f in
      omega arith

  pub line_here : (measure : Measure) (much n : ℕ) {t : ℕ} → t ≡ sort s.letter → (eqb t k && eqb much 0) ≡ true → line_after measure k much n ss ≡ n
  unfolding line_after
  line_here measure much n f g = ap (line_after measure k much n) q ∙ rw (← f, g)

  pub line_on :
      (measure : Measure) (much n : ℕ) {t x left : ℕ} → t ≡ sort s.letter → (eqb t k && eqb much 0) ≡ false → x ≡ step measure k s.letter → left ≡ much - x →
      line_after measure k much n ss ≡ line_after measure k left (n + 1) rest
  unfolding line_after
  line_on measure much n f g c d = ap (line_after measure k much n) q ∙ rw (← c, ← d, ← f, g, add-one n)

-- no line more
pub bytes_end : {ss : List Says} → ss ≡ [] → (which : WhichKind) (k much : ℕ) → much - all_bytes which k ss ≡ much
unfolding all_bytes
bytes_end {ss} q which k much = let e : all_bytes which k ss ≡ 0 = ap (all_bytes which k) q in omega arith

pub line_end : {ss : List Says} → ss ≡ [] → (measure : Measure) (k much n : ℕ) → line_after measure k much n ss ≡ n
unfolding line_after
line_end q measure k much n = ap (line_after measure k much n) q

-- no relative deadline has more bytes than a value
pub deadline_width_lem : (which : WhichKind) → (any_kind which).deadline_width ≤ 4
deadline_width_lem Base = lit≤ tt
deadline_width_lem Wide = lit≤ tt
deadline_width_lem Dated = lit≤ tt

-- no record has the sort 5
sort_small : (b : ℕ) → sort b ≤ 4
unfolding sort
sort_small b = go (eqb b 84) (eqb b 76) (is_event b) (eqb b 75)
  where
    go : (x y z w : Bool) → cond x 1 (cond y 2 (cond z 3 (cond w 4 0))) ≤ 4
    go true y z w = omega arith
    go false true z w = omega arith
    go false false true w = omega arith
    go false false false true = omega arith
    go false false false false = omega arith

-- so the line after it is the one after the last
pub none_such : (much n : ℕ) (ss : List Says) → line_after Records 5 much n ss ≡ n + length ss
unfolding line_after
none_such much n [] = omega arith
none_such much n (s ∷ ss) =
    let e = ne_eqb (sort s.letter) 5 (λ q. omega (arith, sort_small s.letter, q)) in
    let z : much - 0 ≡ much = omega arith in
    rw (e, z) (none_such much (suc n) ss ∙ omega arith)

-- a refusal and its line
module _ (which : WhichKind) (ss : List Says) (refusal place : ℕ) where
  pub of_link_lem :
      {t : Bool} → t ≡ of_link refusal → t ≡ true → {x y r : ℕ} → x ≡ place - (task_place + 2) → y ≡ x - all_bytes which 1 ss → r ≡ line_after (Bytes which) 2 y 1 ss → r ≡ refusal_line which refusal place ss
  unfolding refusal_line
  of_link_lem f g {x} {y} e h q =
      let z : y ≡ place - links_at which ss = omega arith in
      q ∙ rw (← f, g, z)

  module _ {t u : Bool} (f : t ≡ of_link refusal) (g : t ≡ false) (k : u ≡ of_event refusal) where
    pub of_event_lem :
        u ≡ true → {x y z r : ℕ} → x ≡ place - (task_place + 4) → y ≡ x - all_bytes which 1 ss → z ≡ y - all_bytes which 2 ss → r ≡ line_after (Bytes which) 3 z 1 ss → r ≡ refusal_line which refusal place ss
    unfolding refusal_line
    of_event_lem m {x} {y} {z} e h i q =
        let w : z ≡ place - events_at which ss = omega arith in
        q ∙ rw (← f, g, ← k, m, w)

    pub of_none :
        u ≡ false → (refusal ≡ 2 → ⊥) → (refusal ≡ 3 → ⊥) → (refusal ≡ 10 → ⊥) → (refusal ≡ 24 → ⊥) → {r : ℕ} → r ≡ line_after Records 5 0 1 ss → r ≡ refusal_line which refusal place ss
    unfolding refusal_line
    of_none m a b c d q =
        q ∙ none_such 0 1 ss ∙ rw (← f, g, ← k, m, ne_eqb refusal 2 a, ne_eqb refusal 3 b, ne_eqb refusal 10 c, ne_eqb refusal 24 d) (omega arith)
