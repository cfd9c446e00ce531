-- `recording_text_fields::piece::piece_end` meets its contract: the place of the next separator, or the length.
-- Assumes nothing.
use borrow.Author.Rules.{rules}
use Rattle.std.proofs.Common.{◌≡◌, refl, ◌∙◌, Bool, true, false, cond, ℕ, Some, None, ◌-◌, ltb, ◌≤◌, length, drop, length-drop, arith}
use borrow.Author.Tests.{ltb-false}
use lib.Seq.{take_all}
use Rattle.std.specs.List.{position_or_len}
use Rattle.std.specs.Option.{unwrap_or}
use Rattle.std.proofs.lemmas.List.Sums.{prefix_len-le-length}
use Rattle.std.proofs.lemmas.Iterator.{YieldsList-from_slice}
use Rattle.std.proofs.lemmas.Iterator.Search.{position_from_yields_List}
use Rattle.recording_text_fields.specs.Pieces.{separator}
use Rattle.recording_text_fields.proofs.Splits.{ends_cut}
use Rattle.recording_text_fields.proofs.piece.piece_end.Goals as goal

-- a place below the length, or the length
end_of : (n m : ℕ) → n ≤ m → unwrap_or (cond (ltb n m) (Some n) None) m ≡ n
end_of n m h = go (ltb n m) refl
  where
    go : (b : Bool) → ltb n m ≡ b → unwrap_or (cond b (Some n) None) m ≡ n
    go true e = refl
    go false e = omega (arith, ltb-false n m e)

pub returns-clause-within : goal.returns-clause-within
returns-clause-within c h =
    let a = c.args in
    let p = separator a.inner in
    let l = c.in-Some.left.now in
    let d : l ≡ drop a.at a.s.now = c.in-Some.ensures.lookup.0.2 ∙ take_all (length a.s.now - a.at) (drop a.at a.s.now) (omega (arith, length-drop a.at a.s.now)) in
    let e : c.unwrap_or-size.result ≡ position_or_len p l =
    rw (c.unwrap_or-size.ensures, position_from_yields_List p _ _ c.position.result c.position.ensures.ran (YieldsList-from_slice l c.iter.ensures.rest) (λ x b q k. search rules))
    (end_of (position_or_len p l) (length l) (prefix_len-le-length _ l)) in
    ends_cut p a.s.now a.at h (rw e (rw d))
