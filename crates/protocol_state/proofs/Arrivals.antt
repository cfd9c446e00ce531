-- What stands at each place after the arrival of a set of tasks of the table.
-- Assumes nothing.
use mathlib.Core.Path.{◌≡◌, refl, ◌∙◌}
use mathlib.Core.Bool.{Bool, true, false, cond, ◌&&◌, and-false}
use Prim.Native.Nat.{ℕ, ◌^◌, ◌≤◌, ◌<◌}
use native.Mathlib.Omega.{arith}
use borrow.Author.Tests.{lt-ltb}
use lib.Dec.{ltb}
use lib.ListN.{get_or}
use Rattle.protocol.specs.Event.{has}
use Rattle.protocol.specs.Table.{marked}
use Rattle.protocol.specs.Published.{seen_once}
use Rattle.protocol.specs.Free.{lowest_free}
use Rattle.protocol.proofs.Schedule.{has_below}
use Rattle.protocol_state.specs.Saved.{Size, Saved, Shape, at, delayed_kind}
use Rattle.protocol_state.specs.Decision.{decided}
use Rattle.protocol_state.specs.Next.{newest_after, previous_after, seen_after, pointer_after, mark_after, phase_after}
use Rattle.protocol_state.proofs.Places.{changed}
use Rattle.protocol_state.proofs.Free.{lowest_at}

module _ {size : Size} (q : Saved) (S : Shape size q) (s : ℕ) (small : s < 2 ^ q.tasks) where
  -- the set has tasks of the table only
  in_set : (t : ℕ) → (ltb t q.tasks && has s t) ≡ has s t
  in_set t = go (has s t) refl where
    go : (b : Bool) → has s t ≡ b → (ltb t q.tasks && b) ≡ b
    go true e = rw (lt-ltb t q.tasks (has_below s q.tasks t small e))
    go false e = and-false (ltb t q.tasks)

  module _ (fits : q.tasks ≤ size.tasks) where
    -- a task of the set takes the lowest free position
    pub newest_at_lem : (ahead : ℕ → ℕ → Bool) (t d : ℕ) → get_or (newest_after ahead s q) t d
        ≡ cond (has s t) (lowest_at ahead q t (get_or q.newest t d)) (get_or q.newest t d)
    unfolding newest_after
    newest_at_lem ahead t d =
        changed (has s) (lowest_free ahead (at q.writer) (at q.reader) (at q.pointer) q.links) q.tasks q.newest (omega (arith, S.newest)) t d
        ∙ rw (in_set t)

    -- and its newest becomes its previous
    pub previous_at_lem : (t d : ℕ) → get_or (previous_after s q) t d ≡ cond (has s t) (at q.newest t) (get_or q.previous t d)
    unfolding previous_after
    previous_at_lem t d = changed (has s) (λ i x. at q.newest i) q.tasks q.previous (omega (arith, S.previous)) t d ∙ rw (in_set t)

    -- one more arrival of it is seen
    pub seen_at_lem : (t : ℕ) → at (seen_after s q) t ≡ cond (has s t) (seen_once (at q.seen t)) (at q.seen t)
    unfolding seen_after
    seen_at_lem t = changed (has s) (λ i x. seen_once x) q.tasks q.seen (omega (arith, S.seen)) t 0 ∙ rw (in_set t)

    -- it comes to the phase that the table decides
    pub phase_at_lem : (t : ℕ) → at (phase_after s q) t ≡ cond (has s t) (decided 0 (at q.phase t)) (at q.phase t)
    unfolding phase_after
    phase_at_lem t = changed (has s) (λ i x. decided 0 x) q.tasks q.phase (omega (arith, S.phase)) t 0 ∙ rw (in_set t)

-- where link l's pointer goes, once the writers' part is done
abbrev pub aim : (ℕ → ℕ → Bool) → ℕ → Saved → ℕ → ℕ
aim ahead s q l = cond (delayed_kind (at q.kind l)) (at (previous_after s q) (at q.writer l)) (at (newest_after ahead s q) (at q.writer l))

-- a link whose reader is in the set goes there, and no other
pub pointer_at_lem : (ahead : ℕ → ℕ → Bool) {size : Size} (q : Saved) → Shape size q → (s : ℕ) → q.links ≤ size.links → (l : ℕ)
    → at (pointer_after ahead s q) l ≡ cond (ltb l q.links && has s (at q.reader l)) (aim ahead s q l) (at q.pointer l)
unfolding pointer_after
pointer_at_lem ahead q S s fits l = changed (λ i. has s (at q.reader i)) (λ i x. aim ahead s q i) q.links q.pointer (omega (arith, S.pointer)) l 0

-- the mark that link l gets, once the writers' part is done
abbrev pub mark_of : ℕ → Saved → ℕ → ℕ
mark_of s q l = cond (marked (delayed_kind (at q.kind l)) (at (seen_after s q) (at q.writer l))) 1 0

-- a link whose reader is in the set gets it, and no other
pub mark_at_lem : {size : Size} (q : Saved) → Shape size q → (s : ℕ) → q.links ≤ size.links → (l : ℕ)
    → at (mark_after s q) l ≡ cond (ltb l q.links && has s (at q.reader l)) (mark_of s q l) (at q.mark l)
unfolding mark_after
mark_at_lem q S s fits l = changed (λ i. has s (at q.reader i)) (λ i x. mark_of s q i) q.links q.mark (omega (arith, S.mark)) l 0
