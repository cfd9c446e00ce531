-- The two parts of an arrival, turn by turn.
-- Assumes nothing.
use mathlib.Core.Path.{◌≡◌, refl, sym, ap, ◌∙◌}
use mathlib.Core.Bool.{Bool, true, false, cond, not, true≢false}
use Prim.Native.Nat.{ℕ, ◌+◌, ◌≤◌}
use native.Mathlib.Nat.{le_refl}
use lib.ListN.{set}
use lib.Seq.{set-get_or}
use Rattle.lists.specs.Lists.{upto}
use Rattle.lists.proofs.Lists.{at_bound, upto_none, upto_past, upto_more}
use Rattle.protocol.specs.Event.{has}
use Rattle.protocol.specs.Table.{marked}
use Rattle.protocol.specs.Published.{seen_once}
use Rattle.protocol.specs.Free.{lowest_free}
use Rattle.protocol_state.specs.Saved.{Saved, at, delayed_kind}
use Rattle.protocol_state.specs.Decision.{decided}
use Rattle.protocol_state.specs.Next.{with_phase, with_newest, with_previous, with_seen, with_pointer, with_mark, seen_at, phase_at, arrived, newest_after, previous_after, seen_after, pointer_after, mark_after, phase_after}
use Rattle.mailbox_arrival.specs.Arrives.{moved_at, moved, pointed_at, pointed, newest_on, previous_on, pointer_on, mark_on}

module _ (ahead : ℕ → ℕ → Bool) (s t : ℕ) (q : Saved) where
  -- a task that is not in the set stays as it is; b says whether it is
  pub stays : (b : Bool) → b ≡ has s t → not b ≡ true → q ≡ moved_at ahead s t q
  stays true e h = absurd (true≢false (sym h))
  stays false e h = rw (← e, set-get_or q.phase t 0, set-get_or q.seen t 0, set-get_or q.newest t 0, set-get_or q.previous t 0)

  -- one that is moves on, in four steps: y is its lowest free position, z its next phase, a what is seen of its arrivals
  pub moves :
      (b : Bool) {x y z a : ℕ} {q₁ q₂ q₃ q₄ : Saved} → b ≡ has s t → not b ≡ false → x ≡ at q.newest t →
      y ≡ lowest_free ahead (at q.writer) (at q.reader) (at q.pointer) q.links t x → z ≡ decided 0 (at q.phase t) → a ≡ seen_once (at q.seen t) →
      q₁ ≡ with_previous (set q.previous t x) q → q₂ ≡ with_newest (set q₁.newest t y) q₁ → q₃ ≡ with_seen (set q₂.seen t a) q₂ →
      q₄ ≡ with_phase (set q₃.phase t z) q₃ → q₄ ≡ moved_at ahead s t q
  moves true {x} {y} {z} {a} e h n f d o e₁ e₂ e₃ e₄ =
      e₄ ∙ ap (λ (p : Saved). with_phase (set p.phase t z) p)
      (e₃ ∙ ap (λ (p : Saved). with_seen (set p.seen t a) p) (e₂ ∙ ap (λ (p : Saved). with_newest (set p.newest t y) p) e₁))
      ∙ rw (← e, d, o, f, n)
  moves false e h n f d o e₁ e₂ e₃ e₄ = absurd (true≢false h)

module _ (s l : ℕ) (q : Saved) where
  -- a link whose reader is not in the set stays as it is; b says whether it is
  pub link_stays : (b : Bool) → b ≡ has s (at q.reader l) → not b ≡ true → q ≡ pointed_at s l q
  link_stays true e h = absurd (true≢false (sym h))
  link_stays false e h = rw (← e, set-get_or q.pointer l 0, set-get_or q.mark l 0)

  -- one whose reader is gets its pointer x and its mark m, in two steps
  pub link_points :
      (b : Bool) {x m : ℕ} {q₁ q₂ : Saved} → b ≡ has s (at q.reader l) → not b ≡ false →
      x ≡ cond (delayed_kind (at q.kind l)) (at q.previous (at q.writer l)) (at q.newest (at q.writer l)) →
      m ≡ cond (marked (delayed_kind (at q.kind l)) (at q.seen (at q.writer l))) 1 0 →
      q₁ ≡ with_pointer (set q.pointer l x) q → q₂ ≡ with_mark (set q₁.mark l m) q₁ → q₂ ≡ pointed_at s l q
  link_points true {x} {m} e h a o e₁ e₂ = e₂ ∙ ap (λ (p : Saved). with_mark (set p.mark l m) p) e₁ ∙ rw (← e, a, o)
  link_points false e h a o e₁ e₂ = absurd (true≢false h)

module _ (ahead : ℕ → ℕ → Bool) (s : ℕ) (q₀ : Saved) where
  pub moved_none : q₀ ≡ moved ahead s 0 q₀
  moved_none = rw (upto_none (phase_at s) q₀.phase, upto_none (seen_at s) q₀.seen, upto_none (newest_on ahead s q₀) q₀.newest, upto_none (previous_on s q₀) q₀.previous)

  -- the turn of task t: its newest position is still the one from before the loop
  pub moved_more : (t : ℕ) {q q' : Saved} → q ≡ moved ahead s t q₀ → q' ≡ moved_at ahead s t q → q' ≡ moved ahead s (t + 1) q₀
  moved_more t e one =
      let kept : at (upto (newest_on ahead s q₀) t q₀.newest) t ≡ at q₀.newest t =
      upto_past (newest_on ahead s q₀) t q₀.newest t 0 (le_refl t) in
      one ∙ ap (moved_at ahead s t) e
      ∙ rw (
        upto_more (phase_at s) t q₀.phase 0 refl refl,
        upto_more (seen_at s) t q₀.seen 0 refl refl,
        upto_more (newest_on ahead s q₀) t q₀.newest 0 refl refl,
        upto_more (previous_on s q₀) t q₀.previous 0 refl
            (ap (λ (y : ℕ). cond (has s t) y (at (upto (previous_on s q₀) t q₀.previous) t)) kept),
      )

  pub moved_end : (i n : ℕ) {q : Saved} → q ≡ moved ahead s i q₀ → i ≤ n → n ≤ i → q ≡ moved ahead s n q₀
  moved_end = at_bound (λ (k : ℕ). moved ahead s k q₀)

module _ (s : ℕ) (q₀ : Saved) where
  pub pointed_none : q₀ ≡ pointed s 0 q₀
  pointed_none = rw (upto_none (pointer_on s q₀) q₀.pointer, upto_none (mark_on s q₀) q₀.mark)

  -- the turn of link l
  pub pointed_more : (l : ℕ) {q q' : Saved} → q ≡ pointed s l q₀ → q' ≡ pointed_at s l q → q' ≡ pointed s (l + 1) q₀
  pointed_more l e one = one ∙ ap (pointed_at s l) e ∙ rw (upto_more (pointer_on s q₀) l q₀.pointer 0 refl refl, upto_more (mark_on s q₀) l q₀.mark 0 refl refl)

  pub pointed_end : (i n : ℕ) {q : Saved} → q ≡ pointed s i q₀ → i ≤ n → n ≤ i → q ≡ pointed s n q₀
  pointed_end = at_bound (λ (k : ℕ). pointed s k q₀)

-- both parts
pub both : (ahead : ℕ → ℕ → Bool) (s : ℕ) (q₀ : Saved) {q₁ q₂ : Saved} → q₁ ≡ moved ahead s q₀.tasks q₀ → q₂ ≡ pointed s q₀.links q₁ → q₂ ≡ arrived ahead s q₀
unfolding newest_after previous_after seen_after pointer_after mark_after phase_after
both ahead s q₀ a b = b ∙ ap (pointed s q₀.links) a
