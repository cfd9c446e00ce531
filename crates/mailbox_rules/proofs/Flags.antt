-- Counts of links by their flags: with no link, one link more, and what they are under an order that the plan is right for.
-- Assumes nothing.
use mathlib.Core.Path.{◌≡◌, refl, sym, ◌∙◌}
use mathlib.Core.Bool.{Bool, true, false, cond, ◌&&◌}
use mathlib.Core.List.{List}
use Prim.Native.Nat.{ℕ, ◌+◌, ◌≤◌, ◌<◌}
use native.Mathlib.Nat.{add-zero}
use native.Mathlib.Omega.{arith}
use borrow.Author.Tests.{eqb-true, eqb-false}
use lib.Dec.{eqb}
use lib.ListN.{length, length-set, set}
use lib.Seq.{get_or-set_same, get_or-set_other}
use Rattle.lists.specs.Lists.{count}
use Rattle.lists.proofs.Lists.{count_none, count_more, count_le}
use Rattle.protocol.specs.Table.{behinds, to_behind}
use Rattle.protocol_state.specs.Saved.{at, state_room}
use Rattle.protocol_state.proofs.Places.{count_same}
use Rattle.mailbox_plan.specs.Plan.{is_flagged, Planned}
use Rattle.mailbox_plan.proofs.Plans.{flag_from}
use Rattle.mailbox_rules.specs.CountsBehind.{CountsBehind}

-- link j is task t's and has its flag
abbrev pub flagged : (ℕ → ℕ) → List ℕ → ℕ → ℕ → Bool
flagged W plan t j = eqb (W j) t && is_flagged plan j

-- those are its links to readers behind, where the plan is right
pub flagged_behind : {ahead : ℕ → ℕ → Bool} {W R : ℕ → ℕ} {n : ℕ} {plan : List ℕ} (t : ℕ) → Planned ahead W R n plan → count (flagged W plan t) n ≡ behinds ahead W R t n
flagged_behind {ahead} {W} {R} {n} {plan} t p = count_same (flagged W plan t) (to_behind ahead W R t) n (λ j h. flag_from j t p h)

-- the counts of the first n links by their flags
pub record ByFlags (W : ℕ → ℕ) (plan : List ℕ) (n : ℕ) (counts : List ℕ) : Type 0 where
  pub size : length counts ≡ state_room.tasks
  pub each : (t : ℕ) → t < state_room.tasks → at counts t ≡ count (flagged W plan t) n

module _ {W : ℕ → ℕ} {plan : List ℕ} where
  -- of no link nothing is counted
  pub none_counted : {counts : List ℕ} → length counts ≡ state_room.tasks → ((t : ℕ) → at counts t ≡ 0) → ByFlags W plan 0 counts
  none_counted size zero = record { size = size; each = λ t h. zero t ∙ count_none (flagged W plan t) }

  module _ {n : ℕ} {counts : List ℕ} (c : ByFlags W plan n counts) where
    -- no count is above the links
    pub counted_few : (t : ℕ) → t < state_room.tasks → at counts t ≤ n
    counted_few t h = rw (c.each t h) (count_le (flagged W plan t) n)

    -- one link more
    pub one_counted : {w : ℕ} {b : Bool} {counts' : List ℕ} → w ≡ W n → b ≡ is_flagged plan n → counts' ≡ set counts w (at counts w + cond b 1 0) → ByFlags W plan (n + 1) counts'
    one_counted {w} {b} ew eb s = rw s record {
      size = simp length-set c.size;
      each = λ t h. go t h (eqb w t) refl;
    } where
      x : ℕ
      x = at counts w + cond b 1 0

      go : (t : ℕ) → t < state_room.tasks → (same : Bool) → eqb w t ≡ same → at (set counts w x) t ≡ count (flagged W plan t) (n + 1)
      go t h true e =
          let is : w ≡ t = eqb-true w t e in
          let here : at (set counts w x) t ≡ x = rw (← is) (get_or-set_same counts w x 0 (omega (arith, c.size, is, h))) in
          let before : at counts w ≡ count (flagged W plan t) n = rw is (c.each t h) in
          let mine : b ≡ flagged W plan t n = eb ∙ rw (← ew, e) in
          here ∙ count_more (flagged W plan t) n mine before refl
      go t h false e =
          let other = eqb-false w t e in
          let not_mine : false ≡ flagged W plan t n = rw (← ew, e) in
          get_or-set_other counts w t x 0 (λ i. other (sym i)) ∙ sym (add-zero _) ∙ count_more (flagged W plan t) n not_mine (c.each t h) refl

    -- under an order that the plan is right for
    pub counts_behind : {ahead : ℕ → ℕ → Bool} {R : ℕ → ℕ} → Planned ahead W R n plan → CountsBehind ahead W R n counts
    counts_behind p = record { count = λ t h. c.each t h ∙ flagged_behind t p }
