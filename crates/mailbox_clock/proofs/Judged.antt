-- What an event given to a saved state is judged, under either policy, from what the judges ensure.
-- Assumes nothing.
use mathlib.Core.Path.{◌≡◌, refl, sym, ap, ◌∙◌}
use mathlib.Core.Logic.{◌≢◌}
use mathlib.Core.Bool.{Bool, true, false, cond, not, true≢false}
use Prim.Native.Nat.{ℕ}
use borrow.Author.Tests.{eq-eqb, ne_eqb, eqb-true}
use lib.Dec.{eqb}
use Rattle.protocol.specs.Event.{Event}
use Rattle.protocol_deadlines.specs.Deadline.{smaller}
use Rattle.protocol_deadlines.specs.Timed.{tried}
use Rattle.protocol_state.specs.Records.{earlier}
use Rattle.protocol_state.specs.Saved.{Saved, at}
use Rattle.protocol_state.specs.Judge.{judged_event, due_in, late_in, sooner_in, judged_on_at}

-- what the answer to the question for the policy p says
pub is_dated_lem : (p : ℕ) → not (eqb p 0) ≡ true → p ≢ 0
is_dated_lem p e z = true≢false (sym e ∙ ap not (eq-eqb p 0 z))

pub is_fixed : (p : ℕ) → not (eqb p 0) ≡ false → p ≡ 0
is_fixed p e = go (eqb p 0) refl e
  where
    go : (b : Bool) → eqb p 0 ≡ b → not b ≡ false → p ≡ 0
    go true i f = eqb-true p 0 i
    go false i f = absurd (true≢false f)

module _ (ahead : ℕ → ℕ → Bool) (q : Saved) where
  -- an event judged under some order of jobs
  abbrev pub judged_by : (ℕ → ℕ → Bool) → Event ℕ → ℕ
  judged_by before e = judged_event before e q.tasks q.links (at q.reader) (at q.phase)

  -- the order of jobs by when they are due
  abbrev pub due_before : ℕ → ℕ → Bool
  due_before u w = smaller (due_in q u) (due_in q w) (ahead u w)

  order_fixed : q.policy ≡ 0 → sooner_in ahead q ≡ earlier
  unfolding sooner_in
  order_fixed p = ap {B = ℕ → ℕ → Bool} (λ (b : Bool). λ u w. cond b (earlier u w) (due_before u w)) (eq-eqb q.policy 0 p)

  order_dated : q.policy ≢ 0 → sooner_in ahead q ≡ due_before
  unfolding sooner_in
  order_dated p = ap {B = ℕ → ℕ → Bool} (λ (b : Bool). λ u w. cond b (earlier u w) (due_before u w)) (ne_eqb q.policy 0 p)

  module _ (x : ℕ) (e : Event ℕ) where
    -- under fixed priorities, at any tick
    pub fixed_on : q.policy ≡ 0 → {r : ℕ} → r ≡ judged_by earlier e → r ≡ judged_on_at ahead q x e
    unfolding judged_on_at
    fixed_on p j = rw (eq-eqb q.policy 0 p) (j ∙ ap (λ (before : ℕ → ℕ → Bool). judged_by before e) (sym (order_fixed p)))

    -- with deadlines: j is the refusal without ticks
    pub dated_on : q.policy ≢ 0 → {j r : ℕ} → j ≡ judged_by due_before e → r ≡ tried j q.last x (late_in q x e) → r ≡ judged_on_at ahead q x e
    unfolding judged_on_at
    dated_on p j t =
        rw (ne_eqb q.policy 0 p)
        (t ∙ ap (λ (n : ℕ). tried n q.last x (late_in q x e)) (j ∙ ap (λ (before : ℕ → ℕ → Bool). judged_by before e) (sym (order_dated p))))
