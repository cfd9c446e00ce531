-- The decision table says what document 01 says of the four kinds in the three phases: one test over its twelve entries, computed.
-- Assumes nothing.
use mathlib.Core.Path.{◌≡◌, refl, sym, ap, ◌∙◌}
use mathlib.Core.Bool.{Bool, true, false, cond, true≢false}
use Prim.Native.Nat.{ℕ, ◌+◌, ◌*◌, ◌/◌, ◌%◌, ◌≤◌, ◌<◌, min}
use native.Mathlib.Omega.{arith}
use borrow.Author.Tests.{eqb-true, leb-true}
use lib.Dec.{eqb, leb}
use lib.ListN.{get_or}
use Rattle.lists.specs.Lists.{every}
use Rattle.lists.proofs.Lists.{every_at}
use Rattle.protocol_state.specs.Decision.{decisions, decided, rule}
use Rattle.protocol_state.specs.Judge.{allows}

right : ℕ → Bool
right i = eqb (get_or decisions i 0) (rule (i / 3) (i % 3))

all_right : every right 12 ≡ true
unfolding every right
all_right = refl

-- each entry is what its rule says
pub decided_rule : (k p : ℕ) → k < 4 → p < 3 → decided k p ≡ rule k p
unfolding decided right
decided_rule k p hk hp =
    let ek : k % 4 ≡ k = omega arith in
    let ep : min p 2 ≡ p = omega arith in
    let dk : (k * 3 + p) / 3 ≡ k = omega arith in
    let dp : (k * 3 + p) % 3 ≡ p = omega arith in
    let e : get_or decisions (k * 3 + p) 0 ≡ rule ((k * 3 + p) / 3) ((k * 3 + p) % 3) =
    eqb-true _ _ (every_at right 12 (k * 3 + p) all_right (omega arith)) in
    ap (λ (i : ℕ). get_or decisions (i * 3 + min p 2) 0) ek ∙ ap (λ (i : ℕ). get_or decisions (k * 3 + i) 0) ep ∙ e
    ∙ ap (λ (i : ℕ). rule i ((k * 3 + p) % 3)) dk ∙ ap (rule k) dp

small : every (λ i. leb (get_or decisions i 0) 15) 12 ≡ true
unfolding every
small = refl

-- no entry is above 15
pub decided_small : (k p : ℕ) → decided k p ≤ 15
unfolding decided
decided_small k p = leb-true _ 15 (every_at (λ i. leb (get_or decisions i 0) 15) 12 (k % 4 * 3 + min p 2) small (omega arith))

-- an entry that is a phase in phase a only, and allows, stands in phase a
only_in : (d p a y z : ℕ) → d ≡ cond (eqb p a) y z → allows z ≡ false → allows d ≡ true → (p ≡ a) × (d ≡ y)
only_in d p a y z e n ok = go (eqb p a) refl e where
  go : (b : Bool) → eqb p a ≡ b → d ≡ cond b y z → (p ≡ a) × (d ≡ y)
  go true h i = (eqb-true p a h, i)
  go false h i = absurd (true≢false (sym (rw i at ok) ∙ n))

-- an arrival is allowed in phase idle only, and waiting follows
pub arrives_idle : (p : ℕ) → p < 3 → allows (decided 0 p) ≡ true → (p ≡ 0) × (decided 0 p ≡ 1)
arrives_idle p l ok = only_in (decided 0 p) p 0 1 13 (decided_rule 0 p (omega arith) l) refl ok

-- a start is allowed in phase waiting only, and running follows
pub starts_waiting : (p : ℕ) → p < 3 → allows (decided 1 p) ≡ true → (p ≡ 1) × (decided 1 p ≡ 2)
starts_waiting p l ok = only_in (decided 1 p) p 1 2 14 (decided_rule 1 p (omega arith) l) refl ok

-- a read is allowed in phase running only
pub reads_running : (p : ℕ) → p < 3 → allows (decided 2 p) ≡ true → (p ≡ 2) × (decided 2 p ≡ 2)
reads_running p l ok = only_in (decided 2 p) p 2 2 15 (decided_rule 2 p (omega arith) l) refl ok

-- a finish is allowed in phase running only, and idle follows
pub finishes_running : (p : ℕ) → p < 3 → allows (decided 3 p) ≡ true → (p ≡ 2) × (decided 3 p ≡ 0)
finishes_running p l ok = only_in (decided 3 p) p 2 0 15 (decided_rule 3 p (omega arith) l) refl ok
