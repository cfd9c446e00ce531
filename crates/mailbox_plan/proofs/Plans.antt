-- A plan, flag by flag, and what a flag says.
-- Assumes nothing.
use mathlib.Core.Path.{◌≡◌, refl, ap, ◌∙◌}
use mathlib.Core.Bool.{Bool, true, false, cond, ◌&&◌}
use mathlib.Core.List.{List}
use Prim.Native.Nat.{ℕ, ◌+◌, ◌%◌, ◌≤◌, ◌<◌}
use native.Mathlib.Omega.{arith}
use borrow.Author.Tests.{eqb-true, eqb-false}
use lib.Dec.{eqb}
use lib.ListN.{length, set}
use lib.Seq.{get_or-set_same, get_or-set_other}
use Rattle.protocol_state.specs.Saved.{at, state_room}
use Rattle.mailbox_plan.specs.Plan.{is_flagged, is_one, Planned}

-- a test that tells 1 from 0 says of a flag what it was put by
told : (f : ℕ → Bool) (b : Bool) → f 1 ≡ true → f 0 ≡ false → f (cond b 1 0) ≡ b
told f true one none = one
told f false one none = none

-- a test of x where x is y is one of y
tested_at : (f : ℕ → Bool) (x y : ℕ) → (eqb x y && f x) ≡ (eqb x y && f y)
tested_at f x y = go (eqb x y) refl where
  go : (b : Bool) → eqb x y ≡ b → (b && f x) ≡ (b && f y)
  go true e = ap f (eqb-true x y e)
  go false e = refl

module _ {ahead : ℕ → ℕ → Bool} {W R : ℕ → ℕ} where
  -- of no link nothing is said
  pub plan_none : {plan : List ℕ} → Planned ahead W R 0 plan
  plan_none = record { flag = λ l h. absurd (omega arith) }

  -- the plan of more links is that of the first
  pub plan_first : {m n : ℕ} {plan : List ℕ} → m ≤ n → Planned ahead W R n plan → Planned ahead W R m plan
  plan_first h p = record { flag = λ l i. p.flag l (omega arith) }

  -- one flag more keeps the plan
  pub plan_more :
      (n : ℕ) (plan : List ℕ) {plan' : List ℕ} {b : Bool} → Planned ahead W R n plan → length plan ≡ state_room.links → n < state_room.links → b ≡ ahead (W n) (R n) →
      plan' ≡ set plan n (cond b 1 0) → Planned ahead W R (n + 1) plan'
  plan_more n plan {plan'} {b} p size room e s = rw (s, e) record {
    flag = λ l h. go l h (eqb l n) refl;
  } where
    x : ℕ
    x = cond (ahead (W n) (R n)) 1 0

    go : (l : ℕ) → l < n + 1 → (c : Bool) → eqb l n ≡ c → at (set plan n x) l ≡ cond (ahead (W l) (R l)) 1 0
    go l h true i =
        let same : l ≡ n = eqb-true l n i in
        rw same (get_or-set_same plan n x 0 (omega arith))
    go l h false i =
        let other = eqb-false l n i in
        get_or-set_other plan n l x 0 (omega (arith, other)) ∙ p.flag l (omega arith)

  -- what the flag of a link says, by any test that tells 1 from 0
  flag_by : (f : ℕ → Bool) → f 1 ≡ true → f 0 ≡ false → {n : ℕ} {plan : List ℕ} (l : ℕ) → Planned ahead W R n plan → l < n → f (at plan l) ≡ ahead (W l) (R l)
  flag_by f one none l p h = ap f (p.flag l h) ∙ told f (ahead (W l) (R l)) one none

  -- by its last bit
  pub flag_says : {n : ℕ} {plan : List ℕ} (l : ℕ) → Planned ahead W R n plan → l < n → is_flagged plan l ≡ ahead (W l) (R l)
  flag_says = flag_by (λ x. eqb (x % 2) 1) refl refl

  -- and by the whole byte
  byte_says : {n : ℕ} {plan : List ℕ} (l : ℕ) → Planned ahead W R n plan → l < n → is_one plan l ≡ ahead (W l) (R l)
  byte_says = flag_by (λ x. eqb x 1) refl refl

  -- so, by the last bit, where task t writes by it, that t is ahead of its reader
  pub flag_from : {n : ℕ} {plan : List ℕ} (l t : ℕ) → Planned ahead W R n plan → l < n → (eqb (W l) t && is_flagged plan l) ≡ (eqb (W l) t && ahead t (R l))
  flag_from l t p h = rw (flag_says l p h) (tested_at (λ w. ahead w (R l)) (W l) t)

  -- and, by the whole byte, where t reads by it, that its writer is ahead of t
  pub flag_to : {n : ℕ} {plan : List ℕ} (l t : ℕ) → Planned ahead W R n plan → l < n → (eqb (R l) t && is_one plan l) ≡ (eqb (R l) t && ahead (W l) t)
  flag_to l t p h = rw (byte_says l p h) (tested_at (ahead (W l)) (R l) t)

-- the plan of links is that of others that agree with them
pub plan_same : {ahead : ℕ → ℕ → Bool} {W R W' R' : ℕ → ℕ} {n : ℕ} {plan : List ℕ} → ((l : ℕ) → l < n → W l ≡ W' l) → ((l : ℕ) → l < n → R l ≡ R' l) → Planned ahead W R n plan →
    Planned ahead W' R' n plan
plan_same w r p = record { flag = λ l h. rw (← w l h, ← r l h) (p.flag l h) }

-- and that of a state is that of another with the same writers and readers
pub plan_kept : {ahead : ℕ → ℕ → Bool} {W R W' R' : List ℕ} {n : ℕ} {plan : List ℕ} → W' ≡ W → R' ≡ R → Planned ahead (at W) (at R) n plan → Planned ahead (at W') (at R') n plan
plan_kept w r p = rw (w, r) p
