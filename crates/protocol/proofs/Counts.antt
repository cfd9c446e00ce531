-- What one event does to the counts of a history.
-- Assumes nothing.
use mathlib.Core.Path.{◌≡◌, refl}
use mathlib.Core.Logic.{◌≢◌}
use mathlib.Core.Bool.{Bool, true, false, cond}
use mathlib.Core.List.{List, [], ◌∷◌}
use Prim.Native.Nat.{ℕ, suc, pred, ◌≤◌, ◌<◌}
use native.Mathlib.Omega.{arith}
use native.Mathlib.Decide.{ℕ_discrete}
use borrow.Author.Tests.{eq-eqb, ne_eqb, ltb-false}
use Rattle.protocol.specs.Given.{there, missing}
use Rattle.protocol.specs.Table.{early}
use Rattle.protocol.specs.Event.{Event, arrival, start, read, finish, has}
use Rattle.protocol.specs.History.{arrivals, starts, finishes, clock, up_to, output, stamp}
use Rattle.protocol.specs.ZeroTime.{run_of}

-- an output is not nothing
pub there_there : {Val : Type 0} (v : Val) → there v ≡ missing → ⊥
there_there v e = let z : ◌≡◌ {A = ℕ} 0 1 = cc in omega arith

-- where it is not early, a run is asked for, and no run has the number 0
pub run_of_some : (b : Bool) (n : ℕ) → early b n ≡ false → 1 ≤ run_of b n
run_of_some true n e = let q : 1 ≤ pred n = omega (arith, ltb-false n _ e) in q
run_of_some false n e = let q : 1 ≤ n = omega (arith, ltb-false n _ e) in q

module _ {Val : Type 0} (h : List (Event Val)) where
  pub arrivals_in_lem : (m t : ℕ) → has m t ≡ true → arrivals (arrival m ∷ h) t ≡ suc (arrivals h t)
  unfolding arrivals
  arrivals_in_lem m t e = rw e

  pub arrivals_out : (m t : ℕ) → has m t ≡ false → arrivals (arrival m ∷ h) t ≡ arrivals h t
  unfolding arrivals
  arrivals_out m t e = rw e

  pub up_to_in : (m r : ℕ) → has m r ≡ true → up_to (arrival m ∷ h) r ≡ arrival m ∷ h
  unfolding up_to
  up_to_in m r e = rw e

  pub up_to_out : (m r : ℕ) → has m r ≡ false → up_to (arrival m ∷ h) r ≡ up_to h r
  unfolding up_to
  up_to_out m r e = rw e

  pub finishes_same : (t : ℕ) (v : Val) → finishes (finish t v ∷ h) t ≡ suc (finishes h t)
  unfolding finishes
  finishes_same t v = rw (eq-eqb t t refl)

  pub finishes_other : (u t : ℕ) (v : Val) → u ≢ t → finishes (finish u v ∷ h) t ≡ finishes h t
  unfolding finishes
  finishes_other u t v n = rw (ne_eqb u t n)

  pub starts_same : (t : ℕ) → starts (start t ∷ h) t ≡ suc (starts h t)
  unfolding starts
  starts_same t = rw (eq-eqb t t refl)

  pub starts_other : (u t : ℕ) → u ≢ t → starts (start u ∷ h) t ≡ starts h t
  unfolding starts
  starts_other u t n = rw (ne_eqb u t n)

  pub output_other : (u w : ℕ) (v : Val) (k : ℕ) → u ≢ w → output (finish u v ∷ h) w k ≡ output h w k
  unfolding output
  output_other u w v k n = rw (ne_eqb u w n)

  pub output_new : (w : ℕ) (v : Val) → output (finish w v ∷ h) w (suc (finishes h w)) ≡ there v
  unfolding output
  output_new w v = rw (eq-eqb w w refl, eq-eqb (suc (finishes h w)) (suc (finishes h w)) refl)

  pub output_old : (w : ℕ) (v : Val) (k : ℕ) → k ≤ finishes h w → output (finish w v ∷ h) w k ≡ output h w k
  unfolding output
  output_old w v k q = rw (eq-eqb w w refl, ne_eqb k (suc (finishes h w)) (omega arith))

module _ {Val : Type 0} where
  arrivals_up_to_arrive : (h : List (Event Val)) (m r w : ℕ) → arrivals (up_to h r) w ≤ arrivals h w → arrivals (up_to (arrival m ∷ h) r) w ≤ arrivals (arrival m ∷ h) w
  arrivals_up_to_arrive h m r w i = go (has m r) refl (has m w) refl
    where
      go : (b : Bool) → has m r ≡ b → (c : Bool) → has m w ≡ c → arrivals (up_to (arrival m ∷ h) r) w ≤ arrivals (arrival m ∷ h) w
      go true e c f = rw (up_to_in h m r e) (omega arith)
      go false e true f = rw (up_to_out h m r e, arrivals_in_lem h m w f) (omega arith)
      go false e false f = rw (up_to_out h m r e, arrivals_out h m w f) i

  pub arrivals_up_to : (h : List (Event Val)) (r w : ℕ) → arrivals (up_to h r) w ≤ arrivals h w
  unfolding arrivals up_to
  arrivals_up_to [] r w = omega arith
  arrivals_up_to (arrival m ∷ h) r w = arrivals_up_to_arrive h m r w (arrivals_up_to h r w)
  arrivals_up_to (start u ∷ h) r w = arrivals_up_to h r w
  arrivals_up_to (read l ∷ h) r w = arrivals_up_to h r w
  arrivals_up_to (finish u v ∷ h) r w = arrivals_up_to h r w

  pub stamp_clock : (h : List (Event Val)) (r : ℕ) → stamp h r ≤ clock h
  unfolding clock up_to
  stamp_clock [] r = omega arith
  stamp_clock (arrival m ∷ h) r = go (has m r) (stamp_clock h r)
    where
      go : (b : Bool) → clock (up_to h r) ≤ clock h → clock (cond b (arrival m ∷ h) (up_to h r)) ≤ suc (clock h)
      go true i = omega arith
      go false i = omega arith
  stamp_clock (start u ∷ h) r = stamp_clock h r
  stamp_clock (read l ∷ h) r = stamp_clock h r
  stamp_clock (finish u v ∷ h) r = stamp_clock h r

  -- who arrives now arrives last
  pub stamp_in : (h : List (Event Val)) (m r : ℕ) → has m r ≡ true → stamp (arrival m ∷ h) r ≡ suc (clock h)
  unfolding clock
  stamp_in h m r e = rw (up_to_in h m r e)

  -- where r saw every arrival of w, w arrived no later than r
  stamp_seen_arrive : (h : List (Event Val)) (m r w : ℕ) → (arrivals (up_to h r) w ≡ arrivals h w → stamp h w ≤ stamp h r)
      → arrivals (up_to (arrival m ∷ h) r) w ≡ arrivals (arrival m ∷ h) w → stamp (arrival m ∷ h) w ≤ stamp (arrival m ∷ h) r
  unfolding clock
  stamp_seen_arrive h m r w i = go (has m r) refl (has m w) refl
    where
      go : (b : Bool) → has m r ≡ b → (c : Bool) → has m w ≡ c → arrivals (up_to (arrival m ∷ h) r) w ≡ arrivals (arrival m ∷ h) w
          → stamp (arrival m ∷ h) w ≤ stamp (arrival m ∷ h) r
      go true e c f q = rw (up_to_in h m r e) (stamp_clock (arrival m ∷ h) w)
      go false e true f q = absurd (omega (arith, rw (up_to_out h m r e, arrivals_in_lem h m w f) at q, arrivals_up_to h r w))
      go false e false f q = rw (up_to_out h m r e, up_to_out h m w f) (i (rw (up_to_out h m r e, arrivals_out h m w f) at q))

  pub stamp_seen : (h : List (Event Val)) (r w : ℕ) → arrivals (up_to h r) w ≡ arrivals h w → stamp h w ≤ stamp h r
  unfolding arrivals up_to clock
  stamp_seen [] r w q = omega arith
  stamp_seen (arrival m ∷ h) r w q = stamp_seen_arrive h m r w (stamp_seen h r w) q
  stamp_seen (start u ∷ h) r w q = stamp_seen h r w q
  stamp_seen (read l ∷ h) r w q = stamp_seen h r w q
  stamp_seen (finish u v ∷ h) r w q = stamp_seen h r w q

  -- a finish leaves what was there, and its own value is there
  output_there_finish : (h : List (Event Val)) (u : ℕ) (v : Val) (w k : ℕ) → (k ≤ finishes h w → output h w k ≢ missing) → k ≤ finishes (finish u v ∷ h) w
      → output (finish u v ∷ h) w k ≢ missing
  output_there_finish h u v w k i q = go (ℕ_discrete u w) (ℕ_discrete k (suc (finishes h w)))
    where
      go : Dec (u ≡ w) → Dec (k ≡ suc (finishes h w)) → output (finish u v ∷ h) w k ≢ missing
      go (yes x) (yes y) = rw (x, y, output_new h w v) (there_there v)
      go (yes x) (no y) = let k' : k ≤ finishes h w = omega (arith, finishes_same h w v, rw x at q) in rw (x, output_old h w v k k') (i k')
      go (no x) y = rw (output_other h u w v k x) (i (rw (finishes_other h u w v x) at q))

  -- the output of a run that has finished is there; runs are numbered from 1
  pub output_there : (h : List (Event Val)) (w k : ℕ) → 1 ≤ k → k ≤ finishes h w → output h w k ≢ missing
  unfolding output finishes
  output_there [] w k p q = absurd (omega arith)
  output_there (arrival m ∷ h) w k p q = output_there h w k p q
  output_there (start u ∷ h) w k p q = output_there h w k p q
  output_there (read l ∷ h) w k p q = output_there h w k p q
  output_there (finish u v ∷ h) w k p q = output_there_finish h u v w k (output_there h w k p) q

  -- a finish leaves what is missing of later runs
  output_missing_finish : (h : List (Event Val)) (u : ℕ) (v : Val) (w k : ℕ) → (finishes h w < k → output h w k ≡ missing) → finishes (finish u v ∷ h) w < k
      → output (finish u v ∷ h) w k ≡ missing
  unfolding output
  output_missing_finish h u v w k i q = go (ℕ_discrete u w)
    where
      go : Dec (u ≡ w) → output (finish u v ∷ h) w k ≡ missing
      go (yes x) =
          let f : suc (finishes h w) < k = rw (x, finishes_same h w v) at q in
          rw (x, eq-eqb w w refl, ne_eqb k (suc (finishes h w)) (λ e. omega arith)) (i (omega arith))
      go (no x) = rw (output_other h u w v k x) (i (rw (finishes_other h u w v x) at q))

  -- that of a run that has not finished is missing
  pub output_missing : (h : List (Event Val)) (w k : ℕ) → finishes h w < k → output h w k ≡ missing
  unfolding output finishes
  output_missing [] w k q = refl
  output_missing (arrival m ∷ h) w k q = output_missing h w k q
  output_missing (start u ∷ h) w k q = output_missing h w k q
  output_missing (read l ∷ h) w k q = output_missing h w k q
  output_missing (finish u v ∷ h) w k q = output_missing_finish h u v w k (output_missing h w k) q
