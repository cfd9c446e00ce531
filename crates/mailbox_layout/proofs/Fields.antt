-- A region put anew is a field of the state anew, and no other field changes.
-- Assumes nothing.
use mathlib.Core.Path.{◌≡◌, ap}
use mathlib.Core.List.{List}
use Prim.Native.Nat.{ℕ}
use lib.ListN.{set}
use Rattle.protocol_state.specs.Saved.{at}
use Rattle.regions.specs.Regions.{regions}
use Rattle.protocol_state.specs.Next.{with_phase, with_newest, with_previous, with_seen, with_cells, with_pointer, with_mark, with_ticks}
use Rattle.mailbox_layout.specs.Layout.{phase_region, newest_region, previous_region, seen_region, pointer_region, mark_region, cell_region, since_region, last_region, cut, cut_values, cut_times, fields_of, state_of}

module _ (T L : ℕ) (c c' v x : List ℕ) where
  same : (k : ℕ) (y : List ℕ) → cut c' ≡ set (cut c) k y → state_of T L c' v x ≡ fields_of T L (set (cut c) k y) (cut_values v) (cut_times x)
  same k y e = ap (λ (B : List (List ℕ)). fields_of T L B (cut_values v) (cut_times x)) e

  pub phase_put : {y : List ℕ} → cut c' ≡ set (cut c) phase_region y → state_of T L c' v x ≡ with_phase y (state_of T L c v x)
  unfolding regions
  phase_put {y} e = same phase_region y e

  pub newest_put : {y : List ℕ} → cut c' ≡ set (cut c) newest_region y → state_of T L c' v x ≡ with_newest y (state_of T L c v x)
  unfolding regions
  newest_put {y} e = same newest_region y e

  pub previous_put : {y : List ℕ} → cut c' ≡ set (cut c) previous_region y → state_of T L c' v x ≡ with_previous y (state_of T L c v x)
  unfolding regions
  previous_put {y} e = same previous_region y e

  pub seen_put : {y : List ℕ} → cut c' ≡ set (cut c) seen_region y → state_of T L c' v x ≡ with_seen y (state_of T L c v x)
  unfolding regions
  seen_put {y} e = same seen_region y e

  pub mark_put : {y : List ℕ} → cut c' ≡ set (cut c) mark_region y → state_of T L c' v x ≡ with_mark y (state_of T L c v x)
  unfolding regions
  mark_put {y} e = same mark_region y e

  pub pointer_put : {y : List ℕ} → cut c' ≡ set (cut c) pointer_region y → state_of T L c' v x ≡ with_pointer y (state_of T L c v x)
  unfolding regions
  pointer_put {y} e = same pointer_region y e

module _ (T L : ℕ) (c v v' x : List ℕ) where
  pub cells_put : {y : List ℕ} → cut_values v' ≡ set (cut_values v) cell_region y → state_of T L c v' x ≡ with_cells y (state_of T L c v x)
  unfolding regions
  cells_put e = ap (λ (N : List (List ℕ)). fields_of T L (cut c) N (cut_times x)) e

module _ (T L : ℕ) (c v x x' : List ℕ) where
  same_times : (k : ℕ) (y : List ℕ) → cut_times x' ≡ set (cut_times x) k y → state_of T L c v x' ≡ fields_of T L (cut c) (cut_values v) (set (cut_times x) k y)
  same_times k y e = ap (λ (N : List (List ℕ)). fields_of T L (cut c) (cut_values v) N) e

  -- the arrival ticks
  pub since_put : {y : List ℕ} → cut_times x' ≡ set (cut_times x) since_region y → state_of T L c v x' ≡ with_ticks y (state_of T L c v x).last (state_of T L c v x)
  unfolding regions
  since_put {y} e = same_times since_region y e

  -- the last tick
  pub last_put_lem : (y : List ℕ) → cut_times x' ≡ set (cut_times x) last_region y → state_of T L c v x' ≡ with_ticks (state_of T L c v x).since (at y 0) (state_of T L c v x)
  unfolding regions
  last_put_lem y e = same_times last_region y e
