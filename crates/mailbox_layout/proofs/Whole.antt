-- Arrays of a state are equal where the saved states are that they hold: nothing of them lies outside the regions.
-- Assumes nothing.
use mathlib.Core.Path.{◌≡◌, refl, sym, ap, ◌∙◌}
use mathlib.Core.List.{List, [], ◌∷◌}
use Prim.Native.Nat.{ℕ}
use native.Mathlib.Omega.{arith}
use lib.ListN.{length}
use Rattle.protocol_state.specs.Saved.{Shape, state_room, at}
use Rattle.regions.specs.Regions.{regions, region, width, start}
use Rattle.regions.proofs.Regions.{regions_whole, region_full}
use Rattle.mailbox_layout.proofs.Places.{control_extent, value_extent, time_extent}
use Rattle.mailbox_layout.specs.Layout.{HasLengths, control_widths, value_widths, time_widths, time_size, last_region, policy_region, cut, cut_values, cut_times, deadline_in, since_in, last_in, policy_in, control_of, values_of, times_of, state_of}

-- the last tick and the policy are a number each
ones : (x : List ℕ) → length x ≡ time_size → cut_times x ≡ deadline_in x ∷ since_in x ∷ (last_in x ∷ []) ∷ (policy_in x ∷ []) ∷ []
unfolding regions start
ones x e =
    let full : (k : ℕ) → length (region (cut_times x) k) ≡ width time_widths k = region_full time_widths x (e ∙ sym time_extent) in
    ap (λ (ys : List ℕ). deadline_in x ∷ since_in x ∷ ys ∷ region (cut_times x) policy_region ∷ []) (single (region (cut_times x) last_region) (full last_region))
    ∙ ap (λ (ys : List ℕ). deadline_in x ∷ since_in x ∷ (last_in x ∷ []) ∷ ys ∷ []) (single (region (cut_times x) policy_region) (full policy_region))
  where
    single : (ys : List ℕ) → length ys ≡ 1 → ys ≡ at ys 0 ∷ []
    single [] z = absurd (omega arith)
    single (y ∷ []) z = refl
    single (y ∷ w ∷ ys) z = absurd (omega arith)

module _ (T L T' L' : ℕ) (c v x c' v' x' : List ℕ) (e : state_of T L c v x ≡ state_of T' L' c' v' x') (f : HasLengths c v x) (f' : HasLengths c' v' x') where
  pub same_control : c ≡ c'
  unfolding regions start
  same_control = regions_whole control_widths c c' (omega (arith, f.control)) (omega (arith, f'.control)) (ap control_of e)

  pub same_values : v ≡ v'
  unfolding regions start
  same_values = regions_whole value_widths v v' (omega (arith, f.values)) (omega (arith, f'.values)) (ap values_of e)

  pub same_times : x ≡ x'
  unfolding regions start
  same_times = regions_whole time_widths x x' (omega (arith, f.times)) (omega (arith, f'.times)) (ones x f.times ∙ ap times_of e ∙ sym (ones x' f'.times))

-- the parts of a state whose arrays have their lengths have theirs
pub filled_shape : (T L : ℕ) (c v x : List ℕ) → HasLengths c v x → Shape state_room (state_of T L c v x)
filled_shape T L c v x f =
    let full : (k : ℕ) → length (region (cut c) k) ≡ width control_widths k = region_full control_widths c (f.control ∙ sym control_extent) in
    let filled : (k : ℕ) → length (region (cut_values v) k) ≡ width value_widths k = region_full value_widths v (f.values ∙ sym value_extent) in
    let timed : (k : ℕ) → length (region (cut_times x) k) ≡ width time_widths k = region_full time_widths x (f.times ∙ sym time_extent) in
    record {
      defaults = filled 0;
      phase = full 0;
      newest = full 1;
      previous = full 2;
      seen = full 3;
      cells = filled 2;
      writer = full 6;
      reader = full 7;
      kind = full 8;
      start_value = filled 1;
      pointer = full 4;
      mark = full 5;
      deadline = timed 0;
      since = timed 1;
    }
