-- What writing back answers, case by case, and the buffer after it.
-- Assumes nothing.
use mathlib.Core.Path.{◌≡◌, refl, sym, ◌∙◌}
use mathlib.Core.Logic.{◌≢◌}
use mathlib.Core.Bool.{Bool, true, false}
use mathlib.Core.List.{List, ◌++◌}
use Prim.Native.Nat.{ℕ, ◌+◌, ◌*◌, ◌≤◌, ◌<◌}
use native.Mathlib.Omega.{arith}
use borrow.Author.Tests.{eqb-true, ne_eqb, lt-ltb, le-ltb}
use lib.ListN.{length, drop}
use Rattle.lists.proofs.Search.{first_below}
use Rattle.settings_list.specs.declared.Slot.{Slot}
use Rattle.settings_entry.specs.Setting.{float_fault}
use Rattle.settings.specs.Writing.{setting_at, good_at, first_bad, AllGood, list_of, list_size, answer, written, back_buffer}
use Rattle.settings_list.proofs.Counting.{count_fine}

-- where the first bad one lies past them, the first n settings are good
pub all_good : (ss : List Slot) (n : ℕ) {b : ℕ} → b ≡ first_bad ss n → n ≤ b → AllGood ss n
all_good ss n e h i l = go (good_at ss i) refl
  where
    go : (t : Bool) → good_at ss i ≡ t → float_fault (setting_at ss i) ≡ 0
    go true t = eqb-true _ 0 t
    go false t = absurd (omega (arith, first_below (good_at ss) n 0 i (omega arith) t))

module _ (ss : List Slot) (n : ℕ) (old : List ℕ) where
  -- a refusal leaves the buffer as it was, and what holds on acceptance need not hold
  pub left_alone : {X : Type 0} {r p : ℕ} → r ≢ 0 → answer r p ≡ written ss n (length old) → (answer r p ≡ written ss n (length old)) × ((old ≡ back_buffer ss n old) × (r ≡ 0 → X))
  unfolding back_buffer
  left_alone {r = r} z e = (e, (sym (rw (← e, ne_eqb r 0 z)), λ y. absurd (z y)))

  -- an acceptance puts the list there
  pub list_there : {p : ℕ} {new : List ℕ} → answer 0 p ≡ written ss n (length old) → new ≡ list_of ss n ++ drop (list_size n) old → (answer 0 p ≡ written ss n (length old)) × (new ≡ back_buffer ss n old)
  unfolding back_buffer
  list_there e b = (e, b ∙ sym (rw (← e)))

-- so much room
module _ (ss : List Slot) (n room : ℕ) where
  -- no settings
  pub none_given : n ≡ 0 → answer 2 0 ≡ written ss n room
  unfolding written
  none_given e = sym (rw e)

  -- more than 64
  pub many_given : 64 < n → answer 2 0 ≡ written ss n room
  unfolding written
  many_given h = sym (rw (ne_eqb n 0 (omega arith), lt-ltb 64 n h))

  module _ (z : n ≢ 0) (h : n ≤ 64) {b : ℕ} (e : b ≡ first_bad ss n) where
    -- a bad float
    pub bad_given : b < n → answer 26 (1 + 9 * b) ≡ written ss n room
    unfolding written
    bad_given l = sym (rw (count_fine n z h, ← e, lt-ltb b n l))

    module _ (g : n ≤ b) where
      -- a short buffer
      pub short_buffer_lem : room < list_size n → answer 18 (list_size n) ≡ written ss n room
      unfolding written
      short_buffer_lem l = sym (rw (count_fine n z h, ← e, le-ltb b n g, lt-ltb room (list_size n) l))

      -- room enough
      pub room_enough_lem : list_size n ≤ room → answer 0 (list_size n) ≡ written ss n room
      unfolding written
      room_enough_lem l = sym (rw (count_fine n z h, ← e, le-ltb b n g, le-ltb room (list_size n) l))

-- what `judge` cites
pub ruleset judge_steps = (none_given, many_given, bad_given, short_buffer_lem, room_enough_lem)
