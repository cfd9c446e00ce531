-- One turn of the list: the entry at a place is taken, or refused.
-- Assumes nothing.
use mathlib.Core.Path.{◌≡◌}
use mathlib.Core.Logic.{◌≢◌}
use mathlib.Core.List.{List, [], ◌∷◌, ◌++◌}
use Prim.Native.Nat.{ℕ, ◌+◌, ◌-◌, ◌<◌}
use native.Mathlib.Omega.{arith}
use Rattle.byte_format.specs.Format.{got, stop}
use Rattle.byte_format.specs.Play.{Verdict, verdict, play}
use Rattle.byte_format.proofs.Plays.{play_on, play_refused, play_stop}
use Rattle.settings_entry.specs.declared.Setting.{Setting}
use Rattle.settings_entry.specs.Setting.{float_fault}
use Rattle.settings_entry.specs.Entry.{entries, setting_of}
use Rattle.settings_entry.specs.Found.{setting_taken}
use Rattle.settings_entry.proofs.Entries.{Turn, takes, faults, stops, turn}
use Rattle.settings_list.specs.Migration.{bad_float, and_setting}

-- the list at turn i of n: w is its whole reply, and what is left of it is read from place p on
module _ (xs : List Setting) (s : List ℕ) (p i n : ℕ) {w : Verdict (List Setting)} (h : i < n) (e : w ≡ play entries bad_float and_setting (n - i) xs s p) where
  -- an entry that is taken: on to the next
  pub taken_on : (x : Setting) (q : ℕ) → setting_taken s p ≡ got x q → w ≡ play entries bad_float and_setting (n - (i + 1)) (xs ++ (x ∷ [])) s q
  taken_on x q u = go (turn s p)
    where
      not : (r : ℕ) → setting_taken s p ≡ stop r → w ≡ play entries bad_float and_setting (n - (i + 1)) (xs ++ (x ∷ [])) s q
      not r v = let y : ◌≡◌ {A = ℕ} 0 1 = cc in absurd (omega arith)

      go : Turn s p → w ≡ play entries bad_float and_setting (n - (i + 1)) (xs ++ (x ∷ [])) s q
      go (takes a m r f v) =
          let y : setting_of a ≡ x = cc in
          let z : m ≡ q = cc in
          rw (← y, ← z) (play_on entries bad_float and_setting xs s p i n e a m h r f)
      go (faults a m r f v) = not (float_fault (setting_of a)) v
      go (stops r f k v) = not r v

  -- one that is refused: that is the reply
  pub taken_stops : (r : ℕ) → setting_taken s p ≡ stop r → (r ≢ 0) × (verdict r p xs ≡ w)
  taken_stops r u = go (turn s p)
    where
      go : Turn s p → (r ≢ 0) × (verdict r p xs ≡ w)
      go (takes a m k f v) = let y : ◌≡◌ {A = ℕ} 0 1 = cc in absurd (omega arith)
      go (faults a m k f v) =
          let y : float_fault (setting_of a) ≡ r = cc in
          (rw y at f, rw y at (play_refused entries bad_float and_setting xs s p i n e a m h k f))
      go (stops b f k v) =
          let y : b ≡ r = cc in
          (rw y at f, rw y at (play_stop entries bad_float and_setting xs s p i n e b h k))
