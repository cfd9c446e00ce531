-- An entry that is put: no room for it, a bad float, or its bytes.
-- Assumes nothing.
use mathlib.Core.Path.{◌≡◌, sym, ◌∙◌}
use mathlib.Core.Bool.{Bool, true, false}
use mathlib.Core.List.{List}
use Prim.Native.Nat.{ℕ, ◌+◌, ◌-◌, ◌≤◌, ◌<◌}
use native.Mathlib.Omega.{arith}
use borrow.Author.Tests.{le-leb, lt-leb}
use lib.Dec.{eqb}
use lib.ListN.{length}
use Rattle.lent_bytes.specs.Put.{put_at}
use Rattle.settings_entry.specs.declared.Setting.{Setting}
use Rattle.settings_entry.specs.Setting.{float_fault}
use Rattle.settings_entry.specs.Entry.{encode_entry, entry_of}
use Rattle.settings_put.specs.Put.{entry_put}

module _ (old : List ℕ) (at : ℕ) (x : Setting) {m : ℕ} (e : m ≡ length old - at) where
  -- no room
  pub no_room_lem : m < 9 → old ≡ entry_put old at x
  unfolding entry_put
  no_room_lem h = sym (rw (lt-leb 9 (length old - at) (omega arith)))

  module _ (h : 9 ≤ m) {b : Bool} (g : b ≡ eqb (float_fault x) 0) where
    -- a bad float
    pub bad_put : b ≡ false → old ≡ entry_put old at x
    unfolding entry_put
    bad_put f = let z : eqb (float_fault x) 0 ≡ false = sym g ∙ f in sym (rw (le-leb 9 (length old - at) (omega arith), z))

    -- neither
    pub good_put : {new : List ℕ} → b ≡ true → new ≡ put_at old at (encode_entry (entry_of x)) → new ≡ entry_put old at x
    unfolding entry_put
    good_put t p = let z : eqb (float_fault x) 0 ≡ true = sym g ∙ t in p ∙ sym (rw (le-leb 9 (length old - at) (omega arith), z))

  -- room, as a place
  pub room_there : 9 ≤ m → at + 9 ≤ length old
  room_there h = omega arith

-- where there is room for the entry of a setting that may stand in a list, it is put
pub entry_put_lem : (old : List ℕ) (at : ℕ) (x : Setting) {new : List ℕ} → at + 9 ≤ length old → float_fault x ≡ 0 → new ≡ entry_put old at x → new ≡ put_at old at (encode_entry (entry_of x))
unfolding entry_put
entry_put_lem old at x h z e = e ∙ rw (le-leb 9 (length old - at) (omega arith), z)
