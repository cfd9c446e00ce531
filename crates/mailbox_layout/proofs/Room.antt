-- Counts within the room.
-- Assumes nothing.
use mathlib.Core.Path.{◌≡◌}
use mathlib.Core.List.{List}
use Prim.Native.Nat.{ℕ, ◌≤◌}
use native.Mathlib.Nat.{min-eq_left}
use Rattle.protocol_state.specs.Saved.{state_room}
use Rattle.mailbox_layout.specs.Layout.{state_of, view_of}

-- they are taken as they are
pub view_within : (T L : ℕ) (c v x : List ℕ) → T ≤ state_room.tasks → L ≤ state_room.links → view_of T L c v x ≡ state_of T L c v x
view_within T L c v x few less = rw (min-eq_left few, min-eq_left less)
