-- Of `settings::write::first_bad` the loop's invariant: the first i settings are good, and such as a machine holds.
-- Assumes nothing.
use mathlib.Core.Path.{◌≡◌}
use Prim.Native.Nat.{ℕ, ◌-◌, ◌<◌}
use Rattle.lists.specs.Lists.{first}
use Rattle.settings_entry.specs.Setting.{Held}
use Rattle.settings.specs.Writing.{setting_at, good_at, first_bad}
use Rattle.settings.proofs.write.first_bad.Given as goal

abbrev pub invariant-loop-i : goal.invariant-loop-i
invariant-loop-i l = (first_bad l.settings l.n ≡ first (good_at l.settings) (l.n - l.i) l.i) × ((k : ℕ) → k < l.i → Held (setting_at l.settings k))
