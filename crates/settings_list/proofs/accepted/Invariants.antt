-- Of `settings_list::accepted` the loop's invariant: the count is right, the first i entries are settings without a fault, in their slots, and the
-- rest is read from the place on.
-- Assumes nothing.
use mathlib.Core.Path.{◌≡◌}
use mathlib.Core.List.{List, [], ◌++◌}
use Prim.Native.Nat.{◌+◌, ◌-◌, ◌*◌, ◌≤◌}
use lib.ListN.{length, drop}
use Rattle.byte_format.specs.Format.{got}
use Rattle.byte_format.specs.Section.{count_at}
use Rattle.byte_format.specs.Play.{play}
use Rattle.settings_entry.specs.declared.Setting.{Setting}
use Rattle.settings_entry.specs.Entry.{entries}
use Rattle.settings_list.specs.Migration.{count_limit, bad_float, and_setting, slots}
use Rattle.settings_list.proofs.accepted.Given as goal

abbrev pub invariant-loop-i : goal.invariant-loop-i
invariant-loop-i l = record {
  counted : got l.number 1 ≡ count_at 1 count_limit l.s 0;
  few : l.number ≤ 64;
  taken :
      (xs : List Setting)
      × ((length xs ≡ l.i)
      × ((l.slot-items ++ drop l.number (slots []) ≡ slots xs)
      × (play entries bad_float and_setting l.number [] l.s 1 ≡ play entries bad_float and_setting (l.number - l.i) xs l.s (1 + 9 * l.i))));
}
