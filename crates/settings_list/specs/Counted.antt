-- What the reader of the count and that of the list answer with, as the format says it.
-- Assumes nothing.
use Rattle.std.specs.Prelude.{Result, Ok, Err, ℕ}
use Rattle.byte_format.specs.Format.{Got, got, stop}
use Rattle.refusals.specs.declared.Refusal.{Refusal}
use Rattle.refusals.specs.declared.Refused.{Refused}
use Rattle.refusals.specs.Numbers.{number}
use Rattle.settings_list.specs.declared.Migration.{Migration}
use Rattle.settings_list.specs.Migration.{refused_at}

-- a count and the place after it, or the refusal
abbrev pub counted_of : Result ℕ Refusal → Got ℕ
counted_of (Ok n) = got n 1
counted_of (Err r) = stop (number r)

-- the answer to a list, refused or not
abbrev pub answered : Result Migration Refused → Migration
answered (Ok x) = x
answered (Err r) = refused_at (number r.refusal) r.place
