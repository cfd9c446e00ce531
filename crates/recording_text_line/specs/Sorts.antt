-- The numbers of the sorts of records.
-- Assumes nothing.
use Rattle.std.specs.Prelude.{Option, Some, None, ℕ}
use Rattle.recording_text_line.specs.declared.sort.Sort.{Sort}
use Rattle.recording_text_line.specs.declared.sort.Sort.TheVariants as of

abbrev pub sort_number : Sort → ℕ
sort_number of.Task = 1
sort_number of.Link = 2
sort_number of.Event = 3
sort_number of.Kind = 4

-- that of no record is 0
abbrev pub sorted : Option Sort → ℕ
sorted None = 0
sorted (Some k) = sort_number k
