-- The fields that the code names, by the numbers of their regions.
-- Assumes nothing.
use Rattle.std.specs.Prelude.{ℕ}
use Rattle.mailbox_layout.specs.declared.InControl.{InControl}
use Rattle.mailbox_layout.specs.declared.InControl.TheVariants as control
use Rattle.mailbox_layout.specs.declared.InValues.{InValues}
use Rattle.mailbox_layout.specs.declared.InValues.TheVariants as values
use Rattle.mailbox_layout.specs.declared.InTimes.{InTimes}
use Rattle.mailbox_layout.specs.declared.InTimes.TheVariants as times
use Rattle.mailbox_layout.specs.Layout.{phase_region, newest_region, previous_region, seen_region, pointer_region, mark_region, writer_region, reader_region, kind_region, default_region, start_value_region, cell_region, deadline_region, since_region, last_region, policy_region}

-- of the control
abbrev pub control_region : InControl → ℕ
control_region control.Phase = phase_region
control_region control.Newest = newest_region
control_region control.Previous = previous_region
control_region control.Seen = seen_region
control_region control.Pointer = pointer_region
control_region control.Mark = mark_region
control_region control.Writer = writer_region
control_region control.Reader = reader_region
control_region control.Kind = kind_region

-- of the values
abbrev pub value_region : InValues → ℕ
value_region values.Default = default_region
value_region values.StartValue = start_value_region
value_region values.Cell = cell_region

-- and of the times
abbrev pub time_region : InTimes → ℕ
time_region times.Deadline = deadline_region
time_region times.Since = since_region
time_region times.Last = last_region
time_region times.Policy = policy_region
