-- `settings_printout::print_migration` is safe and ends: what a migration answers may be printed.
-- Assumes nothing.
use Rattle.settings_demands.proofs.Promises.{few_and_good}
use Rattle.settings_printout.proofs.print_migration.Goals as goal

pub print_settings-requires : goal.print_settings-requires
print_settings-requires c =
    let m = c.migrate-m in few_and_good (record { answer = m.ensures.answer; bytes = m.ensures.bytes })
