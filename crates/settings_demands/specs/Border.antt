-- The contracts in the source: what a call asks, and what its caller learns, which is what the sentences take of a call.
-- Assumes nothing.
use contract.Lifetimes.{Lfts}
use denote.Triple.Clauses.{AtExit}
use borrow.Fn.Kinds.{Dens, res_t, ended_of}
use Rattle.std.specs.Prelude.{◌↔◌}
use Rattle.settings.proofs.migrate.Kinds as of_migrate
use Rattle.settings.proofs.migrate.Reads as on_migrate
use Rattle.settings.proofs.write_back.Kinds as of_write
use Rattle.settings.proofs.write_back.Reads as on_write
use Rattle.settings_demands.specs.Ensured.{Migrates, WritesBack}

-- no call asks anything of what is lent to it, so it can be made with whatever there is; and a proved function that is called as it asks returns
pub record MigratorAsks : Type 0 where
  pub migrate : (κs : Lfts 1) (lent : Dens κs of_migrate.ps) → on_migrate.Asked κs lent
  pub write_back : (κs : Lfts 1) (lent : Dens κs of_write.ps) → on_write.Asked κs lent

-- `lent` are the arguments of a call, `left` is what they hold after it; a caller learns this and no more
pub record MigratorTells : Type 0 where
  pub migrate : (κs : Lfts 1) (lent : Dens κs of_migrate.ps) (m : (res_t of_migrate.r κs).Denot) (left : AtExit (ended_of 1 of_migrate.ps of_migrate.r) κs) →
      on_migrate.Learnt κs lent m left ↔ Migrates lent.0.now m
  pub write_back : (κs : Lfts 1) (lent : Dens κs of_write.ps) (w : (res_t of_write.r κs).Denot) (left : AtExit (ended_of 1 of_write.ps of_write.r) κs) →
      on_write.Learnt κs lent w left ↔ WritesBack lent.0 lent.1.0 lent.1.1.0.now w left.1.1.0.now
