-- The contracts in the source: no call asks anything, and `Migrates` and `WritesBack` are what a caller learns.
-- Assumes nothing.
use Rattle.settings_demands.specs.Border.{MigratorAsks, MigratorTells}

pub asks_nothing : MigratorAsks
asks_nothing = record { migrate = λ κs lent. tt; write_back = λ κs lent. tt }

pub tells : MigratorTells
tells = record {
  migrate = λ κs lent m left. (λ learnt. record { answer = learnt.0; bytes = learnt.1 }, λ said. (said.answer, said.bytes));
  write_back = λ κs lent w left. (
    λ learnt. record { answer = learnt.0; buffer = learnt.1.0; held = learnt.1.1 },
    λ said. (said.answer, (said.buffer, said.held)),
  );
}
