-- The clauses of the functions over a walker are those in the source.
-- Assumes nothing.
use mathlib.Core.Path.{refl}
use seplogic.Ra.Ura.{Ura}
use base.Logic.{SProp}
use prog.Memory.{Memory}
use prog.Routine.{Routine}
use types.Logic.{Logic}
use contract.Monad.{Fun}
use Rattle.one_answer.specs.Walker.{WalkerTells}

pub walker_tells : {M : Type 1} {𝓤 : Ura M} (𝓛 : Logic 𝓤) (mem : Memory → SProp 𝓤) (run : Routine → Fun 𝓤) → WalkerTells 𝓛 mem run
walker_tells 𝓛 mem run = record { new = λ κs lent w left. refl; moved = λ κs lent w left. refl; next = λ κs lent n left. refl; rest = λ κs lent part left. refl }
