-- The calls of the demands are the code's: what a caller learns from a method's contract in the source is what they take of a call, and beside soundness no more. The
-- contracts speak of soundness by its test, the demands by its sentence.
-- Assumes nothing.
use mathlib.Core.Path.{◌≡◌}
use mathlib.Core.Logic.{◌↔◌}
use mathlib.Core.Bool.{true}
use Rattle.protocol_state.specs.Saved.{state_room, ahead_in}
use Rattle.protocol_state.specs.Give.{Call}
use Rattle.protocol_state.proofs.Sound.{sound_says, says_sound}
use Rattle.mailbox.specs.States.{saved, passing, StaysSound}
use Rattle.mailbox.specs.declared.State.{State}
use Rattle.mailbox.specs.declared.Step.{Step}
use Rattle.mailbox.specs.declared.Made.{Made}
use Rattle.demands.specs.States.{IsSound}
use Rattle.demands.specs.Calls.{Gives}

-- the sentence of soundness and its test
passes : (q : State) → IsSound q → passing q ≡ true
passes q S = says_sound (ahead_in (saved q)) state_room (saved q) S

says : (q : State) → passing q ≡ true → IsSound q
says q e = sound_says (ahead_in (saved q)) state_room (saved q) e

-- of what a table makes, whatever is said of it besides
pub table_told : {Said : Type 0} (m : Made) → (Said × (passing m.state ≡ true)) ↔ (Said × IsSound m.state)
table_told m = (λ learnt. (learnt.0, says m.state learnt.1), λ said. (said.0, passes m.state said.1))

-- of what a call is answered: it is the reply to it, and a sound state stays sound
pub call_told : (q : State) (c : Call) (r : Step) → (Gives q c r × StaysSound q r) ↔ (Gives q c r × (IsSound q → IsSound r.state))
call_told q c r = (
  λ learnt. (learnt.0, λ S. says r.state (learnt.1 (passes q S))),
  λ said. (said.0, λ e. passes r.state (said.1 (says q e))),
)
