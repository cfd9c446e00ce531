-- The readings of a host's calls, as the replies to them.
-- Assumes nothing.
use Rattle.std.specs.Prelude.{Result, Ok, Err, ℕ}
use Rattle.refusals.specs.declared.Refusal.{Refusal}
use Rattle.refusals.specs.Numbers.{number, told}
use Rattle.protocol_state.specs.Saved.{Saved, state_room}
use Rattle.protocol_state.specs.Give.{Reply, settled, given_to}
use Rattle.mailbox_event.specs.Plain.{call_of}
use Rattle.mailbox_event.specs.declared.Event.{Event}
use Rattle.mailbox_event.specs.declared.When.{When}
use Rattle.mailbox_call.specs.Calls.{sound_when}

-- the document's number for each reading of a call: 0 an event, else that of its refusal, as 12 for a number that no table has and 11 for an unknown kind
abbrev pub asked_number : Result Event Refusal → ℕ
asked_number a = told a

-- what the code's reading of a call answers: the reply to its event, or its refusal, after 19
abbrev pub heard : When → Saved → Result Event Refusal → Reply
heard w q (Ok e) = given_to state_room q (call_of w e)
heard w q (Err r) = settled (sound_when w q) (number r) q q 0
