-- The code's events as the protocol's.
-- Assumes nothing.
use Rattle.std.specs.Prelude.{cond, ℕ, eqb, Result, Ok, Err}
use Rattle.protocol.specs.Event as protocol
use Rattle.protocol.specs.Event.{arrival, start, read, finish}
use Rattle.protocol_state.specs.Give.{Call, plainly, ticked}
use Rattle.mailbox_event.specs.declared.Event.{Event}
use Rattle.mailbox_event.specs.declared.Event.TheVariants.{Arrival, Start, Read, Finish}
use Rattle.mailbox_event.specs.declared.Kind.{Kind}
use Rattle.mailbox_event.specs.declared.Kind.TheVariants as kind
use Rattle.refusals.specs.declared.Refusal.{Refusal}
use Rattle.refusals.specs.declared.Refusal.TheVariants.{UnknownKind}
use Rattle.mailbox_event.specs.declared.When.{When}
use Rattle.mailbox_event.specs.declared.When.TheVariants.{Untimed, At}

-- the row of the decision table that a kind of event has
abbrev pub row : Kind → ℕ
row kind.Arrival = 0
row kind.Start = 1
row kind.Read = 2
row kind.Finish = 3

-- the kind that a number says; another number says none
abbrev pub kind_said : ℕ → Result Kind Refusal
kind_said b =
    cond (eqb b 1) (Ok kind.Arrival)
    (cond (eqb b 2) (Ok kind.Start)
    (cond (eqb b 3) (Ok kind.Read)
    (cond (eqb b 4) (Ok kind.Finish) (Err UnknownKind))))

-- kind by kind
abbrev pub plain : Event → protocol.Event ℕ
plain (Arrival s) = arrival s
plain (Start t) = start t
plain (Read l) = read l
plain (Finish t v) = finish t v

-- handed over without a tick, or at one
abbrev pub call_of : When → Event → Call
call_of Untimed e = plainly (plain e)
call_of (At x) e = ticked x (plain e)

-- the policy of the states that it is for (`policy_called`)
abbrev pub policy_for : When → ℕ
policy_for Untimed = 0
policy_for (At x) = 1
