-- An event as a host hands it over, in three numbers, without a tick or at one, and the answer to it.
-- Assumes nothing.
use Rattle.std.specs.Prelude.{Bool, cond, ℕ, eqb}
use Rattle.protocol.specs.Event.{Event, arrival, start, read, finish}
use Rattle.protocol_state.specs.Saved.{Saved, state_room, ahead_in}
use Rattle.protocol_state.specs.Give.{Reply, settled, Call, plainly, ticked, sound_for, given_to}
use Rattle.mailbox_event.specs.Plain.{policy_for}
use Rattle.mailbox_event.specs.declared.When.{When}
use Rattle.mailbox_event.specs.declared.When.TheVariants.{Untimed, At}

-- the event that is asked for, or that its kind is unknown
pub data Request : Type 0 where
  known : Event ℕ → Request
  unknown : Request

-- 1 arrival of a set, 2 start of a task, 3 read by a link, 4 finish of a task with a value
unfoldable pub requested : ℕ → ℕ → ℕ → Request
requested kind which value =
    cond (eqb kind 1) (known (arrival which))
    (cond (eqb kind 2) (known (start which)) (cond (eqb kind 3) (known (read which)) (cond (eqb kind 4) (known (finish which value)) unknown)))

-- the call that hands an event over
abbrev pub handed_over : When → Event ℕ → Call
handed_over Untimed e = plainly e
handed_over (At x) e = ticked x e

-- 19 goes before all else: the state is not sound, or of the other policy
abbrev pub sound_when : When → Saved → Bool
sound_when w q = sound_for (ahead_in q) state_room (policy_for w) q

-- a known event is given to the state; an unknown kind is 11, after 19, with the state as lent and the value 0
abbrev pub request_reply : When → Saved → Request → Reply
request_reply w q (known e) = given_to state_room q (handed_over w e)
request_reply w q unknown = settled (sound_when w q) 11 q q 0
