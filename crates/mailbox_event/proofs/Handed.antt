-- When an event is handed over says the policy and the tick of the call.
-- Assumes nothing.
use mathlib.Core.Path.{◌≡◌, refl}
use Prim.Native.Nat.{ℕ}
use Rattle.protocol_state.specs.Give.{call_policy, call_tick, call_event}
use Rattle.mailbox_event.specs.Plain.{plain, call_of, policy_for}
use Rattle.mailbox_event.specs.declared.Event.{Event}
use Rattle.mailbox_event.specs.declared.When.{When}
use Rattle.mailbox_event.specs.declared.When.TheVariants.{Untimed, At}

pub policy_called : (w : When) (e : Event) → call_policy (call_of w e) ≡ policy_for w
policy_called Untimed e = refl
policy_called (At x) e = refl

-- the tick of the call: without one it is 0
abbrev pub tick_for : When → ℕ
tick_for Untimed = 0
tick_for (At x) = x

pub tick_called : (w : When) (e : Event) → call_tick (call_of w e) ≡ tick_for w
tick_called Untimed e = refl
tick_called (At x) e = refl

pub event_called : (w : When) (e : Event) → call_event (call_of w e) ≡ plain e
event_called Untimed e = refl
event_called (At x) e = refl
