-- One event given to a state, and calls one after the other.
-- Assumes nothing.
use Rattle.std.specs.Prelude.{◌≡◌, Bool, cond, ◌&&◌, List, [], ◌∷◌, ℕ, eqb}
use Rattle.protocol.specs.Event.{Event, arrival, start, read, finish}
use Rattle.protocol_deadlines.specs.Timed.{Timed, timed}
use Rattle.protocol_state.specs.Saved.{Size, Saved, ahead_in}
use Rattle.protocol_state.specs.Judge.{judged_on_at}
use Rattle.protocol_state.specs.Next.{next_at, value_of}
use Rattle.protocol_state.specs.Sound.{is_sound}

-- the answer to an event: the state handed back, the refusal (0: accepted), the value
pub record Reply : Type 0 where
  pub state : Saved
  pub refusal : ℕ
  pub value : ℕ

-- its three parts
abbrev pub reply : Saved → ℕ → ℕ → Reply
reply q r v = record { state = q; refusal = r; value = v }

-- 19 where the state is not sound, else the refusal r where there is one, both with the state as lent and the value 0; else q' and v
unfoldable pub settled : Bool → ℕ → Saved → Saved → ℕ → Reply
settled sound r q q' v = cond sound (cond (eqb r 0) (reply q' 0 v) (reply q r 0)) (reply q 19 0)

-- a read's number goes to the list
abbrev pub note : Event ℕ → ℕ → List ℕ → List ℕ
note (arrival m) v out = out
note (start t) v out = out
note (read l) v out = v ∷ out
note (finish t x) v out = out

-- how an event is handed over: without a tick, for a state under fixed priorities, or at one, for a state with deadlines
pub data Call : Type 0 where
  plainly : Event ℕ → Call
  ticked : ℕ → Event ℕ → Call

-- the policy of the states that it is for
abbrev pub call_policy : Call → ℕ
call_policy (plainly e) = 0
call_policy (ticked x e) = 1

-- its tick: under fixed priorities every tick is 0, and none is made up
abbrev pub call_tick : Call → ℕ
call_tick (plainly e) = 0
call_tick (ticked x e) = x

abbrev pub call_event : Call → Event ℕ
call_event (plainly e) = e
call_event (ticked x e) = e

-- what stands after some calls: the state, the accepted events and the numbers that their reads gave, both the last one first
pub record Progress : Type 0 where
  pub state : Saved
  pub history : List (Timed ℕ)
  pub numbers : List ℕ

-- before any event
abbrev pub begin : Saved → Progress
begin q = record { state = q; history = []; numbers = [] }

module _ (ahead : ℕ → ℕ → Bool) (size : Size) where
  -- the state is sound, and one of the policy p
  abbrev pub sound_for : ℕ → Saved → Bool
  sound_for p q = is_sound ahead size q && eqb q.policy p

  -- an event at tick x, handed over for the policy p: 19 first, for a state of the other policy too; then 12 to 16 and 21 to 23
  abbrev pub give : ℕ → Saved → ℕ → Event ℕ → Reply
  give p q x e = settled (sound_for p q) (judged_on_at ahead q x e) q (next_at ahead q x e) (value_of q e)

  -- a call on a state
  abbrev pub called : Saved → Call → Reply
  called q c = give (call_policy c) q (call_tick c) (call_event c)

  -- one call more: where it is refused, all stays
  unfoldable pub after_call : Progress → Call → Progress
  after_call o c =
      cond (eqb (called o.state c).refusal 0)
      (record {
        state = (called o.state c).state;
        history = timed (call_tick c) (call_event c) ∷ o.history;
        numbers = note (call_event c) (called o.state c).value o.numbers;
      })
      o

  -- calls one after the other
  unfoldable pub replay : Progress → List Call → Progress
  replay o [] = o
  replay o (c ∷ cs) = replay (after_call o c) cs

  -- those of the calls that are accepted, in their order
  unfoldable pub accepted : Progress → List Call → List Call
  accepted o [] = []
  accepted o (c ∷ cs) = cond (eqb (called o.state c).refusal 0) (c ∷ accepted (after_call o c) cs) (accepted o cs)

  -- each of the calls is accepted in its turn
  unfoldable pub AllAccepted : Progress → List Call → Type 0
  AllAccepted o [] = Unit {0}
  AllAccepted o (c ∷ cs) = ((called o.state c).refusal ≡ 0) × AllAccepted (after_call o c) cs

-- a call on a state, by the order of the state's own tasks
abbrev pub given_to : Size → Saved → Call → Reply
given_to size q c = called (ahead_in q) size q c
