-- What is asked of a lent state, way by way: unsound or of the other policy, no event, refused, done.
-- Assumes nothing.
use mathlib.Core.Path.{◌≡◌, sym, ap, ◌∙◌}
use mathlib.Core.Logic.{◌≢◌}
use mathlib.Core.Bool.{Bool, true, false, not, ◌&&◌}
use mathlib.Core.List.{List}
use Prim.Native.Nat.{ℕ, ◌≤◌}
use borrow.Author.Tests.{not-true, eqb-true}
use lib.Dec.{eqb}
use Rattle.lists.proofs.Bools.{and_left, and_right, passed}
use Rattle.std.specs.Prelude.{Result, Ok, Err}
use Rattle.refusals.specs.declared.Refusal.{Refusal}
use Rattle.refusals.specs.Numbers.{number}
use Rattle.refusals.proofs.Numbers.{number_not_0}
use Rattle.protocol_state.specs.Saved.{Saved, state_room, ahead_in}
use Rattle.protocol_state.specs.Judge.{judged_on_at}
use Rattle.protocol_state.specs.Next.{next_at, value_of}
use Rattle.protocol_state.specs.Sound.{is_sound}
use Rattle.protocol_state.specs.Give.{reply, call_policy, call_tick, call_event, sound_for, given_to}
use Rattle.protocol_state.proofs.Give.{unsound, refused, give_unsound, give_refused, give_done}
use Rattle.protocol_state.proofs.Sound.{sound_room}
use Rattle.mailbox_layout.specs.Layout.{ahead_among, policy_in, state_of, view_of}
use Rattle.mailbox_layout.proofs.Room.{view_within}
use Rattle.mailbox_event.specs.Plain.{plain, call_of, policy_for}
use Rattle.mailbox_event.specs.declared.Event.{Event}
use Rattle.mailbox_event.specs.declared.When.{When}
use Rattle.mailbox_event.proofs.Handed.{policy_called, tick_for, tick_called, event_called}
use Rattle.mailbox_call.specs.Calls.{sound_when}
use Rattle.mailbox_call.specs.Replies.{heard}

module _ (w : When) (q : Saved) where
  -- the call that hands an event over is for the states of its policy
  called_for : (e : Event) → sound_for (ahead_in q) state_room (call_policy (call_of w e)) q ≡ sound_when w q
  called_for e = rw (policy_called w e)

  -- a state that does not take what is asked answers 19, whatever is asked
  by_19 : (a : Result Event Refusal) → sound_when w q ≡ false → heard w q a ≡ reply q 19 0
  by_19 (Ok e) s = give_unsound _ state_room _ q (call_tick (call_of w e)) (call_event (call_of w e)) (called_for e ∙ s)
  by_19 (Err r) s = unsound (number r) q q 0 s

  -- and another answers what is no event by its number
  by_number : (r : Refusal) → sound_when w q ≡ true → heard w q (Err r) ≡ reply q (number r) 0
  by_number r s = refused (number r) q q 0 s (number_not_0 r)

-- a is asked of the state that T tasks, L links and these arrays are
module _ (T L : ℕ) (c v x : List ℕ) (w : When) (a : Result Event Refusal) where
  abbrev state : Saved
  state = state_of T L c v x

  -- the two tests of a state that has the policy p are the one
  module _ {b : Bool} {p : ℕ} (test : b ≡ is_sound (ahead_among x) state_room state) (policy : p ≡ policy_in x) where
    tested : (b && eqb p (policy_for w)) ≡ sound_when w state
    tested = rw (test, policy)

    pub heard_unsound : not (b && eqb p (policy_for w)) ≡ true → reply state 19 0 ≡ heard w state a
    heard_unsound h = sym (by_19 w state a (sym tested ∙ not-true (b && eqb p (policy_for w)) h))

    module _ (h : not (b && eqb p (policy_for w)) ≡ false) where
      sound : sound_when w state ≡ true
      sound = passed tested h

      own : policy_in x ≡ policy_for w
      own = eqb-true (policy_in x) (policy_for w) (and_right (is_sound (ahead_among x) state_room state) _ sound)

      pub heard_none : {r : Refusal} → a ≡ Err r → reply state (number r) 0 ≡ heard w state a
      heard_none {r} is = sym (ap (heard w state) is ∙ by_number w state r sound)

      -- an event, which a state of its policy judges r at its tick
      module _ {e : Event} {r : ℕ} (known : a ≡ Ok e)
          (judged : policy_in x ≡ policy_for w → r ≡ judged_on_at (ahead_among x) (view_of T L c v x) (tick_for w) (plain e)) where
        sound_called : sound_for (ahead_among x) state_room (call_policy (call_of w e)) state ≡ true
        sound_called = called_for w state e ∙ sound

        room : (T ≤ state_room.tasks) × (L ≤ state_room.links)
        room = sound_room (ahead_among x) state_room state (and_left (is_sound (ahead_among x) state_room state) _ sound)

        here : view_of T L c v x ≡ state
        here = view_within T L c v x room.0 room.1

        given : heard w state a ≡ given_to state_room state (call_of w e)
        given = ap (heard w state) known

        -- the tick and the event are the call's
        judged_called : r ≡ judged_on_at (ahead_among x) state (call_tick (call_of w e)) (call_event (call_of w e))
        judged_called = judged own ∙ ap (λ (q : Saved). judged_on_at (ahead_among x) q (tick_for w) (plain e)) here ∙ rw (tick_called w e, event_called w e)

        pub heard_refused : r ≢ 0 → reply state r 0 ≡ heard w state a
        heard_refused z = rw (given, judged_called) (sym (give_refused (ahead_among x) state_room _ state _ _ sound_called (λ i. z (judged_called ∙ i))))

        pub heard_done :
            (c' v' x' : List ℕ) {n : ℕ} → r ≡ 0 → n ≡ value_of (view_of T L c v x) (plain e)
            → (policy_in x ≡ policy_for w → view_of T L c' v' x' ≡ next_at (ahead_among x) (view_of T L c v x) (tick_for w) (plain e))
            → reply (state_of T L c' v' x') 0 n ≡ heard w state a
        heard_done c' v' x' {n} z value done =
            let n_is : n ≡ value_of state (call_event (call_of w e)) = value ∙ ap (λ (q : Saved). value_of q (plain e)) here ∙ rw (event_called w e) in
            let after : state_of T L c' v' x' ≡ next_at (ahead_among x) state (call_tick (call_of w e)) (call_event (call_of w e)) =
            sym (view_within T L c' v' x' room.0 room.1) ∙ done own ∙ ap (λ (q : Saved). next_at (ahead_among x) q (tick_for w) (plain e)) here
            ∙ rw (tick_called w e, event_called w e) in
            rw (after, n_is, given) (sym (give_done (ahead_among x) state_room _ state _ _ sound_called (sym judged_called ∙ z)))
