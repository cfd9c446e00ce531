-- An accepted event given to any sound state is a step of the published protocol.
-- Assumes nothing.
use mathlib.Core.Path.{◌≡◌, refl, sym, ap, subst, ◌∙◌}
use mathlib.Core.Logic.{◌≢◌}
use mathlib.Core.Bool.{Bool}
use Prim.Native.Nat.{ℕ}
use native.Mathlib.Decide.{ℕ_discrete}
use Rattle.protocol.specs.Event.{Event, arrival, start, read, finish}
use Rattle.protocol.specs.Published.{Lowest, number}
use Rattle.protocol.specs.Published as published
use Rattle.protocol_deadlines.specs.Answering.{ReadsNothing}
use Rattle.protocol_state.specs.Saved.{Saved, state_room, ahead_in, table, boxes}
use Rattle.protocol_state.specs.Judge.{judged_on}
use Rattle.protocol_state.specs.Next.{next_at, value_of}
use Rattle.protocol_state.specs.Give.{Reply, Call, call_policy, call_tick, call_event}
use Rattle.protocol_state.specs.Sound.{Sound, StandsSound}
use Rattle.protocol_state.proofs.Give.{judged_parts, refused_same}
use Rattle.protocol_state.proofs.Keeps.{FitsTick, table_same, order_same, next_sound}
use Rattle.protocol_state.proofs.Steps.{step, number_read_lem}
use Rattle.mailbox.specs.States.{saved}
use Rattle.mailbox.proofs.Packed.{whole_shape}
use Rattle.mailbox.specs.declared.State.{State}
use Rattle.mailbox.specs.declared.Step.{Step}
use Rattle.demands.specs.States.{IsSound, IsWhole, table_in, boxes_in}
use Rattle.demands.specs.Calls.{Gives}
use Rattle.demands.proofs.Calls.{call_done}

module _ (q : State) (c : Call) (r : Step) (call : Gives q c r) (S : IsWhole q) (G : IsSound q) (z : r.answer.refusal ≡ 0) where
  abbrev after : Saved
  after = next_at (ahead_in (saved q)) (saved q) (call_tick c) (call_event c)

  -- none of 12 to 16, and under deadlines neither 21 nor 22
  allowed : (judged_on (ahead_in (saved q)) (saved q) (call_event c) ≡ 0) × ((saved q).policy ≢ 0 → FitsTick (saved q) (call_tick c))
  allowed = judged_parts (ahead_in (saved q)) (saved q) (call_tick c) (call_event c) (call_done q c r call z).1

  done : saved r.state ≡ after
  done = (call_done q c r call z).2

  stays_sound : StandsSound state_room after
  stays_sound =
      subst (λ (ahead : ℕ → ℕ → Bool). Sound ahead state_room after) (sym (order_same (ahead_in (saved q)) (saved q) (call_tick c) (call_event c)))
      (next_sound (whole_shape q S) G (call_tick c) allowed.1 (call_event c) allowed.0)

  pub any_state : published.Step (table_in q) (Lowest (table_in q)) (call_event c) (boxes_in q) (boxes_in r.state) × (table_in r.state ≡ table_in q) × (IsWhole r.state × IsSound r.state)
  any_state = (
    subst (λ (x : Saved). published.Step (table_in q) (Lowest (table_in q)) (call_event c) (boxes_in q) (boxes x)) (sym done) (step (saved q) (whole_shape q S) G (call_tick c) (call_event c) allowed.0),
    ap (λ (x : Saved). table (ahead_in x) x) done
        ∙ ap (λ (ahead : ℕ → ℕ → Bool). table ahead after) (order_same (ahead_in (saved q)) (saved q) (call_tick c) (call_event c))
        ∙ table_same (ahead_in (saved q)) (saved q) (call_tick c) (call_event c),
    (call.whole, subst (λ (x : Saved). StandsSound state_room x) (sym done) stays_sound),
  )

pub any_number : (q : State) (c : Call) (l : ℕ) (r : Step) → call_event c ≡ read l → Gives q c r → IsWhole q → IsSound q → r.answer.refusal ≡ 0
    → r.answer.value ≡ number (table_in q) (boxes_in q) l
any_number q c l r e call S G z =
    (call_done q c r call z).3 ∙ ap (value_of (saved q)) e
    ∙ number_read_lem (saved q) (whole_shape q S) G l (ap (judged_on (ahead_in (saved q)) (saved q)) (sym e) ∙ (allowed q c r call S G z).0)

-- only a read gives a value
no_number : (q : Saved) (e : Event ℕ) → ReadsNothing e → value_of q e ≡ 0
unfolding ReadsNothing
no_number q (arrival m) n = refl
no_number q (start t) n = refl
no_number q (read l) n = absurd n
no_number q (finish t v) n = refl

pub silent : (q : State) (c : Call) (r : Step) → Gives q c r → ReadsNothing (call_event c) → r.answer.value ≡ 0
silent q c r call n = go (ℕ_discrete r.answer.refusal 0)
  where
    go : Dec (r.answer.refusal ≡ 0) → r.answer.value ≡ 0
    go (yes z) = (call_done q c r call z).3 ∙ no_number (saved q) (call_event c) n
    go (no y) =
        ap (λ (x : Reply). x.value) call.answer
        ∙ (refused_same (ahead_in (saved q)) state_room (call_policy c) (saved q) (call_tick c) (call_event c) (λ z. y (ap (λ (x : Reply). x.refusal) call.answer ∙ z))).1
