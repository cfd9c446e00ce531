-- Whatever refuses rightly and follows the published protocol gives each answer that the calls gave: what these two exclude (protocol_deadlines/proofs/Bites) is no answer
-- of the calls.
-- Assumes nothing.
use mathlib.Core.Path.{◌≡◌, sym, ap, subst, ◌∙◌}
use mathlib.Core.Bool.{Bool}
use mathlib.Core.List.{List, []}
use Prim.Native.Nat.{ℕ}
use Rattle.protocol.specs.Event.{Event}
use Rattle.protocol.specs.Table.{Table}
use Rattle.protocol.specs.History.{past}
use Rattle.protocol_deadlines.specs.Timed.{Timed}
use Rattle.protocol_deadlines.specs.Answering.{Answerer, RefusesRightly, FollowsProtocol}
use Rattle.protocol_state.specs.Saved.{state_room, ahead_in, table}
use Rattle.protocol_state.specs.Give.{Reply, Call, call_policy, call_tick, call_event, called}
use Rattle.protocol_state.proofs.Give.{call_tick_lem}
use Rattle.protocol_state.specs.Alike.{Alike}
use Rattle.protocol_state.proofs.Demanded as state
use Rattle.recording_core.proofs.Right.{own_order}
use Rattle.mailbox.specs.States.{saved, reply_of}
use Rattle.mailbox.specs.declared.State.{State}
use Rattle.mailbox.specs.declared.Step.{Step}
use Rattle.demands.specs.States.{policy_in}
use Rattle.demands.specs.Calls.{Gives, Calls}
use Rattle.demands.proofs.Calls.{comes, come_ahead}

-- the answer r is the one that B gives: the same refusal, value, positions, pointers and mailboxes
abbrev pub AnsweredBy : Answerer ℕ → Table ℕ → List (Timed ℕ) → ℕ → Event ℕ → Step → Type 0
AnsweredBy B T H x e r = Alike (reply_of r) (B.reply T H x e)

-- to a call for the policy of the state; one for the other policy is answered with 19, and no answerer knows of that
pub as_answerer : {T : Table ℕ} {es : List (Timed ℕ)} {ns : List ℕ} {q : State} → Calls T es ns q → (B : Answerer ℕ) → RefusesRightly B 0 → FollowsProtocol B
    → (k : Call) (r : Step) → Gives q k r → policy_in q ≡ call_policy k → AnsweredBy B T (past [] es) (call_tick k) (call_event k) r
as_answerer {es = es} {q = q} c B D1 D2 k r call own =
    let C = comes c in
    subst (λ (t : Table ℕ). AnsweredBy B t (past [] es) (call_tick k) (call_event k) r) C.same
    (subst (λ (x : Reply). Alike x (B.reply (table (ahead_in C.begin) C.begin) (past [] es) (call_tick k) (call_event k)))
    (sym (call.answer ∙ ap (λ (ahead : ℕ → ℕ → Bool). called ahead state_room (saved q) k) (come_ahead C.reached)))
    (state.as_demanded (own_order C.begin) C.reached B D1 D2 (call_policy k) (sym C.reached.policy ∙ own) (call_tick k) (λ z. call_tick_lem k (sym own ∙ C.reached.policy ∙ z)) (call_event k)))
