-- Request 2026-07: earliest deadline first, and what it leaves of fixed priorities.
-- Assumes nothing.
use mathlib.Core.Path.{◌≡◌, refl, sym, ap, ◌∙◌}
use mathlib.Core.Logic.{◌↔◌}
use mathlib.Core.Bool.{Bool, true, false, true≢false}
use mathlib.Core.List.{List, [], ◌∷◌, ◌++◌}
use Prim.Native.Nat.{ℕ, ◌+◌, ◌≤◌, ◌<◌}
use native.Mathlib.Decide.{dec_le}
use native.Mathlib.Omega.{arith}
use lib.Dec.{ltb}
use Rattle.protocol.specs.Event.{Event}
use Rattle.protocol.specs.Table.{Table}
use Rattle.protocol.specs.History.{active}
use Rattle.protocol.specs.Schedule.{urgent, Possible}
use Rattle.protocol.proofs.Schedule.{judged_possible, possible_judged}
use Rattle.protocol_deadlines.specs.Deadline.{smaller, ahead_by, ByDeadline, Fixed}
use Rattle.protocol_deadlines.specs.Timed.{Timed, timed, untimed, still, ticks, since, earliest_at, PossibleAt}
use Rattle.protocol_deadlines.proofs.Orders.{smaller_lt, smaller_tie}
use Rattle.protocol_deadlines.proofs.Turn.{earliest_first}
use Rattle.protocol_deadlines.proofs.One.{one_at_most, one_at_least}
use Rattle.protocol_deadlines.proofs.Timed.{timed_exactly, judged_possible_at, possible_judged_at}
use Rattle.protocol_deadlines.proofs.Fixed.{fixed_possible, fixed_judged}
use Rattle.protocol_state.specs.Saved.{Saved, ahead_in}
use Rattle.protocol_state.specs.Fresh.{fresh_of}
use Rattle.protocol_state.specs.Give.{call_tick, call_event}
use Rattle.protocol_state.proofs.Keeps.{policy_same}
use Rattle.protocol_state.proofs.Give.{call_tick_lem}
use Rattle.mailbox.specs.States.{saved}
use Rattle.mailbox.specs.declared.State.{State}
use Rattle.demands.specs.States.{policy_in}
use Rattle.demands.specs.Calls.{Calls, fresh, accepted, refused}
use Rattle.demands.specs.Deadlines.{Deadlines}
use Rattle.demands.proofs.Tables.{handed_policed}
use Rattle.demands.proofs.Orders.{untimed_snoc}
use Rattle.demands.proofs.Calls.{made_is, call_done, same_state}
use Rattle.demands.proofs.Runs.{calls_ordered}

-- ---- the order of tasks, and who may run
in_words : (T : Table ℕ) → ByDeadline T → (u t : ℕ) → T.ahead u t ≡ smaller (T.deadline u) (T.deadline t) (ltb u t)
unfolding ahead_by
in_words T B u t = B u t

-- a job that may run is due no later than any active one: one that is due earlier would go before it
due_first : (T : Table ℕ) (H : List (Timed ℕ)) (t u : ℕ) → earliest_at T H (untimed H) t ≡ true → u < T.tasks → active (untimed H) u ≡ true
    → since H t + T.deadline t ≤ since H u + T.deadline u
due_first T H t u may l on = go (dec_le (since H t + T.deadline t) (since H u + T.deadline u))
  where
    go : Dec (since H t + T.deadline t ≤ since H u + T.deadline u) → since H t + T.deadline t ≤ since H u + T.deadline u
    go (yes x) = x
    go (no x) =
        let before = smaller_lt (since H u + T.deadline u) (since H t + T.deadline t) (T.ahead u t) (omega (arith, x)) in
        absurd (true≢false (sym on ∙ earliest_first T (ticks H) (untimed H) t u may l before))

-- nor is one that is due at the same tick of a task ahead
tie_behind : (T : Table ℕ) (H : List (Timed ℕ)) (t u : ℕ) → earliest_at T H (untimed H) t ≡ true → u < T.tasks → active (untimed H) u ≡ true
    → since H u + T.deadline u ≡ since H t + T.deadline t → T.ahead u t ≡ false
tie_behind T H t u may l on e = go (T.ahead u t) refl
  where
    go : (b : Bool) → T.ahead u t ≡ b → b ≡ false
    go false i = refl
    go true i =
        let before = smaller_tie (since H u + T.deadline u) (since H t + T.deadline t) (T.ahead u t) e ∙ i in
        absurd (true≢false (sym on ∙ earliest_first T (ticks H) (untimed H) t u may l before))

-- ---- fixed priorities
-- one event more at tick 0
still_snoc : (h : List (Event ℕ)) (e : Event ℕ) → still (h ++ (e ∷ [])) ≡ still h ++ (timed 0 e ∷ [])
unfolding still
still_snoc [] e = refl
still_snoc (x ∷ h) e = ap (λ (H : List (Timed ℕ)). timed 0 x ∷ H) (still_snoc h e)

still_more : (es : List (Timed ℕ)) (x : ℕ) (e : Event ℕ) → x ≡ 0 → es ≡ still (untimed es) → es ++ (timed x e ∷ []) ≡ still (untimed (es ++ (timed x e ∷ [])))
still_more es x e z i =
    ap (λ (H : List (Timed ℕ)). H ++ (timed x e ∷ [])) i ∙ ap (λ (k : ℕ). still (untimed es) ++ (timed k e ∷ [])) z
    ∙ sym (still_snoc (untimed es) e) ∙ ap still (sym (untimed_snoc es x e))

-- no task has a deadline, and every event comes at tick 0
fixed_calls : {T : Table ℕ} {es : List (Timed ℕ)} {ns : List ℕ} {q : State} → Calls T es ns q → policy_in q ≡ 0 → Fixed T × (es ≡ still (untimed es))
unfolding fresh_of still untimed
fixed_calls (fresh {p} {X} over n l D W R K B m said ok) z =
    let i : p ≡ (saved m.state).policy = ap (λ (x : Saved). x.policy) (sym (made_is p n l D X W R K B m said ok).1) in
    ((handed_policed over n D).fixed (i ∙ z), refl)
fixed_calls (accepted {es = es} {q = q} d c r call a) z =
    let w = call_done q c r call a in
    let same : policy_in r.state ≡ policy_in q = ap (λ (x : Saved). x.policy) w.2 ∙ policy_same (ahead_in (saved q)) (saved q) (call_tick c) (call_event c) in
    let before = fixed_calls d (sym same ∙ z) in
    (before.0, still_more es (call_tick c) (call_event c) (call_tick_lem c (sym w.0 ∙ sym same ∙ z)) before.1)
fixed_calls (refused d c r call n) z = fixed_calls d (ap policy_in (sym (same_state _ c r call n)) ∙ z)

-- what could happen next is what could under fixed priorities
plain_next : (T : Table ℕ) → Fixed T → (h : List (Event ℕ)) (e : Event ℕ) → PossibleAt T (still h) 0 e ↔ Possible T (urgent T) h e
plain_next T F h e = (
  λ p. judged_possible T (urgent T) h e (sym (fixed_judged T F h e) ∙ possible_judged_at T (still h) 0 e p),
  λ p. judged_possible_at T (still h) 0 e (fixed_judged T F h e ∙ possible_judged T (urgent T) h e p),
)

-- ---- the theorem
pub deadlines : Deadlines
deadlines = record {
  order = calls_ordered;
  ahead = in_words;
  one = λ T B H. one_at_least T (ticks H) B (untimed H);
  alone = λ T B H. one_at_most T (ticks H) B (untimed H);
  first = due_first;
  tie = tie_behind;
  gained = timed_exactly;
  fixed = fixed_calls;
  plain = fixed_possible;
  plain_next = plain_next;
}
