-- The demands speak of something, under either policy: the calls of README.md can be made, and 101 is the number that they must read; so can calls at ticks, where the
-- second task goes first, for its deadline is the smaller one.
-- Assumes nothing.
use mathlib.Core.Path.{◌≡◌, refl, ap, ◌∙◌}
use mathlib.Core.List.{List, [], ◌∷◌, ◌++◌}
use Prim.Native.Nat.{ℕ, zero, suc}
use native.Mathlib.Omega.{arith}
use Rattle.lists.specs.Lists.{some, count, leading}
use Rattle.protocol.specs.Event.{arrival, start, read, finish, has}
use Rattle.protocol.specs.Table.{Table}
use Rattle.protocol.specs.Given.{values}
use Rattle.protocol.specs.History.{arrivals, starts, finishes, clock, up_to, output, past}
use Rattle.protocol.specs.Schedule.{judged}
use Rattle.protocol.specs.ZeroTime.{dues}
use Rattle.protocol_deadlines.specs.Deadline.{smaller, ahead_by}
use Rattle.protocol_deadlines.specs.Timed.{Timed, timed, untimed, last, ticks, late, judged_at}
use Rattle.protocol_state.specs.Records.{Task, deadline_of, Link}
use Rattle.protocol_state.specs.Rules.{fault, judged_table}
use Rattle.protocol_state.specs.Saved.{Saved, state_room, ahead_in}
use Rattle.protocol_state.specs.Fresh.{Policed, fresh_of, judged_lists}
use Rattle.protocol_state.specs.Give.{Call, plainly, ticked, call_policy, call_tick, call_event, given_to}
use Rattle.protocol_state.proofs.Keeps.{policy_same}
use Rattle.protocol_state.proofs.Freshes.{fresh_shape, dated_policed}
use Rattle.mailbox.specs.States.{saved}
use Rattle.mailbox.proofs.Packed.{saved_packed, step_to, given_to_lem}
use Rattle.mailbox.specs.declared.State.{State}
use Rattle.demands.specs.Station.{station}
use Rattle.demands.specs.States.{policy_in}
use Rattle.demands.specs.Order.{turned}
use Rattle.demands.specs.Calls.{Calls, accepted}
use Rattle.demands.proofs.Calls.{timed_call, call_done, calls_whole}
use Rattle.demands.proofs.Runs.{calls_refusal, calls_ideals}
use Rattle.demands.proofs.Replays.{begins}

-- some calls under the policy p in which these events were accepted
pub record Some (p : ℕ) (T : Table ℕ) (es : List (Timed ℕ)) : Type 0 where
  pub ns : List ℕ
  pub q : State
  pub calls : Calls T es ns q
  pub policy : policy_in q ≡ p

-- one call more, that the table and the events before it allow
more : {p : ℕ} {T : Table ℕ} {es : List (Timed ℕ)} → Some p T es → (k : Call) → p ≡ call_policy k → judged_at T (past [] es) (call_tick k) (call_event k) ≡ 0 → Some p T (es ++ (timed_call k ∷ []))
more c k own j =
    let r = step_to (given_to state_room (saved c.q) k) in
    let g = given_to_lem c.q k (calls_whole c.calls) in
    let z = calls_refusal c.calls k r g (c.policy ∙ own) ∙ j in
    record {
      ns = _;
      q = _;
      calls = accepted c.calls k r g z;
      policy = ap (λ (x : Saved). x.policy) (call_done c.q k r g z).2 ∙ policy_same (ahead_in (saved c.q)) (saved c.q) (call_tick k) (call_event k) ∙ c.policy;
    }

-- before any
none : (p : ℕ) (ds : List Task) (ls : List Link) → Policed p ds → judged_lists state_room p ds ls ≡ 0 → Some p (station ds ls) []
unfolding fresh_of
none p ds ls policed ok =
    record { ns = []; q = _; calls = begins p ds ls policed ok; policy = ap (λ (x : Saved). x.policy) (saved_packed (fresh_of state_room p ds ls) (fresh_shape state_room p ds ls)) }

-- two tasks with these relative deadlines, and a direct link from the one to the other
abbrev tasks : ℕ → ℕ → List Task
tasks d e = record { default = 0; deadline = d } ∷ record { default = 100; deadline = e } ∷ []

abbrev link : ℕ → ℕ → List Link
link w r = record { writer = w; reader = r; kind = 0; start_value = 0 } ∷ []

-- without deadlines: both arrive; the first starts and finishes with 101; the second starts and reads
abbrev two : Table ℕ
two = station (tasks 0 0) (link 0 1)

abbrev five : List (Timed ℕ)
five = timed 0 (arrival 3) ∷ timed 0 (start 0) ∷ timed 0 (finish 0 101) ∷ timed 0 (start 1) ∷ timed 0 (read 0) ∷ []

undated : Policed 0 (tasks 0 0)
undated = record { either = omega arith; fixed = λ z t. one t }
  where
    one : (t : ℕ) → deadline_of (tasks 0 0) t ≡ 0
    one zero = refl
    one (suc zero) = refl
    one (suc (suc t)) = refl

made : Some 0 two five
unfolding judged_table fault leading some count ahead_by smaller past judged_at judged late untimed last ticks arrivals starts finishes has clock up_to
made =
    let a = more (none 0 (tasks 0 0) (link 0 1) undated refl) (plainly (arrival 3)) refl refl in
    let b = more a (plainly (start 0)) refl refl in
    let c = more b (plainly (finish 0 101)) refl refl in
    let d = more c (plainly (start 1)) refl refl in
    more d (plainly (read 0)) refl refl

-- they can be made, and whatever they read is 101
pub reads_101 : Some 0 two five × ((ns : List ℕ) (q : State) → Calls two five ns q → ns ≡ 101 ∷ [])
unfolding past untimed dues values turned arrivals up_to output finishes has
reads_101 = (made, λ ns q c. calls_ideals c)

-- with deadlines, of which the second task has the smaller one: it starts first, and the first task reads what it finishes with
abbrev dated : Table ℕ
dated = station (tasks 10 5) (link 1 0)

abbrev five_at : List (Timed ℕ)
five_at = timed 6 (arrival 3) ∷ timed 6 (start 1) ∷ timed 11 (finish 1 102) ∷ timed 12 (start 0) ∷ timed 13 (read 0) ∷ []

made_at : Some 1 dated five_at
unfolding judged_table fault leading some count ahead_by smaller past judged_at judged late untimed last ticks arrivals starts finishes has clock up_to
made_at =
    let a = more (none 1 (tasks 10 5) (link 1 0) (dated_policed (tasks 10 5)) refl) (ticked 6 (arrival 3)) refl refl in
    let b = more a (ticked 6 (start 1)) refl refl in
    let c = more b (ticked 11 (finish 1 102)) refl refl in
    let d = more c (ticked 12 (start 0)) refl refl in
    more d (ticked 13 (read 0)) refl refl

pub reads_102 : Some 1 dated five_at × ((ns : List ℕ) (q : State) → Calls dated five_at ns q → ns ≡ 102 ∷ [])
unfolding past untimed dues values turned arrivals up_to output finishes has
reads_102 = (made_at, λ ns q c. calls_ideals c)
