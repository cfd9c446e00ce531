-- A saved state put into the arrays of the code's state, and that nothing of such a state lies outside what it holds.
-- Assumes nothing.
use mathlib.Core.Path.{◌≡◌, refl, sym, subst, ◌∙◌}
use mathlib.Core.List.{List}
use Prim.Native.Nat.{ℕ}
use Rattle.protocol_state.specs.Records.{first_tasks, first_links}
use Rattle.protocol_state.specs.Saved.{Saved, Shape, state_room, ahead_in}
use Rattle.protocol_state.specs.Give.{Reply, Call, call_policy, call_tick, call_event, given_to}
use Rattle.protocol_state.specs.Fresh as fresh
use Rattle.protocol_state.proofs.Freshes.{made_shape}
use Rattle.protocol_state.proofs.Give.{give_shape}
use Rattle.regions.specs.Regions.{joined, Widths}
use Rattle.regions.proofs.Regions.{regions_joined, joined_length}
use Rattle.mailbox_layout.specs.Layout.{control_of, values_of, times_of, control_widths, value_widths, time_widths, fields_of}
use Rattle.mailbox_layout.proofs.Places.{control_extent, value_extent, time_extent}
use Rattle.mailbox_layout.proofs.Whole.{filled_shape, same_control, same_values, same_times}
use Rattle.mailbox.specs.States.{saved, IsWhole, Gives, Makes}
use Rattle.mailbox.specs.declared.State.{State}
use Rattle.mailbox.specs.declared.Step.{Step}
use Rattle.mailbox.specs.declared.Made.{Made}

-- a saved state in the code's arrays
pub packed : Saved → State
packed q = record { tasks = q.tasks; links = q.links; control = joined (control_of q); values = joined (values_of q); times = joined (times_of q) }

module _ (q : Saved) (S : Shape state_room q) where
  control_widths_lem : Widths control_widths (control_of q)
  unfolding Widths
  control_widths_lem = (S.phase, (S.newest, (S.previous, (S.seen, (S.pointer, (S.mark, (S.writer, (S.reader, (S.kind, tt)))))))))

  value_widths_lem : Widths value_widths (values_of q)
  unfolding Widths
  value_widths_lem = (S.defaults, (S.start_value, (S.cells, tt)))

  time_widths_lem : Widths time_widths (times_of q)
  unfolding Widths
  time_widths_lem = (S.deadline, (S.since, (refl, (refl, tt))))

  -- which it then is
  pub saved_packed : saved (packed q) ≡ q
  unfolding packed
  saved_packed =
      λ i. fields_of q.tasks q.links (regions_joined control_widths (control_of q) control_widths_lem i) (regions_joined value_widths (values_of q) value_widths_lem i)
      (regions_joined time_widths (times_of q) time_widths_lem i)

  pub packed_whole : IsWhole (packed q)
  unfolding packed
  packed_whole = record {
    control = joined_length control_widths (control_of q) control_widths_lem ∙ control_extent;
    values = joined_length value_widths (values_of q) value_widths_lem ∙ value_extent;
    times = joined_length time_widths (times_of q) time_widths_lem ∙ time_extent;
  }

-- states with all their arrays are equal where they hold the same
pub saved_same : (p q : State) → IsWhole p → IsWhole q → saved p ≡ saved q → p ≡ q
saved_same p q w w' e =
    let c : p.control ≡ q.control = same_control p.tasks p.links q.tasks q.links p.control p.values p.times q.control q.values q.times e w w' in
    let v : p.values ≡ q.values = same_values p.tasks p.links q.tasks q.links p.control p.values p.times q.control q.values q.times e w w' in
    let x : p.times ≡ q.times = same_times p.tasks p.links q.tasks q.links p.control p.values p.times q.control q.values q.times e w w' in
    λ i. record { tasks = (e i).tasks; links = (e i).links; control = c i; values = v i; times = x i }

-- its parts have their lengths
pub whole_shape : (q : State) → IsWhole q → Shape state_room (saved q)
whole_shape q w = filled_shape q.tasks q.links q.control q.values q.times w

-- so a state with all its arrays is the packing of what it holds
pub packed_is : (p : State) (q : Saved) → IsWhole p → saved p ≡ q → p ≡ packed q
packed_is p q w e =
    let S : Shape state_room q = subst (λ (x : Saved). Shape state_room x) e (whole_shape p w) in
    saved_same p (packed q) w (packed_whole q S) (e ∙ sym (saved_packed q S))

-- the answer to an event, and to a table
abbrev pub step_to : Reply → Step
step_to a = record { state = packed a.state; answer = record { refusal = a.refusal; value = a.value } }

pub given_to_lem : (q : State) (c : Call) → IsWhole q → Gives q c (step_to (given_to state_room (saved q) c))
given_to_lem q c w =
    let a = given_to state_room (saved q) c in
    let S : Shape state_room (given_to state_room (saved q) c).state = give_shape (ahead_in (saved q)) state_room (call_policy c) (saved q) (call_tick c) (call_event c) (whole_shape q w) in
    record {
      answer = λ i. record { state = saved_packed a.state S i; refusal = a.refusal; value = a.value };
      lent = w;
      whole = packed_whole a.state S;
    }

-- of a packed state
pub given_packed : (q : Saved) (c : Call) → Shape state_room q → Gives (packed q) c (step_to (given_to state_room q c))
given_packed q c S = subst (λ (x : Saved). Gives (packed q) c (step_to (given_to state_room x c))) (saved_packed q S) (given_to_lem (packed q) c (packed_whole q S))

abbrev pub made_to : fresh.Made → Made
made_to m = record { refusal = m.refusal; state = packed m.state }

pub made_to_lem : (p T L : ℕ) (D X W R K B : List ℕ) → Makes p T L D X W R K B (made_to (fresh.made state_room p (first_tasks T D X) (first_links L W R K B)))
made_to_lem p T L D X W R K B =
    let m = fresh.made state_room p (first_tasks T D X) (first_links L W R K B) in
    let S : Shape state_room (fresh.made state_room p (first_tasks T D X) (first_links L W R K B)).state = made_shape state_room p (first_tasks T D X) (first_links L W R K B) in
    record { answer = λ i. record { refusal = m.refusal; state = saved_packed m.state S i }; whole = packed_whole m.state S }
