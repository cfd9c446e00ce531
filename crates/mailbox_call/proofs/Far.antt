-- A task or link number above 255 is in no table: its event earns 12, after 19, whatever the tick.
-- Assumes nothing.
use mathlib.Core.Path.{◌≡◌, refl, sym, ap, ◌∙◌}
use mathlib.Core.Bool.{Bool, true, false, cond}
use Prim.Native.Nat.{ℕ, ◌<◌}
use native.Mathlib.Omega.{arith}
use borrow.Author.Tests.{le-leb}
use lib.Dec.{eqb, leb}
use Rattle.lists.proofs.Bools.{and_left}
use Rattle.protocol.specs.Event.{Event, start, read, finish}
use Rattle.protocol_deadlines.specs.Timed.{tried}
use Rattle.protocol_state.specs.Saved.{Saved, state_room, at, ahead_in}
use Rattle.protocol_state.specs.Judge.{judged_task, judged_read, late_in, judged_on, judged_on_at, sooner_in}
use Rattle.protocol_state.specs.Give.{reply, settled, Call, call_policy, call_tick, call_event, sound_for, given_to}
use Rattle.protocol_state.specs.Sound.{is_sound}
use Rattle.protocol_state.proofs.Sound.{sound_room}
use Rattle.protocol_state.proofs.Give.{unsound, refused, give_unsound, give_refused}
use Rattle.mailbox_event.specs.Plain.{plain, call_of}
use Rattle.mailbox_event.specs.declared.Event.{Event as Given}
use Rattle.mailbox_event.specs.declared.When.{When}
use Rattle.mailbox_event.specs.declared.When.TheVariants.{Untimed, At}
use Rattle.mailbox_call.specs.Calls.{handed_over, sound_when}

-- an event of the code is handed over as the protocol's
pub given_over : (w : When) (e : Given) → call_of w e ≡ handed_over w (plain e)
given_over Untimed e = refl
given_over (At x) e = refl

-- what is 12 without ticks is 12 with them
twelve_at : (q : Saved) (x : ℕ) (e : Event ℕ) → judged_on (ahead_in q) q e ≡ 12 → judged_on_at (ahead_in q) q x e ≡ 12
unfolding judged_on_at
twelve_at q x e j = go (eqb q.policy 0)
  where
    go : (b : Bool) → cond b (judged_on (ahead_in q) q e) (tried (judged_on (ahead_in q) q e) q.last x (late_in q x e)) ≡ 12
    go true = j
    go false = rw j

-- where each sound state answers a call by 12, its answer is known
refused_12 : (q : Saved) (c : Call) → (is_sound (ahead_in q) state_room q ≡ true → judged_on (ahead_in q) q (call_event c) ≡ 12) → settled (sound_for (ahead_in q) state_room (call_policy c) q) 12 q q 0 ≡ given_to state_room q c
refused_12 q c j = go (sound_for (ahead_in q) state_room (call_policy c) q) refl where
  go : (b : Bool) → sound_for (ahead_in q) state_room (call_policy c) q ≡ b → settled (sound_for (ahead_in q) state_room (call_policy c) q) 12 q q 0 ≡ given_to state_room q c
  go false s = unsound 12 q q 0 s ∙ sym (give_unsound (ahead_in q) state_room (call_policy c) q (call_tick c) (call_event c) s)
  go true s =
      let t : judged_on_at (ahead_in q) q (call_tick c) (call_event c) ≡ 12 = twelve_at q (call_tick c) (call_event c) (j (and_left (is_sound (ahead_in q) state_room q) _ s)) in
      refused 12 q q 0 s (λ z. omega arith) ∙ ap (λ (k : ℕ). reply q k 0) (sym t)
      ∙ sym (give_refused (ahead_in q) state_room (call_policy c) q (call_tick c) (call_event c) s (λ z. omega (arith, t, z)))

over : (w : When) (q : Saved) (e : Event ℕ) → (is_sound (ahead_in q) state_room q ≡ true → judged_on (ahead_in q) q e ≡ 12) → settled (sound_when w q) 12 q q 0 ≡ given_to state_room q (handed_over w e)
over Untimed q e j = refused_12 q (handed_over Untimed e) j
over (At x) q e j = refused_12 q (handed_over (At x) e) j

module _ (w : When) (q : Saved) (i : ℕ) (far : 255 < i) where
  task_far : (k : ℕ) → is_sound (ahead_in q) state_room q ≡ true → judged_task (sooner_in (ahead_in q) q) k i q.tasks (at q.phase) ≡ 12
  unfolding judged_task
  task_far k s =
      let c = sound_room (ahead_in q) state_room q s in
      let h : leb q.tasks i ≡ true = le-leb q.tasks i (omega arith) in rw h

  link_far : is_sound (ahead_in q) state_room q ≡ true → judged_read (sooner_in (ahead_in q) q) i q.tasks q.links (at q.reader) (at q.phase) ≡ 12
  unfolding judged_read
  link_far s =
      let c = sound_room (ahead_in q) state_room q s in
      let h : leb q.links i ≡ true = le-leb q.links i (omega arith) in rw h

  pub start_far : settled (sound_when w q) 12 q q 0 ≡ given_to state_room q (handed_over w (start i))
  start_far = over w q (start i) (task_far 1)

  pub read_far : settled (sound_when w q) 12 q q 0 ≡ given_to state_room q (handed_over w (read i))
  read_far = over w q (read i) link_far

  pub finish_far : (v : ℕ) → settled (sound_when w q) 12 q q 0 ≡ given_to state_room q (handed_over w (finish i v))
  finish_far v = over w q (finish i v) (task_far 3)
