-- The sentences of request 2026-06 hold.
-- Assumes nothing.
use mathlib.Core.Path.{◌≡◌, refl, sym, ap, ◌∙◌}
use mathlib.Core.Logic.{inr}
use mathlib.Core.List.{List, [], ◌∷◌}
use Prim.Native.Nat.{ℕ, zero, suc, ◌<◌}
use native.Mathlib.Omega.{arith}
use lib.ListN.{length, get_or}
use Rattle.protocol.specs.Event.{arrival, start, read, finish}
use Rattle.protocol_deadlines.specs.Timed.{Timed, timed}
use Rattle.protocol_state.specs.Saved.{state_room}
use Rattle.protocol_state.specs.Records.{Task}
use Rattle.byte_format.specs.Format.{FitEach}
use Rattle.byte_format.specs.Play.{Verdict, verdict}
use Rattle.byte_format.specs.Number.{number_at}
use Rattle.byte_format.proofs.Numbers.{number_one}
use Rattle.byte_format.proofs.Counts.{count_above}
use Rattle.recording_format.specs.RecordingKind.{base_recording, wide_recording, any_kind, first_limit}
use Rattle.recording_format.specs.declared.WhichKind.{WhichKind}
use Rattle.recording_format.specs.declared.WhichKind.TheVariants.{Base, Wide}
use Rattle.recording_format.specs.Link.{Link}
use Rattle.recording_format.specs.Event.{EventFits, events}
use Rattle.recording_format.specs.Recording.{Core, recording, events_from, task_place}
use Rattle.recording_format.specs.Outcome.{Begins}
use Rattle.recording_format.proofs.Onward.{first_refused}
use Rattle.recording_format.proofs.AllKinds.{kind_begun}
use Rattle.recording_core.specs.Playing.{Playing, core_of}
use Rattle.recording.specs.Answers.{replied}
use Rattle.recording.specs.declared.Answer.{Answer}
use Rattle.recording_demands.specs.Ensured.{Replays}
use Rattle.recording_demands.proofs.Demands.{answer_by, only_answer}
use Rattle.demands.specs.Recordings.{recording_bytes, Genuine, TasksBegun, TableFault, bad_task_count, bad_link_count}
use Rattle.demands.specs.TwoKinds.{SaysTheSame, TwoKinds}
use Rattle.demands.proofs.TableFaults.{fault_found}
use Rattle.demands.proofs.Genuine.{accepted_calls, accepted_counts}
use Rattle.demands.proofs.Course.{one_course}

-- ---- the limits

-- what stands at a place is something: the bytes do not end before it
there : (s : List ℕ) (p : ℕ) {n : ℕ} → n < get_or s p 0 → p < length s
there [] p h = absurd (omega arith)
there (b ∷ s) zero h = omega arith
there (b ∷ s) (suc p) h = omega (arith, there s p h)

-- a fault of the table is the answer
answered : {s out list : List ℕ} {a : Answer} {r p : ℕ} → Replays s out a list → TableFault s r p → (a.refusal ≡ r) × (a.place ≡ p)
answered {s} {out} said f =
    let e = sym (only_answer said (fault_found s out f)) in
    (ap (λ (x : Verdict Playing). x.refusal) e, ap (λ (x : Verdict Playing). x.place) e)

many_tasks : {s out list : List ℕ} {a : Answer} → Replays s out a list → (which : WhichKind) → Begins (any_kind which) s →
    (any_kind which).tasks < get_or s task_place 0 → (a.refusal ≡ 2) × (a.place ≡ task_place)
many_tasks {s} said which x h = answered said (bad_task_count which x (omega (arith, there s task_place h)) (inr (rw (number_one s task_place) h)))

many_links : {which : WhichKind} {s out list : List ℕ} {ds : List Task} {a : Answer} {p : ℕ} → Replays s out a list → TasksBegun which s (length ds) ds p →
    (any_kind which).links < get_or s p 0 → (a.refusal ≡ 3) × (a.place ≡ p)
many_links {which} {s} {p = p} said b h = answered said (bad_link_count which b (omega (arith, there s p h)) (rw (number_one s p) h))

-- ---- the reader from before

reader_before : {S : Type 0} (core : Core S) (s : List ℕ) → recording base_recording core (wide_recording.first ∷ s) ≡ verdict 2 0 core.single
unfolding recording
reader_before core s =
    let bytes = wide_recording.first ∷ s in
    let two : first_limit base_recording (number_at 1 bytes 0) ≡ 2 = rw (number_one bytes 0) in
    first_refused base_recording core.single (events_from base_recording core bytes) bytes
    (count_above 1 (first_limit base_recording) bytes 0 (omega arith) two (λ y. omega arith))

still_taken : {s out list : List ℕ} {a : Answer} → Replays s out a list → Begins base_recording s → replied a list ≡ recording base_recording (core_of state_room 0 out) s
still_taken {s} said x = answer_by said Base (kind_begun Base s x)

-- ---- what both hold

-- the numbers of an event fit the bytes of the wide kind, where they fit those of the other
event_widened : (e : Timed ℕ) → EventFits base_recording e → EventFits wide_recording e
unfolding EventFits
event_widened (timed x (arrival m)) f = (f.0, omega (arith, f.1))
event_widened (timed x (start t)) f = f
event_widened (timed x (read l)) f = f
event_widened (timed x (finish t v)) f = f

events_widened : (es : List (Timed ℕ)) → FitEach (events base_recording) es → FitEach (events wide_recording) es
unfolding FitEach
events_widened [] f = tt
events_widened (e ∷ es) f = (event_widened e f.0, events_widened es f.1)

widened : {s out : List ℕ} {ds : List Task} {ls : List Link} {es : List (Timed ℕ)} → Genuine Base s out ds ls es → Genuine Wide (recording_bytes Wide ds ls es) out ds ls es
widened {es = es} g = record {
  keeps = g.keeps;
  bytes = refl;
  fits = (g.fits.0, (g.fits.1.0, events_widened es g.fits.1.1));
  few_tasks = omega (arith, g.few_tasks);
  few_links = omega (arith, g.few_links);
  few = g.few;
  room = g.room;
  happen = g.happen;
}

same_answer : {which which' : WhichKind} {s s' out out' list list' : List ℕ} {a a' : Answer} {ds : List Task} {ls : List Link} {es : List (Timed ℕ)} →
    Genuine which s out ds ls es → Genuine which' s' out' ds ls es → Replays s out a list → Replays s' out' a' list' → SaysTheSame out list a out' list' a'
same_answer g g' said said' =
    let c = accepted_calls said g in
    let c' = accepted_calls said' g' in
    let same = one_course c.1 c'.1 in
    record {
      ns = c.0;
      listed = (c.2, rw same.0 c'.2);
      state = same.1;
      counted = accepted_counts said g ∙ sym (accepted_counts said' g');
    }

pub two_kinds : TwoKinds
two_kinds = record { many_tasks = many_tasks; many_links = many_links; reader_before = reader_before; still_taken = still_taken; widened = widened; same_answer = same_answer }
