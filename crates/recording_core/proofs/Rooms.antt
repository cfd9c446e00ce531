-- A recording that is judged by the state alone and one that is read into a lent list: with room for its numbers they are the same.
-- Assumes nothing.
use mathlib.Core.Path.{◌≡◌, refl, sym, ap, ◌∙◌}
use mathlib.Core.Bool.{Bool, true, false, cond}
use mathlib.Core.List.{List, [], ◌∷◌}
use Prim.Native.Nat.{ℕ, suc, ◌+◌, ◌≤◌}
use native.Mathlib.Numerals.{add-one}
use native.Mathlib.Omega.{arith}
use borrow.Author.Tests.{eqb-true}
use lib.Dec.{eqb}
use lib.ListN.{length, length-set}
use Rattle.protocol.specs.Event.{Event, arrival, start, read, finish}
use Rattle.protocol.specs.History.{reads, past}
use Rattle.protocol_deadlines.specs.Timed.{Timed, timed, untimed}
use Rattle.protocol_state.specs.Records.{Task, ahead_of}
use Rattle.protocol_state.specs.Saved.{Size, Saved}
use Rattle.protocol_state.specs.Next.{value_of}
use Rattle.protocol_state.specs.Fresh.{single}
use Rattle.byte_format.specs.Play.{Verdict, verdict, Allowed}
use Rattle.byte_format.specs.End.{no_last, last_step, lastly}
use Rattle.byte_format.specs.Handed.{Handed, tally, weighed, weighed_section}
use Rattle.recording_format.specs.Link.{Link}
use Rattle.recording_format.specs.Event.{encode_event, events}
use Rattle.recording_format.specs.RecordingKind.{RecordingKind, event_limit}
use Rattle.recording_format.specs.Recording.{Core, Recorded}
use Rattle.recording_format.specs.Writing.{tasks_weighed, links_weighed, table_weighed, recording_weighed}
use Rattle.recording_core.specs.Playing.{Playing, judged_alone, stepped_alone, judged_in, stepped_in, core_of, state_core, alone}
use Rattle.recording_core.proofs.Right.{reads_past, both_zero, room_enough_lem}

-- an event counts one read, if it is one
reads_next : (q : Playing) (x : ℕ) (e : Event ℕ) (H : List (Timed ℕ)) → q.counts.reads ≡ reads (untimed H) → (stepped_in q (timed x e)).counts.reads ≡ reads (untimed (timed x e ∷ H))
unfolding stepped_in reads untimed
reads_next q x (arrival s) H r = r
reads_next q x (start t) H r = r
reads_next q x (read l) H r = add-one q.counts.reads ∙ ap suc r
reads_next q x (finish t v) H r = r

-- and the list keeps its length
length_next : (q : Playing) (x : ℕ) (e : Event ℕ) → length (stepped_in q (timed x e)).list ≡ length q.list
unfolding stepped_in
length_next q x (arrival s) = refl
length_next q x (start t) = refl
length_next q x (read l) = length-set q.list q.counts.reads (value_of q.state (read l))
length_next q x (finish t v) = refl

-- where there is room for the number that it may read, the state alone judges it
judged_with_room :
    (q : Playing) (x : ℕ) (e : Event ℕ) (H : List (Timed ℕ)) → q.counts.reads ≡ reads (untimed H) → reads (untimed (timed x e ∷ H)) ≤ length q.list
    → judged_in q (timed x e) ≡ judged_alone q.state (timed x e)
unfolding judged_in untimed
judged_with_room q x e H r l = rw (r, room_enough_lem e (untimed H) q.list l) (go (eqb (judged_alone q.state (timed x e)) 0) refl)
  where
    go : (t : Bool) → eqb (judged_alone q.state (timed x e)) 0 ≡ t → cond t 0 (judged_alone q.state (timed x e)) ≡ judged_alone q.state (timed x e)
    go true t = sym (eqb-true (judged_alone q.state (timed x e)) 0 t)
    go false t = refl

-- after the history H: events that the state allows in their turn are allowed where there is room for their numbers
pub allowed_with_room :
    (es : List (Timed ℕ)) (H : List (Timed ℕ)) (q : Playing) → q.counts.reads ≡ reads (untimed H) → Allowed judged_alone stepped_alone q.state es →
    reads (untimed (past H es)) ≤ length q.list → Allowed judged_in stepped_in q es
unfolding Allowed past stepped_in
allowed_with_room [] H q r a l = tt
allowed_with_room (timed x e ∷ es) H q r a l =
    let m : reads (untimed (timed x e ∷ H)) ≤ length q.list = omega (arith, reads_past (timed x e ∷ H) es) in (
      judged_with_room q x e H r m ∙ a.0,
      allowed_with_room es (timed x e ∷ H) (stepped_in q (timed x e)) (reads_next q x e H r) a.1 (omega (arith, length_next q x e)),
    )

-- and what is allowed there the state allows
pub allowed_by_state :
    (es : List (Timed ℕ)) (q : Playing) → Allowed judged_in stepped_in q es → Allowed judged_alone stepped_alone q.state es
unfolding Allowed judged_in stepped_in
allowed_by_state [] q a = tt
allowed_by_state (timed x e ∷ es) q a = ((both_zero (judged_alone q.state (timed x e)) _ a.0).0, allowed_by_state es (stepped_in q (timed x e)) a.1)

-- so they are weighed the same
weighed_with_room :
    (kind : RecordingKind) (ending : ℕ) (es : List (Timed ℕ)) (H : List (Timed ℕ)) (q : Playing) (p : ℕ) → q.counts.reads ≡ reads (untimed H) → reads (untimed (past H es)) ≤ length q.list →
    weighed (events kind) judged_alone stepped_alone ending q.state es p ≡ alone (weighed (events kind) judged_in stepped_in ending q es p)
unfolding weighed past stepped_in
weighed_with_room kind ending [] H q p r l = refl
weighed_with_room kind ending (timed x o ∷ es) H q p r l =
    let m : reads (untimed (timed x o ∷ H)) ≤ length q.list = omega (arith, reads_past (timed x o ∷ H) es) in
    rw (judged_with_room q x o H r m)
    (go (eqb (judged_alone q.state e) 0)
    (weighed_with_room kind ending es (timed x o ∷ H) (stepped_in q (timed x o)) n (reads_next q x o H r) (omega (arith, length_next q x o))))
  where
    e : Timed ℕ
    e = timed x o

    j : ℕ
    j = judged_alone q.state e

    n : ℕ
    n = p + length (encode_event kind e)

    go :
        (t : Bool) →
        weighed (events kind) judged_alone stepped_alone ending (stepped_alone q.state e) es n ≡ alone (weighed (events kind) judged_in stepped_in ending (stepped_in q e) es n) →
        cond t (weighed (events kind) judged_alone stepped_alone ending (stepped_alone q.state e) es n) (verdict j p q.state)
        ≡ alone (cond t (weighed (events kind) judged_in stepped_in ending (stepped_in q e) es n) (verdict j p q))
    go true i = i
    go false i = refl

-- the last step is tried of the state alone
lastly_alone : (last : Saved → ℕ) (x : Verdict Playing) → lastly last (alone x) ≡ alone (lastly (λ (q : Playing). last q.state) x)
lastly_alone last x = go (eqb x.refusal 0)
  where
    go : (t : Bool) → cond t (last_step last (alone x)) (alone x) ≡ alone (cond t (last_step (λ (q : Playing). last q.state) x) x)
    go true = refl
    go false = refl

-- so too with a table before them: the same refusal at the same place, in the same state
pub whole_with_room :
    (kind : RecordingKind) (size : Size) (policy : ℕ) (out : List ℕ) (ds : Handed Task) (ls : Handed Link) (es : Handed (Timed ℕ)) → reads (untimed (past [] es.whole)) ≤ length out →
    recording_weighed kind (state_core size policy) ds ls es ≡ alone (recording_weighed kind (core_of size policy out) ds ls es)
unfolding recording_weighed table_weighed weighed_section reads untimed
whole_with_room kind size policy out ds ls es l =
    go (eqb (tasks_weighed kind ds).refusal 0) (eqb (links_weighed (ahead_of (tasks_weighed kind ds).state) kind (length (tasks_weighed kind ds).state) ls (tasks_weighed kind ds).place).refusal 0) (eqb (event_limit kind (tally es)) 0)
  where
    T : Verdict (List Task)
    T = tasks_weighed kind ds

    L : Verdict (List Link)
    L = links_weighed (ahead_of T.state) kind (length T.state) ls T.place

    E : ℕ
    E = event_limit kind (tally es)

    q : Playing
    q = (core_of size policy out).start T.state L.state

    go :
        (t u v : Bool) →
        cond t
        (cond u (lastly no_last (cond v (weighed (events kind) judged_alone stepped_alone es.ending q.state es.whole (L.place + kind.event_count_width)) (verdict E L.place (single size)))) (verdict L.refusal L.place (single size)))
        (verdict T.refusal T.place (single size))
        ≡ alone
        (cond t
        (cond u (lastly no_last (cond v (weighed (events kind) judged_in stepped_in es.ending q es.whole (L.place + kind.event_count_width)) (verdict E L.place (core_of size policy out).single))) (verdict L.refusal L.place (core_of size policy out).single))
        (verdict T.refusal T.place (core_of size policy out).single))
    go true true true =
        ap (lastly no_last) (weighed_with_room kind es.ending es.whole [] q (L.place + kind.event_count_width) refl l)
        ∙ lastly_alone no_last (weighed (events kind) judged_in stepped_in es.ending q es.whole (L.place + kind.event_count_width))
    go true true false = lastly_alone no_last (verdict E L.place (core_of size policy out).single)
    go true false v = refl
    go false u v = refl

-- a recording for one core is one for another that allows its events in their turn
recorded_for :
    {S S' : Type 0} (kind : RecordingKind) (core : Core S) (core' : Core S') {s : List ℕ} {ds : List Task} {ls : List Link} {es : List (Timed ℕ)} →
    Recorded kind core s ds ls es → Allowed core'.judge core'.step (core'.start ds ls) es → Recorded kind core' s ds ls es
recorded_for kind core core' r a =
    record {
      bytes = r.bytes;
      tasked = r.tasked;
      linked = r.linked;
      played = record { counted = r.played.counted; few = r.played.few; fits = r.played.fits; allowed = a };
    }

module _ (kind : RecordingKind) (size : Size) (policy : ℕ) (out : List ℕ) {s : List ℕ} {ds : List Task} {ls : List Link} {es : List (Timed ℕ)} where
  -- a recording by the state alone is one for a list with room
  pub recorded_with_room : reads (untimed (past [] es)) ≤ length out → Recorded kind (state_core size policy) s ds ls es → Recorded kind (core_of size policy out) s ds ls es
  unfolding reads untimed
  recorded_with_room l r =
      recorded_for kind (state_core size policy) (core_of size policy out) r
      (allowed_with_room es [] ((core_of size policy out).start ds ls) refl r.played.allowed l)

  -- and one for any list is one by the state alone
  pub recorded_by_state : Recorded kind (core_of size policy out) s ds ls es → Recorded kind (state_core size policy) s ds ls es
  recorded_by_state r =
      recorded_for kind (core_of size policy out) (state_core size policy) r
      (allowed_by_state es ((core_of size policy out).start ds ls) r.played.allowed)
