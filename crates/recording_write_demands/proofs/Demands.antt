-- The promises over what the writer ensures: for any numbers tw, lw and ew, any buffer old, and any answer a and buffer that its contract allows.
-- Assumes nothing.
use mathlib.Core.Path.{◌≡◌, refl, sym, ap, ◌∙◌}
use mathlib.Core.Logic.{◌≢◌, ◌⊎◌, inl, inr}
use mathlib.Core.Bool.{Bool, true, false}
use mathlib.Core.List.{List, [], ◌++◌}
use Prim.Native.Nat.{ℕ, ◌≤◌, ◌<◌}
use native.Mathlib.Omega.{arith}
use borrow.Author.Tests.{eqb-true, eqb-false, ne_eqb}
use lib.Dec.{eqb, ltb, lit<}
use lib.ListN.{length, take, drop, replicate, length-replicate}
use lib.Seq.{take_at, drop_at}
use Rattle.protocol.specs.History.{reads, past}
use Rattle.protocol_deadlines.specs.Timed.{Timed, timed, untimed}
use Rattle.protocol_state.specs.Records.{Task}
use Rattle.protocol_state.specs.Saved.{Saved, state_room, ahead_in}
use Rattle.protocol_state.proofs.Give.{never_judged}
use Rattle.byte_format.specs.Play.{Verdict, verdict}
use Rattle.byte_format.specs.Handed.{Handed, handed}
use Rattle.recording_format.specs.Link.{Link}
use Rattle.recording_format.specs.declared.WhichKind.{WhichKind}
use Rattle.recording_format.specs.declared.WhichKind.TheVariants.{Base, Wide, Dated}
use Rattle.recording_format.specs.RecordingKind.{base_recording, wide_recording, dated_recording, any_kind, is_kind, which_in}
use Rattle.recording_format.specs.Recording.{encode_recording, recording, state_after}
use Rattle.recording_format.specs.Words.{Words, tasks_said, links_said, events_said, task_words, link_words, event_words}
use Rattle.recording_format.specs.Writing.{recording_weighed, held_to_room, writing, bytes_as_written, InBytes}
use Rattle.recording_format.proofs.AllKinds.{kind_room, kind_counts, kind_numbers, kind_bytes, kind_dates, kind_said_lem, tick_bytes}
use Rattle.recording_format.proofs.Words.{tasks_said_lem, links_said_lem, events_said_lem, defaults_said, starts_said, values_said, ticks_said}
use Rattle.recording_format.proofs.Weighed.{whole_fine, whole_reply, recorded_whole}
use Rattle.recording_format.proofs.NumbersRead.{tasks_ending, links_ending, events_ending, numbers_as_read}
use Rattle.recording_format.proofs.Buffers.{not_room, Way, refused, short, fits, which_way, buffer_written, buffer_refused}
use Rattle.recording_core.specs.Playing.{Playing, core_of, judged_alone, alone}
use Rattle.recording_core.specs.Promise as core
use Rattle.demands.specs.Recordings.{Genuine}
use Rattle.demands.proofs.Orders.{untimed_past, past_reads}
use Rattle.demands.proofs.Genuine.{genuine_core, core_genuine}
use Rattle.recording_core.proofs.Promises.{recorded_genuine, genuine_recorded}
use Rattle.recording_core.proofs.Writings.{written_recorded}
use Rattle.recording_core.proofs.Rooms.{recorded_with_room, recorded_by_state, whole_with_room}
use Rattle.recording_write.specs.Answers.{core_in, weighed_in, reply_in, buffer_in, written_of}
use Rattle.recording_write.specs.declared.Written.{Written}
use Rattle.recording_write_demands.specs.Ensured.{Writes, RecordingOf}

-- the bytes of the tasks, links and events that numbers say
abbrev bytes : WhichKind → List ℕ → List ℕ → List ℕ → List ℕ
bytes which tw lw ew = encode_recording (any_kind which) (tasks_said (any_kind which) tw).whole (links_said lw).whole (events_said (any_kind which) ew).whole

-- no refusal of what is handed over is 18: none of an event is
event_not_eighteen : (q : Saved) (y : Timed ℕ) → judged_alone q y ≢ 18
event_not_eighteen q (timed x e) = never_judged (ahead_in q) q x e 18 (lit< tt) (lit< tt)

not_eighteen : (which : WhichKind) (tw lw ew : List ℕ) → (weighed_in which tw lw ew).refusal ≢ 18
not_eighteen which tw lw ew =
    not_room (any_kind which) (core_in which) (tasks_said (any_kind which) tw) (links_said lw) (events_said (any_kind which) ew) event_not_eighteen (λ q z. omega arith)
    (λ z. omega (arith, tasks_ending (any_kind which) tw)) (λ z. omega (arith, links_ending lw)) (λ z. omega (arith, events_ending (any_kind which) ew))

-- a recording that is handed over as what it says is refused nothing
genuine_weighs :
    (which : WhichKind) {s out : List ℕ} {ds : List Task} {ls : List Link} {es : List (Timed ℕ)} → core.CoreGenuine (any_kind which) state_room s out ds ls es →
    recording_weighed (any_kind which) (core_in which) (handed ds 0) (handed ls 0) (handed es 0) ≡ verdict 0 (length s) (state_after (core_in which) ds ls es)
genuine_weighs which {s} {out} {ds} {ls} {es} g =
    recorded_whole (any_kind which) (core_in which) s ds ls es
    (recorded_by_state (any_kind which) state_room (any_kind which).policy out (genuine_recorded (any_kind which) (kind_dates which) state_room (kind_room which) out (kind_counts which) g)) refl

-- as many reads in either order
pub room_past : (es : List (Timed ℕ)) {n : ℕ} → reads (untimed es) ≤ n → reads (untimed (past [] es)) ≤ n
unfolding reads untimed
room_past es h = omega (arith, past_reads [] (untimed es), ap reads (untimed_past [] es))

-- a list with room for the numbers that the events read
room_of : WhichKind → List ℕ → List ℕ
room_of which ew = replicate (reads (untimed (past [] (events_said (any_kind which) ew).whole))) 0

-- for it a recording that the numbers say is one
recording_genuine : {which : WhichKind} {tw lw ew s : List ℕ} → RecordingOf which tw lw ew s →
    core.CoreGenuine (any_kind which) state_room s (room_of which ew) (tasks_said (any_kind which) tw).whole (links_said lw).whole (events_said (any_kind which) ew).whole
unfolding room_of reads untimed
recording_genuine {which} {ew = ew} r =
    let es = (events_said (any_kind which) ew).whole in
    let n = reads (untimed (past [] (events_said (any_kind which) ew).whole)) in
    genuine_core (r.genuine (room_of which ew) (omega (arith, length-replicate {A = ℕ} n 0, past_reads [] (untimed es), ap reads (untimed_past [] es))))

-- so it too is refused nothing
recording_weighs : {which : WhichKind} {tw lw ew s : List ℕ} → RecordingOf which tw lw ew s → ((weighed_in which tw lw ew).refusal ≡ 0) × ((weighed_in which tw lw ew).place ≡ length s)
recording_weighs {which} {tw} {lw} {ew} {s} r =
    let kind = any_kind which in
    let ts = (tasks_said kind tw).whole in
    let ls = (links_said lw).whole in
    let es = (events_said kind ew).whole in
    let g = genuine_weighs which (recording_genuine r) in
    let e : weighed_in which tw lw ew ≡ recording_weighed (any_kind which) (core_in which) (handed (tasks_said (any_kind which) tw).whole 0) (handed (links_said lw).whole 0) (handed (events_said (any_kind which) ew).whole 0) =
    ap (λ (k : ℕ). recording_weighed kind (core_in which) (handed ts k) (links_said lw) (events_said kind ew)) r.tasks_whole
    ∙ ap (λ (k : ℕ). recording_weighed kind (core_in which) (handed ts 0) (handed ls k) (events_said kind ew)) r.links_whole
    ∙ ap (λ (k : ℕ). recording_weighed kind (core_in which) (handed ts 0) (handed ls 0) (handed es k)) r.events_whole in
    (ap (λ (x : Verdict Saved). x.refusal) (e ∙ g), ap (λ (x : Verdict Saved). x.place) (e ∙ g))

-- the room for the bytes asks nothing of the state
held_alone : (room : ℕ) (x : Verdict Playing) → written_of (held_to_room room (alone x)) ≡ written_of (held_to_room room x)
held_alone room x = go (eqb x.refusal 0) (ltb room x.place) refl refl
  where
    go : (t u : Bool) → eqb x.refusal 0 ≡ t → ltb room x.place ≡ u → written_of (held_to_room room (alone x)) ≡ written_of (held_to_room room x)
    go true true t u = rw (t, u)
    go true false t u = rw (t, u)
    go false u t v = rw t

-- what is written as a kind
pub record WritesAs (which : WhichKind) (tw lw ew old : List ℕ) (a : Written) (new : List ℕ) : Type 0 where
  pub answer : a ≡ written_of (reply_in which tw lw ew (length old))
  pub buffer : new ≡ buffer_in which tw lw ew old
  pub numbers : Words tw × (Words lw × Words ew)

-- so it is where the writer is told that kind
pub writes_as : (which : WhichKind) {tw lw ew old new : List ℕ} {a : Written} → Writes (any_kind which).first tw lw ew old a new → WritesAs which tw lw ew old a new
writes_as Base said = record { answer = said.answer; buffer = said.buffer; numbers = said.numbers }
writes_as Wide said = record { answer = said.answer; buffer = said.buffer; numbers = said.numbers }
writes_as Dated said = record { answer = said.answer; buffer = said.buffer; numbers = said.numbers }

-- a number that is the first byte of no kind
pub record NoKind (told : ℕ) : Type 0 where
  pub base : told ≢ base_recording.first
  pub wide : told ≢ wide_recording.first
  pub dated : told ≢ dated_recording.first

-- a number is the first byte of a kind, or of none
pub told_kind : (told : ℕ) → ((which : WhichKind) × (told ≡ (any_kind which).first)) ⊎ NoKind told
told_kind told = go (eqb told 253) (eqb told 254) (eqb told 255) refl refl refl
  where
    go : (b w d : Bool) → eqb told 253 ≡ b → eqb told 254 ≡ w → eqb told 255 ≡ d → ((which : WhichKind) × (told ≡ (any_kind which).first)) ⊎ NoKind told
    go true w d e f g = inl (Base, eqb-true told 253 e)
    go false true d e f g = inl (Wide, eqb-true told 254 f)
    go false false true e f g = inl (Dated, eqb-true told 255 g)
    go false false false e f g = inr (record { base = eqb-false told 253 e; wide = eqb-false told 254 f; dated = eqb-false told 255 g })

module _ {told : ℕ} {tw lw ew old new : List ℕ} {a : Written} (said : Writes told tw lw ew old a new) (n : NoKind told) where
  none : is_kind told ≡ false
  none = rw (ne_eqb told base_recording.first n.base, ne_eqb told wide_recording.first n.wide, ne_eqb told dated_recording.first n.dated)

  -- of none: 2 at 0
  pub unknown_kind : (a.refusal ≡ 2) × (a.place ≡ 0)
  unknown_kind = let e : a ≡ record { refusal = 2; place = 0 } = rw none at said.answer in (ap (λ (w : Written). w.refusal) e, ap (λ (w : Written). w.place) e)

  -- and the buffer is untouched
  pub unknown_untouched : new ≡ old
  unknown_untouched = said.buffer ∙ rw none

module _ {which : WhichKind} {tw lw ew old new : List ℕ} {a : Written} (said : WritesAs which tw lw ew old a new) where
  -- the refusal of the answer
  refusal_is : a.refusal ≡ (writing (any_kind which) (core_in which) (tasks_said (any_kind which) tw) (links_said lw) (events_said (any_kind which) ew) (length old)).refusal
  refusal_is = ap (λ (w : Written). w.refusal) said.answer

  -- and the place
  place_is : a.place ≡ (writing (any_kind which) (core_in which) (tasks_said (any_kind which) tw) (links_said lw) (events_said (any_kind which) ew) (length old)).place
  place_is = ap (λ (w : Written). w.place) said.answer

  -- which of the three it is
  way : Way (any_kind which) (core_in which) (tasks_said (any_kind which) tw) (links_said lw) (events_said (any_kind which) ew) (length old)
  way = which_way (any_kind which) (core_in which) (tasks_said (any_kind which) tw) (links_said lw) (events_said (any_kind which) ew) (length old)

  -- an answer that is this reply
  is : {x : Verdict Saved} → writing (any_kind which) (core_in which) (tasks_said (any_kind which) tw) (links_said lw) (events_said (any_kind which) ew) (length old) ≡ x → (a.refusal ≡ x.refusal) × (a.place ≡ x.place)
  is e = (refusal_is ∙ ap (λ (y : Verdict Saved). y.refusal) e, place_is ∙ ap (λ (y : Verdict Saved). y.place) e)

  -- no refusal: nothing is at fault, and there is room
  accepted : a.refusal ≡ 0 → ((weighed_in which tw lw ew).refusal ≡ 0) × (a.place ≡ (weighed_in which tw lw ew).place) × ((weighed_in which tw lw ew).place ≤ length old)
  accepted z = go way
    where
      go : Way (any_kind which) (core_in which) (tasks_said (any_kind which) tw) (links_said lw) (events_said (any_kind which) ew) (length old) → ((weighed_in which tw lw ew).refusal ≡ 0) × (a.place ≡ (weighed_in which tw lw ew).place) × ((weighed_in which tw lw ew).place ≤ length old)
      go (refused n e) = absurd (n (sym (is e).0 ∙ z))
      go (short w l e) = absurd (omega (arith, (is e).0))
      go (fits w l e) = (w, (is e).1, l)

  -- 18: nothing is at fault, and there is no room
  eighteen : a.refusal ≡ 18 → ((weighed_in which tw lw ew).refusal ≡ 0) × (a.place ≡ (weighed_in which tw lw ew).place) × (length old < (weighed_in which tw lw ew).place)
  eighteen z = go way
    where
      go : Way (any_kind which) (core_in which) (tasks_said (any_kind which) tw) (links_said lw) (events_said (any_kind which) ew) (length old) → ((weighed_in which tw lw ew).refusal ≡ 0) × (a.place ≡ (weighed_in which tw lw ew).place) × (length old < (weighed_in which tw lw ew).place)
      go (refused n e) = absurd (not_eighteen which tw lw ew (sym (is e).0 ∙ z))
      go (short w l e) = (w, (is e).1, l)
      go (fits w l e) = absurd (omega (arith, (is e).0))

  -- and the other way round, with room
  roomy : (weighed_in which tw lw ew).refusal ≡ 0 → (weighed_in which tw lw ew).place ≤ length old → (a.refusal ≡ 0) × (a.place ≡ (weighed_in which tw lw ew).place)
  roomy z h = go way
    where
      go : Way (any_kind which) (core_in which) (tasks_said (any_kind which) tw) (links_said lw) (events_said (any_kind which) ew) (length old) → (a.refusal ≡ 0) × (a.place ≡ (weighed_in which tw lw ew).place)
      go (refused n e) = absurd (n z)
      go (short w l e) = absurd (omega arith)
      go (fits w l e) = ((is e).0 ∙ w, (is e).1)

  -- without room
  roomless : (weighed_in which tw lw ew).refusal ≡ 0 → length old < (weighed_in which tw lw ew).place → (a.refusal ≡ 18) × (a.place ≡ (weighed_in which tw lw ew).place)
  roomless z h = go way
    where
      go : Way (any_kind which) (core_in which) (tasks_said (any_kind which) tw) (links_said lw) (events_said (any_kind which) ew) (length old) → (a.refusal ≡ 18) × (a.place ≡ (weighed_in which tw lw ew).place)
      go (refused n e) = absurd (n z)
      go (short w l e) = is e
      go (fits w l e) = absurd (omega arith)

  module _ (z : (weighed_in which tw lw ew).refusal ≡ 0) where
    -- what is refused nothing is a recording
    fine : RecordingOf which tw lw ew (bytes which tw lw ew)
    fine =
        let kind = any_kind which in
        let policy = (any_kind which).policy in
        let f = whole_fine kind (core_in which) (tasks_said kind tw) (links_said lw) (events_said kind ew) z in
        let r = written_recorded kind (kind_numbers which) state_room policy (kind_counts which) (tasks_said kind tw) (links_said lw) (events_said kind ew) (defaults_said kind tw said.numbers.0) (starts_said lw said.numbers.1.0) (values_said kind ew said.numbers.1.1) (ticks_said kind ew said.numbers.1.1 (tick_bytes which)) z in
        record {
          tasks_whole = f.0;
          links_whole = f.1.0;
          events_whole = f.1.1.0;
          genuine = λ out l. core_genuine (recorded_genuine kind (kind_dates which) state_room (kind_room which) out (recorded_with_room kind state_room policy out (room_past (events_said kind ew).whole l) r));
        }

    -- and its place the length
    long : (weighed_in which tw lw ew).place ≡ length (bytes which tw lw ew)
    long = ap (λ (x : Verdict Saved). x.place) (whole_reply (any_kind which) (core_in which) (tasks_said (any_kind which) tw) (links_said lw) (events_said (any_kind which) ew) z)

  -- "On a refusal the buffer is untouched"
  pub refused_untouched : a.refusal ≢ 0 → new ≡ old
  refused_untouched n = said.buffer ∙ buffer_refused (any_kind which) (core_in which) (tasks_said (any_kind which) tw) (links_said lw) (events_said (any_kind which) ew) old (λ z. n (refusal_is ∙ z))

  module _ (z : a.refusal ≡ 0) where
    -- the buffer: the recording, and what stood after its place
    parts : new ≡ bytes which tw lw ew ++ drop a.place old
    parts = said.buffer ∙ buffer_written (any_kind which) (core_in which) (tasks_said (any_kind which) tw) (links_said lw) (events_said (any_kind which) ew) old (sym refusal_is ∙ z) ∙ rw place_is

    -- the place is the length of the recording
    ends : length (bytes which tw lw ew) ≡ a.place
    ends = sym ((accepted z).1 ∙ long (accepted z).0)

    -- which stands first
    first : take a.place new ≡ bytes which tw lw ew
    first = ap (take a.place) parts ∙ take_at (bytes which tw lw ew) (drop a.place old) a.place ends

    -- what is written is a recording that the reader accepts, of all that is handed over
    pub what_is_written_is_read : RecordingOf which tw lw ew (take a.place new)
    what_is_written_is_read = rw first (fine (accepted z).0)

    -- it has so many bytes
    pub written_length : length (take a.place new) ≡ a.place
    written_length = ap length first ∙ ends

    -- it ends inside the buffer
    pub written_within : a.place ≤ length old
    written_within = omega (arith, (accepted z).1, (accepted z).2)

    -- "no byte after it changes"
    pub rest_untouched : drop a.place new ≡ drop a.place old
    rest_untouched = ap (drop a.place) parts ∙ drop_at (bytes which tw lw ew) (drop a.place old) a.place ends

  -- 18: what is handed over is a recording, and the buffer is shorter; the place is its length
  pub short_buffer_lem : a.refusal ≡ 18 → (s : List ℕ) × RecordingOf which tw lw ew s × (a.place ≡ length s) × (length old < length s)
  short_buffer_lem z = let e = eighteen z in let l = long e.0 in (bytes which tw lw ew, fine e.0, e.1 ∙ l, omega (arith, e.2))

  module _ {s : List ℕ} (r : RecordingOf which tw lw ew s) where
    -- and 18 always then
    pub shorter_refused : length old < length s → (a.refusal ≡ 18) × (a.place ≡ length s)
    shorter_refused h = let w = recording_weighs r in let e = roomless w.0 (omega (arith, w.1)) in (e.0, e.1 ∙ w.1)

    -- with room it is written
    pub recording_written : length s ≤ length old → (a.refusal ≡ 0) × (a.place ≡ length s) × (take (length s) new ≡ s)
    recording_written h =
        let w = recording_weighs r in
        let e = roomy w.0 (omega (arith, w.1)) in
        let p = e.1 ∙ w.1 in
        (e.0, p, ap (λ (n : ℕ). take n new) (sym p) ∙ (recording_genuine (what_is_written_is_read e.0)).bytes ∙ sym (recording_genuine r).bytes)

  module _ (out : List ℕ) (b : InBytes (any_kind which) (tasks_said (any_kind which) tw) (links_said lw) (events_said (any_kind which) ew)) (room : reads (untimed (past [] (events_said (any_kind which) ew).whole)) ≤ length out) where
    -- where each number fits its bytes: the answer is the reader's to the bytes as written, with room for its numbers; only that a recording may find no
    -- room in the buffer
    pub as_the_reader : a ≡ written_of (held_to_room (length old) (recording (any_kind which) (core_of state_room (any_kind which).policy out) (bytes_as_written (any_kind which) tw lw ew)))
    unfolding writing
    as_the_reader =
        said.answer
        ∙ ap (λ (x : Verdict Saved). written_of (held_to_room (length old) x)) (whole_with_room (any_kind which) state_room (any_kind which).policy out (tasks_said (any_kind which) tw) (links_said lw) (events_said (any_kind which) ew) room)
        ∙ held_alone (length old) (recording_weighed (any_kind which) (core_of state_room (any_kind which).policy out) (tasks_said (any_kind which) tw) (links_said lw) (events_said (any_kind which) ew))
        ∙ ap (λ (x : Verdict Playing). written_of (held_to_room (length old) x)) (sym (numbers_as_read (any_kind which) (kind_bytes which) (core_of state_room (any_kind which).policy out) tw lw ew b))

    -- so a fault has the reader's number and place
    pub same_fault :
        let x = recording (any_kind which) (core_of state_room (any_kind which).policy out) (bytes_as_written (any_kind which) tw lw ew) in x.refusal ≢ 0 → (a.refusal ≡ x.refusal) × (a.place ≡ x.place)
    same_fault n =
        let x = recording (any_kind which) (core_of state_room (any_kind which).policy out) (bytes_as_written (any_kind which) tw lw ew) in
        let e : a ≡ written_of x = rw (ne_eqb x.refusal 0 n) at as_the_reader in
        (ap (λ (w : Written). w.refusal) e, ap (λ (w : Written). w.place) e)

-- the bytes as written say their kind
pub written_kind : (which : WhichKind) (tw lw ew : List ℕ) → which_in (bytes_as_written (any_kind which) tw lw ew) ≡ which
unfolding bytes_as_written
written_kind which tw lw ew = kind_said_lem which

-- what the reader accepts, handed over as the numbers of its tasks, links and events, is a recording that these say
pub genuine_recording : {which : WhichKind} {s out : List ℕ} {ds : List Task} {ls : List Link} {es : List (Timed ℕ)} → Genuine which s out ds ls es →
    RecordingOf which (task_words (any_kind which) ds) (link_words ls) (event_words (any_kind which) es) s
genuine_recording {which} {s} {out} {ds} {ls} {es} g =
    let kind = any_kind which in
    let policy = (any_kind which).policy in
    let r = recorded_by_state kind state_room policy out (genuine_recorded kind (kind_dates which) state_room (kind_room which) out (kind_counts which) (genuine_core g)) in
    let ts = tasks_said_lem (any_kind which) ds g.fits.0 in
    let ys = events_said_lem (any_kind which) es g.fits.1.1 in
    record {
      tasks_whole = ap (λ (h : Handed Task). h.ending) ts;
      links_whole = ap (λ (h : Handed Link). h.ending) (links_said_lem ls);
      events_whole = ap (λ (h : Handed (Timed ℕ)). h.ending) ys;
      genuine = rw (ts, links_said_lem ls, ys) (λ (o : List ℕ) (l : reads (untimed es) ≤ length o). core_genuine (recorded_genuine kind (kind_dates which) state_room (kind_room which) o (recorded_with_room kind state_room policy o (room_past es l) r)));
    }

-- so it is written again, byte for byte
pub accepted_written_again :
    {which : WhichKind} {s out old new : List ℕ} {ds : List Task} {ls : List Link} {es : List (Timed ℕ)} {a : Written} → Genuine which s out ds ls es →
    WritesAs which (task_words (any_kind which) ds) (link_words ls) (event_words (any_kind which) es) old a new → length s ≤ length old →
    (a.refusal ≡ 0) × (a.place ≡ length s) × (take (length s) new ≡ s)
accepted_written_again g said h = recording_written said (genuine_recording g) h
