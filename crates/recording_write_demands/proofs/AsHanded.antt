-- An event that is refused is refused as it is handed over: no number of it is cut to its field.
-- Assumes nothing.
use mathlib.Core.Path.{◌≡◌, sym, ap, ◌∙◌}
use mathlib.Core.Logic.{◌≢◌}
use mathlib.Core.Bool.{true, or-true}
use mathlib.Core.List.{List, [], ◌∷◌, ◌++◌}
use Prim.Native.Nat.{ℕ, ◌+◌, ◌^◌, ◌≤◌}
use native.Mathlib.Nat.{le_trans}
use native.Mathlib.Omega.{arith}
use borrow.Author.Tests.{eq-eqb, ne_eqb, le-leb}
use lib.Dec.{eqb, leb}
use lib.ListN.{length, length-append}
use lib.Pow.{pow_mono}
use Rattle.protocol.specs.Event.{Event, arrival}
use Rattle.protocol.specs.Table.{Table}
use Rattle.protocol.specs.History.{reads, past}
use Rattle.protocol.specs.Schedule.{judged}
use Rattle.protocol_deadlines.specs.Timed.{Timed, timed, untimed, judged_at}
use Rattle.protocol_state.specs.Records.{Task, ahead_of}
use Rattle.protocol_state.specs.Saved.{state_room}
use Rattle.protocol_state.specs.Fresh.{fresh_of}
use Rattle.byte_format.specs.Number.{bytes_of}
use Rattle.byte_format.specs.Format.{Format, encodes, encode_section}
use Rattle.byte_format.specs.Play.{verdict, finally, Allowed}
use Rattle.byte_format.specs.Handed.{Handed, handed, tally, weighed, weighed_section}
use Rattle.byte_format.proofs.Numbers.{length_bytes}
use Rattle.byte_format.proofs.Weighing.{section_allowed}
use Rattle.recording_format.specs.Link.{Link, links, and_link, link_fault}
use Rattle.recording_format.specs.Event.{events}
use Rattle.recording_format.specs.Task.{tasks}
use Rattle.recording_format.specs.declared.WhichKind.{WhichKind}
use Rattle.recording_format.specs.RecordingKind.{RecordingKind, any_kind, link_limit, event_limit}
use Rattle.recording_format.specs.Recording.{encode_recording, tasks_end, table_end, Core, state_after, Recorded}
use Rattle.recording_format.specs.Writing.{table_weighed, recording_weighed, writing}
use Rattle.recording_format.specs.Words.{tasks_said, links_said, events_said}
use Rattle.recording_format.proofs.AllKinds.{kind_room, kind_dates, tick_bytes}
use Rattle.recording_format.proofs.Words.{TicksFit, ticks_said}
use Rattle.recording_format.proofs.Onward.{in_order_lem}
use Rattle.recording_format.proofs.TaskRules.{Dates, fitting_policed}
use Rattle.recording_format.proofs.LinkRules.{recorded_judged}
use Rattle.recording_format.proofs.AsWritten.{tasks_weighed_lem}
use Rattle.recording_format.proofs.Sizes.{within_events}
use Rattle.recording_core.specs.Playing.{Playing, core_of, judged_in, alone}
use Rattle.recording_core.specs.Promise.{refused_by}
use Rattle.recording_core.proofs.Right.{Still, no_bytes, fits_still, refused_by_lem}
use Rattle.recording_core.proofs.Rooms.{whole_with_room}
use Rattle.recording_write.specs.declared.Written.{Written}
use Rattle.demands.specs.Station.{station}
use Rattle.demands.specs.Refusals.{Earns, EventBreaks, by_history}
use Rattle.demands.specs.Recordings.{recording_bytes, Genuine}
use Rattle.demands.proofs.Earned.{earns_one}
use Rattle.demands.proofs.Events.{judged_earned}
use Rattle.demands.proofs.Replays.{went}
use Rattle.demands.proofs.Genuine.{genuine_kept}
use Rattle.recording_write_demands.proofs.Demands.{WritesAs, room_past}

module _ {A S : Type 0} (F : Format A) (judge : S → A → ℕ) (step : S → A → S) where
  -- the first record that is refused decides, whatever stands after it
  weighed_stops :
      (ending : ℕ) (q : S) (xs : List A) (x : A) (ys : List A) (p : ℕ) → Allowed judge step q xs → judge (finally step q xs) x ≢ 0 →
      weighed F judge step ending q (xs ++ (x ∷ ys)) p ≡ verdict (judge (finally step q xs) x) (p + length (encodes F xs)) (finally step q xs)
  unfolding weighed Allowed encodes finally
  weighed_stops ending q [] x ys p a n = let z : p + 0 ≡ p = omega arith in rw (ne_eqb (judge q x) 0 n, z)
  weighed_stops ending q (y ∷ xs) x ys p a n =
      let i = weighed_stops ending (step q y) xs x ys (p + length (F.encode y)) a.1 n in
      let e : p + length (F.encode y) + length (encodes F xs) ≡ p + length (encodes F (y ∷ xs)) = omega (arith, length-append (F.encode y) (encodes F xs)) in
      rw (eq-eqb (judge q y) 0 a.0) (rw e at i)

-- where ticks have no bytes, no event that is handed over has one
said_still :
    (kind : RecordingKind) → Dates kind → (es : List (Timed ℕ)) (x : ℕ) (e : Event ℕ) (rest : List (Timed ℕ)) → TicksFit kind (es ++ (timed x e ∷ rest)) → Still kind.policy (timed x e ∷ [])
unfolding TicksFit Still
said_still kind dates [] x e rest f = (no_bytes kind dates x f.0, tt)
said_still kind dates (y ∷ es) x e rest f = said_still kind dates es x e rest f.1

module _ {S : Type 0} (kind : RecordingKind) (core : Core S) {s : List ℕ} {ds : List Task} {ls : List Link} {es : List (Timed ℕ)} (k : Recorded kind core s ds ls es) where
  -- an event that is refused after a recording, whatever stands after it: the place is where the recording ends
  whole_stops :
      (ending : ℕ) (x : Timed ℕ) (rest : List (Timed ℕ)) → event_limit kind (tally (handed (es ++ (x ∷ rest)) ending)) ≡ 0 → core.judge (state_after core ds ls es) x ≢ 0 →
      recording_weighed kind core (handed ds 0) (handed ls 0) (handed (es ++ (x ∷ rest)) ending)
      ≡ verdict (core.judge (state_after core ds ls es) x) (length (encode_recording kind ds ls es)) (state_after core ds ls es)
  unfolding recording_weighed table_weighed weighed_section
  whole_stops ending x rest few n =
      let t = encode_section (tasks kind) ds in
      let y = encode_section (links kind) ls in
      let z = encode_section (events kind) es in
      let e : table_end kind ds ls + kind.event_count_width + length (encodes (events kind) es) ≡ length (encode_recording kind ds ls es) =
      omega (
        arith,
        length-append t (y ++ z),
        length-append y z,
        length-append (bytes_of kind.event_count_width (length es)) (encodes (events kind) es),
        length_bytes kind.event_count_width (length es),
      ) in
      rw (
        tasks_weighed_lem kind ds k.tasked.few k.tasked.allowed,
        section_allowed (links kind) (link_limit kind) (link_fault (ahead_of ds) (length ds)) and_link [] [] ls (tasks_end kind ds) k.linked.few k.linked.allowed,
        in_order_lem [] ls,
        few,
        weighed_stops (events kind) core.judge core.step ending (core.start ds ls) es x rest (table_end kind ds ls + kind.event_count_width) k.played.allowed n,
        ne_eqb (core.judge (state_after core ds ls es) x) 0 n,
        e,
      )

module _
    {which : WhichKind} (es : List (Timed ℕ)) (x : ℕ) (e : Event ℕ) (rest : List (Timed ℕ)) {tw lw ew old new out : List ℕ} {a : Written} {ds : List Task} {ls : List Link} {r : ℕ}
    (said : WritesAs which tw lw ew old a new) (tasked : tasks_said (any_kind which) tw ≡ handed ds 0) (linked : links_said lw ≡ handed ls 0)
    (begun : (events_said (any_kind which) ew).whole ≡ es ++ (timed x e ∷ rest)) (few : tally (events_said (any_kind which) ew) ≤ (any_kind which).events)
    (g : Genuine which (recording_bytes which ds ls es) out ds ls es) (room : reads (untimed (events_said (any_kind which) ew).whole) ≤ length out)
    (earned : r ≡ judged_at (station ds ls) (past [] es) x e) (n : r ≢ 0) where
  -- the core by which the reader judges
  abbrev reader_core : Core Playing
  reader_core = core_of state_room (any_kind which).policy out

  kept : Recorded (any_kind which) reader_core (recording_bytes which ds ls es) ds ls es
  kept = genuine_kept g

  -- it refuses it so, by the table and the events before it
  refused : judged_in (state_after reader_core ds ls es) (timed x e) ≡ r
  unfolding fresh_of
  refused =
      let kind = any_kind which in
      let dates = kind_dates which in
      let still = said_still kind dates es x e rest (rw begun at (ticks_said kind ew said.numbers.1.1 (tick_bytes which))) in
      let w = went kind.policy out ds ls es (fitting_policed kind dates ds kept.tasked.fits) (fits_still kind dates es kept.played.fits)
      (recorded_judged kind dates state_room (kind_room which) reader_core (recording_bytes which ds ls es) ds ls es kept) kept.played.allowed in
      refused_by_lem w.right (timed x e) still ∙ ap (λ (T : Table ℕ). refused_by T out (past [] es) (timed x e)) w.own ∙ rw (← earned, ne_eqb r 0 n)

  -- what is judged of all that is handed over
  all_judged_lem :
      recording_weighed (any_kind which) reader_core (tasks_said (any_kind which) tw) (links_said lw) (events_said (any_kind which) ew)
      ≡ verdict r (length (recording_bytes which ds ls es)) (state_after reader_core ds ls es)
  all_judged_lem =
      let kind = any_kind which in
      let ending = (events_said (any_kind which) ew).ending in
      let limit : event_limit (any_kind which) (tally (handed (es ++ (timed x e ∷ rest)) ending)) ≡ 0 = rw (← begun) (within_events (any_kind which) (tally (events_said (any_kind which) ew)) few) in
      let stops = whole_stops kind reader_core kept ending (timed x e) rest limit (λ z. n (sym refused ∙ z)) in
      ap (λ (h : Handed Task). recording_weighed kind reader_core h (links_said lw) (events_said kind ew)) tasked
      ∙ ap (λ (h : Handed Link). recording_weighed kind reader_core (handed ds 0) h (events_said kind ew)) linked
      ∙ ap (λ (xs : List (Timed ℕ)). recording_weighed kind reader_core (handed ds 0) (handed ls 0) (handed xs ending)) begun
      ∙ stops
      ∙ ap (λ (k : ℕ). verdict k (length (recording_bytes which ds ls es)) (state_after reader_core ds ls es)) refused

  -- so the writer refuses it so, before it asks for room
  pub handed_so : (a.refusal ≡ r) × (a.place ≡ length (recording_bytes which ds ls es))
  unfolding writing
  handed_so =
      let kind = any_kind which in
      let whole = whole_with_room kind state_room kind.policy out (tasks_said kind tw) (links_said lw) (events_said kind ew) (room_past (events_said kind ew).whole room) ∙ ap alone all_judged_lem in
      let e : a ≡ record { refusal = r; place = length (recording_bytes which ds ls es) } = said.answer ∙ rw (whole, ne_eqb r 0 n) in
      (ap (λ (w : Written). w.refusal) e, ap (λ (w : Written). w.place) e)

-- what an event earns is what it is judged
pub earned_judged :
    (T : Table ℕ) (H : List (Timed ℕ)) (x : ℕ) (e : Event ℕ) {r : ℕ} → Earns (EventBreaks T (by_history T H) x e) r → r ≡ judged_at T H x e
earned_judged T H x e i = earns_one i (judged_earned T H x e)

-- a set that reaches past the tasks of the kind is 12, whatever its tick
pub beyond_judged :
    (which : WhichKind) (ds : List Task) (ls : List Link) (H : List (Timed ℕ)) (x : ℕ) {m : ℕ} → length ds ≤ (any_kind which).tasks → 2 ^ (any_kind which).tasks ≤ m →
    12 ≡ judged_at (station ds ls) H x (arrival m)
unfolding judged judged_at
beyond_judged which ds ls H x {m} few reach =
    let past : leb (2 ^ length ds) m ≡ true = le-leb (2 ^ length ds) m (le_trans (pow_mono few) reach) in
    rw (past, or-true (eqb m 0))
