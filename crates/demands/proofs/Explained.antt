-- Every answer of the replay is explained by the bytes: by the first fault, or by there being none.
-- Assumes nothing.
use mathlib.Core.Path.{◌≡◌, refl, sym, ap, subst, ◌∙◌}
use mathlib.Core.Logic.{◌≢◌, inl, inr}
use mathlib.Core.Bool.{false}
use mathlib.Core.List.{List, [], ◌∷◌}
use Prim.Native.Nat.{ℕ, ◌+◌, ◌≤◌}
use native.Mathlib.Omega.{arith}
use lib.ListN.{length}
use Rattle.protocol.specs.Event.{Event}
use Rattle.protocol_deadlines.specs.Timed.{Timed, timed, untimed}
use Rattle.protocol.specs.Table.{Table}
use Rattle.protocol.specs.History.{counts, past}
use Rattle.protocol.specs.Instant.{upward}
use Rattle.protocol_state.specs.Saved.{state_room}
use Rattle.protocol_state.specs.Fresh as fresh
use Rattle.protocol_state.proofs.Rules.{no_refusal}
use Rattle.protocol_state.specs.Records.{Task, no_task, ahead_of, link_of, first_tasks, first_links}
use Rattle.protocol_state.specs.Fresh.{then_dates}
use Rattle.byte_format.specs.Number.{number_at}
use Rattle.byte_format.specs.Stands.{Stands}
use Rattle.byte_format.specs.Format.{Got, stop, FitEach, encode_begun}
use Rattle.byte_format.specs.Play.{Verdict, verdict, refusal_of, Allowed}
use Rattle.byte_format.specs.Section.{Faulty}
use Rattle.byte_format.proofs.Standing.{stands_join}
use Rattle.byte_format.proofs.Kinded.{Case, missing, strange, short, whole}
use Rattle.byte_format.proofs.Kinded as kinded
use Rattle.recording_format.specs.Link.{Link}
use Rattle.recording_format.specs.Event as format
use Rattle.recording_format.specs.Event.{Kind, event_kinds, events, event_at, size_of}
use Rattle.recording_format.specs.RecordingKind.{any_kind, kind_in, which_in, event_limit}
use Rattle.recording_format.specs.declared.WhichKind.{WhichKind}
use Rattle.recording_format.specs.Recording.{state_after}
use Rattle.recording_format.specs.Outcome.{TableTo, RecordingOutcome, first_byte, task_count, task_record, link_count, link_record, event_count, event_record, extra_bytes, last_fault, accepted}
use Rattle.recording_format.proofs.AllKinds.{kind_room, kind_dates}
use Rattle.recording_format.proofs.Sizes.{events_within}
use Rattle.recording_format.proofs.TaskRules.{fitting_policed}
use Rattle.recording_format.proofs.EventKinds.{byte_of, events_told}
use Rattle.recording_format.proofs.EventRecords.{events_lawful}
use Rattle.recording_core.specs.Playing.{Playing, core_of, judged_in, stepped_in}
use Rattle.recording_core.specs.Promise.{refused_by, table_of}
use Rattle.recording_core.proofs.Right.{fits_still}
use Rattle.recording_core.proofs.Promises.{event_refused}
use Rattle.mailbox.specs.States.{saved, IsWhole}
use Rattle.mailbox.specs.declared.State.{State}
use Rattle.recording.specs.Answers.{replied}
use Rattle.recording.specs.declared.Answer.{Answer}
use Rattle.recording_demands.specs.Ensured.{Replays}
use Rattle.recording_demands.proofs.Demands.{answered}
use Rattle.demands.specs.Station.{station}
use Rattle.demands.specs.Calls.{Makes}
use Rattle.demands.specs.Refusals.{Earns, RecordBreaks}
use Rattle.demands.specs.Recordings.{EventsBegun, TableFault, AtTable, KindOf, an_arrival, a_start, a_read, a_finish, Ending, no_kind, unknown_kind, cut_event, bad_event, AtEvents, Explained}
use Rattle.demands.specs.Recordings as recordings
use Rattle.demands.proofs.Orders.{untimed_past}
use Rattle.demands.proofs.Events.{record_earned}
use Rattle.demands.proofs.Replays.{made_ok, Went, went}
use Rattle.demands.proofs.Genuine.{calls_there, listed_there}
use Rattle.demands.proofs.TableFaults.{allowed_fine, table_begun, first_fault_lem, task_count_fault, task_fault_lem, link_count_fault, link_fault_lem, event_count_fault}

-- the kinds of events, in words and as the reader knows them
pub kind_known : {which : WhichKind} (k : Kind) {b : ℕ} → b ≡ byte_of k → KindOf which b (size_of (any_kind which) k)
kind_known format.an_arrival e = rw e an_arrival
kind_known format.a_start e = rw e a_start
kind_known format.a_read e = rw e a_read
kind_known format.a_finish e = rw e a_finish

pub known_kind : {which : WhichKind} {b n : ℕ} → KindOf which b n → (k : Kind) × (b ≡ byte_of k) × (n ≡ size_of (any_kind which) k)
known_kind an_arrival = (format.an_arrival, refl, refl)
known_kind a_start = (format.a_start, refl, refl)
known_kind a_read = (format.a_read, refl, refl)
known_kind a_finish = (format.a_finish, refl, refl)

-- the single task's state is what its table makes
pub single_made : fresh.made state_room 0 (first_tasks 1 (0 ∷ []) []) (first_links 0 [] [] [] []) ≡ record { refusal = 0; state = fresh.single state_room }
unfolding upward
single_made =
    made_ok 0 (no_task ∷ []) []
    (ap (λ (r : ℕ). then_dates r false) (no_refusal (ahead_of (no_task ∷ [])) 1 (link_of []) state_room 0 (omega arith) (omega arith) (omega arith) (λ l h. absurd (omega arith))))

-- so whatever holds it is
pub single_held : (q : State) → saved q ≡ fresh.single state_room → IsWhole q → Makes 0 1 0 (0 ∷ []) [] [] [] [] [] (record { refusal = 0; state = q })
single_held q e w = record { answer = (λ i. record { refusal = 0; state = e i }) ∙ sym single_made; whole = w }

module _ {s out list : List ℕ} {a : Answer} (said : Replays s out a list) where
  -- refused in the table
  at_table : {r p : ℕ} → replied a list ≡ verdict r p (core_of state_room (kind_in s).policy out).single → TableFault s r p → AtTable s out a list
  at_table e f = record {
    fault = rw (ap (λ (x : Verdict Playing). x.refusal) e, ap (λ (x : Verdict Playing). x.place) e) f;
    state = single_held a.state (ap (λ (x : Verdict Playing). x.state.state) e) said.whole;
    counted = ap (λ (x : Verdict Playing). x.state.counts) e;
    listed = ap (λ (x : Verdict Playing). x.state.list) e;
  }

  -- an answer with the state that some events came to: all but what lies at its place
  module _ {r p : ℕ} {ds : List Task} {ls : List Link} {es : List (Timed ℕ)} (e : replied a list ≡ verdict r p (state_after (core_of state_room (kind_in s).policy out) ds ls es))
      (w : Went (kind_in s).policy out ds ls es (state_after (core_of state_room (kind_in s).policy out) ds ls es)) (E : ℕ) (b : EventsBegun (which_in s) s ds ls E es p) (t : Ending (which_in s) (station ds ls) s out E es p r) where
    at_events : AtEvents s out a list
    unfolding untimed
    at_events = record {
      which = which_in s;
      ds = ds;
      ls = ls;
      es = es;
      ns = w.ns;
      total = E;
      begun = rw (ap (λ (x : Verdict Playing). x.place) e) b;
      calls = calls_there said e w;
      counted = ap (λ (x : Verdict Playing). x.state.counts) e ∙ w.right.counts ∙ (λ i. counts (w.own i) (untimed_past [] es i));
      listed = listed_there said e w;
      ending = rw (ap (λ (x : Verdict Playing). x.place) e, ap (λ (x : Verdict Playing). x.refusal) e) t;
    }

  -- a record that is not there, or is refused by the table and the events before it
  record_fault : {ds : List Task} {ls : List Link} {m : ℕ} {es : List (Timed ℕ)} {r p : ℕ} (t : TableTo (kind_in s) s ds ls m)
      (f : Faulty (events (kind_in s)) (event_limit (kind_in s)) judged_in stepped_in s ((core_of state_room (kind_in s).policy out).start ds ls) m es r p)
      → table_of state_room (kind_in s).policy ds ls ≡ station ds ls → r ≢ 0 → Ending (which_in s) (station ds ls) s out f.total es p r
  record_fault {ds} {ls} {m} {es} {r} {p} t f same n = go (kinded.which (event_kinds (kind_in s)) byte_of (events_told (kind_in s)) s p)
    where
      stopped : {k : ℕ} → event_at (kind_in s) s p ≡ stop k → k ≡ r
      stopped i = sym (f.fault ∙ ap (λ (y : Got (Timed ℕ)). refusal_of y (judged_in (state_after (core_of state_room (kind_in s).policy out) ds ls es))) i)

      given : {k : ℕ} → k ≡ r → Ending (which_in s) (station ds ls) s out f.total es p k → Ending (which_in s) (station ds ls) s out f.total es p r
      given e x = subst (λ (k : ℕ). Ending (which_in s) (station ds ls) s out f.total es p k) e x

      go : Case (event_kinds (kind_in s)) byte_of (events_told (kind_in s)) s p → Ending (which_in s) (station ds ls) s out f.total es p r
      go (missing h i) = given (stopped i) (no_kind f.more (omega (arith, f.played.bytes.within)))
      go (strange h u i) = given (stopped i) (unknown_kind f.more h (λ k x. let w = known_kind x in u w.0 w.1))
      go (short k h e l i) = given (stopped i) (cut_event f.more h (size_of (kind_in s) k) (kind_known k e) l)
      go (whole k e l i) =
          let x : ℕ = number_at (kind_in s).tick_width s (p + 1) in
          let y : Event ℕ = format.fields_at (kind_in s) k s p in
          let w = (events_lawful (kind_in s)).tells s p (timed x y) (p + size_of (kind_in s) k) said.bytes f.played.bytes.within i in
          bad_event f.more x y (p + size_of (kind_in s) k) w.1 w.0
          (subst (λ (j : ℕ). Earns (RecordBreaks (station ds ls) out (past [] es) x y) j)
          (sym
          (event_refused (kind_in s) (kind_dates (which_in s)) state_room (kind_room (which_in s)) out t f i
          ∙ ap (λ (T : Table ℕ). refused_by T out (past [] es) (timed x y)) same))
          (record_earned (station ds ls) (past [] es) out x y)) n

  -- the events that are accepted after a table
  goes :
      {ds : List Task} {ls : List Link} {m : ℕ} → TableTo (kind_in s) s ds ls m → (es : List (Timed ℕ)) → FitEach (events (kind_in s)) es →
      Allowed judged_in stepped_in ((core_of state_room (kind_in s).policy out).start ds ls) es →
      Went (kind_in s).policy out ds ls es (state_after (core_of state_room (kind_in s).policy out) ds ls es)
  goes {ds} {ls} t es fits a =
      let tasked = t.tasked.whole.kept in
      went (kind_in s).policy out ds ls es (fitting_policed (kind_in s) (kind_dates (which_in s)) ds tasked.fits) (fits_still (kind_in s) (kind_dates (which_in s)) es fits)
      (allowed_fine (which_in s) ds ls tasked.few tasked.allowed t.linked.kept.few t.linked.kept.allowed) a

  -- the table and the first events stand there
  events_begun : {ds : List Task} {ls : List Link} {m : ℕ} → TableTo (kind_in s) s ds ls m → (es : List (Timed ℕ)) (E p : ℕ) → E ≤ (kind_in s).events → FitEach (events (kind_in s)) es
      → Stands s m (encode_begun (events (kind_in s)) E es) p → EventsBegun (which_in s) s ds ls E es p
  events_begun t es E p few fits b =
      let k = table_begun (which_in s) s t in
      record { few_tasks = k.few_tasks; few_links = k.few; few = few; keeps = k.keeps; fits = (k.fits.0, (k.fits.1, fits)); bytes = stands_join t.tasked.first (stands_join t.tasked.whole.bytes (stands_join t.linked.bytes b)) }

  pub every_answer : Explained s out a list
  every_answer = go (answered said)
    where
      go : RecordingOutcome (kind_in s) (core_of state_room (kind_in s).policy out) s (replied a list) → Explained s out a list
      go (first_byte r n u e) = inl (at_table e (first_fault_lem s u))
      go (task_count r n x u e) = inl (at_table e (task_count_fault (which_in s) s x u))
      go (task_record ds r p n x f e) = inl (at_table e (task_fault_lem (which_in s) s n said.bytes x f))
      go (link_count ds r p n t u e) = inl (at_table e (link_count_fault (which_in s) s t u))
      go (link_record ds m ls r p n t f e) = inl (at_table e (link_fault_lem (which_in s) s n t f))
      go (event_count ds ls r p n t u e) = inl (at_table e (event_count_fault (which_in s) s t u))
      go (event_record ds ls m es r p n t f e) =
          let w = goes t es f.played.fits f.played.allowed in
          inr (at_events e w f.total (events_begun t es f.total p (events_within (kind_in s) f.total f.few) f.played.fits (stands_join f.count f.played.bytes))
          (record_fault t f w.same n))
      go (extra_bytes ds ls m es p t k h e) =
          let w = goes t es k.kept.fits k.kept.allowed in
          inr (at_events e w (length es) (events_begun t es (length es) p (events_within (kind_in s) (length es) k.kept.few) k.kept.fits k.bytes) (recordings.extra refl (omega arith)))
      go (last_fault ds ls m es t k n e) = absurd (n refl)
      go (accepted ds ls m es t k z e) =
          let w = goes t es k.kept.fits k.kept.allowed in
          inr (at_events e w (length es) (events_begun t es (length es) (length s) (events_within (kind_in s) (length es) k.kept.few) k.kept.fits k.bytes) (recordings.whole refl refl))
