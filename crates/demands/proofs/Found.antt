-- What the reader finds after a table and events that could happen, in words and as its definition has it.
-- Assumes nothing.
use mathlib.Core.Path.{◌≡◌, refl, sym, ap, subst, ◌∙◌}
use mathlib.Core.Logic.{◌≢◌}
use mathlib.Core.List.{List, [], ◌++◌}
use Prim.Native.Nat.{ℕ, ◌+◌, ◌<◌}
use native.Mathlib.Omega.{arith}
use lib.ListN.{length}
use Rattle.protocol_deadlines.specs.Timed.{Timed, timed}
use Rattle.protocol.specs.Table.{Table}
use Rattle.protocol.specs.History.{past}
use Rattle.protocol_state.specs.Saved.{state_room}
use Rattle.protocol_state.specs.Records.{Task}
use Rattle.protocol_state.specs.Fresh.{fresh_of}
use Rattle.byte_format.specs.Number.{bytes_of}
use Rattle.byte_format.specs.Stands.{Stands}
use Rattle.byte_format.specs.Format.{Got, got, stop, encodes, encode_section}
use Rattle.byte_format.specs.Play.{verdict, refusal_of, Allowed}
use Rattle.byte_format.specs.Section.{Faulty}
use Rattle.byte_format.proofs.Standing.{stands_join, stands_first, stands_left}
use Rattle.byte_format.proofs.Kinded as kinded
use Rattle.recording_format.specs.Task.{tasks}
use Rattle.recording_format.specs.Link.{Link, links}
use Rattle.recording_format.specs.Event.{event_kinds, events, event_at, size_of}
use Rattle.recording_format.specs.RecordingKind.{any_kind, kind_in, event_limit}
use Rattle.recording_format.specs.declared.WhichKind.{WhichKind}
use Rattle.recording_format.specs.Recording.{encode_first, encode_recording, task_place, tasks_end, table_end, state_after}
use Rattle.recording_format.specs.Outcome.{TableTo, RecordingOutcome, event_record, extra_bytes, accepted}
use Rattle.recording_format.proofs.AllKinds.{kind_room, kind_counts, kind_dates, kind_begun}
use Rattle.recording_format.proofs.Sizes.{within_events, events_fit}
use Rattle.recording_format.proofs.TaskRules.{fitting_policed}
use Rattle.recording_format.proofs.LinkRules.{recorded_judged}
use Rattle.recording_format.proofs.EventKinds.{byte_of, events_told, kind_unknown}
use Rattle.recording_format.proofs.EventRecords.{events_lawful}
use Rattle.recording_core.specs.Playing.{core_of, judged_in, stepped_in}
use Rattle.recording_core.specs.Promise.{refused_by}
use Rattle.recording_core.proofs.Right.{fits_still, refused_by_lem, read_still}
use Rattle.demands.specs.Station.{station}
use Rattle.demands.specs.Recordings.{Genuine, EventsBegun, Ending, no_kind, unknown_kind, cut_event, bad_event}
use Rattle.demands.specs.Recordings as recordings
use Rattle.demands.proofs.Earned.{earns_one}
use Rattle.demands.proofs.Events.{record_earned}
use Rattle.demands.proofs.Replays.{Went, went}
use Rattle.demands.proofs.Genuine.{genuine_kept}
use Rattle.demands.proofs.TableFaults.{begun_table}
use Rattle.demands.proofs.Explained.{kind_known, known_kind}

-- ---- the table and the events es stand at the beginning of the bytes s, and the events could happen
module _ {which : WhichKind} {s out : List ℕ} {ds : List Task} {ls : List Link} {es : List (Timed ℕ)} {E p : ℕ} (b : EventsBegun which s ds ls E es p) (alone : Genuine which (encode_recording (any_kind which) ds ls es) out ds ls es) where
  from_tasks : Stands s task_place (encode_section (tasks (any_kind which)) ds ++ (encode_section (links (any_kind which)) ls ++ (bytes_of (any_kind which).event_count_width E ++ encodes (events (any_kind which)) es))) p
  from_tasks = stands_left (encode_first (any_kind which)) _ b.bytes

  from_links : Stands s (tasks_end (any_kind which) ds) (encode_section (links (any_kind which)) ls ++ (bytes_of (any_kind which).event_count_width E ++ encodes (events (any_kind which)) es)) p
  from_links = stands_left (encode_section (tasks (any_kind which)) ds) _ from_tasks

  from_events : Stands s (table_end (any_kind which) ds ls) (bytes_of (any_kind which).event_count_width E ++ encodes (events (any_kind which)) es) p
  from_events = stands_left (encode_section (links (any_kind which)) ls) _ from_links

  table_there : TableTo (any_kind which) s ds ls (table_end (any_kind which) ds ls)
  table_there = begun_table which s (record {
    few_tasks = b.few_tasks;
    few = b.few_links;
    keeps = b.keeps;
    fits = (b.fits.0, b.fits.1.0);
    bytes = stands_join (stands_first (encode_first (any_kind which)) _ b.bytes)
        (stands_join (stands_first (encode_section (tasks (any_kind which)) ds) _ from_tasks) (stands_first (encode_section (links (any_kind which)) ls) _ from_links));
  })

  allowed_there : Allowed judged_in stepped_in ((core_of state_room (any_kind which).policy out).start ds ls) es
  allowed_there = (genuine_kept alone).played.allowed

  pub went_there : Went (any_kind which).policy out ds ls es (state_after (core_of state_room (any_kind which).policy out) ds ls es)
  went_there =
      went (any_kind which).policy out ds ls es (fitting_policed (any_kind which) (kind_dates which) ds b.fits.0) (fits_still (any_kind which) (kind_dates which) es b.fits.1.1)
      (recorded_judged (any_kind which) (kind_dates which) state_room (kind_room which) (core_of state_room (any_kind which).policy out) (encode_recording (any_kind which) ds ls es) ds ls es (genuine_kept alone))
      allowed_there

  -- what the reader finds at the place
  faulty : (r : ℕ) → length es < E → r ≡ refusal_of (event_at (any_kind which) s p) (judged_in (state_after (core_of state_room (any_kind which).policy out) ds ls es))
      → Faulty (events (any_kind which)) (event_limit (any_kind which)) judged_in stepped_in s ((core_of state_room (any_kind which).policy out).start ds ls) (table_end (any_kind which) ds ls) es r p
  faulty r more e =
      let few = within_events (any_kind which) (E) b.few in
      record {
        total = E;
        counted = events_fit (any_kind which) (E) (kind_counts which) few;
        few = few;
        first = (table_end (any_kind which) ds ls) + length (bytes_of (any_kind which).event_count_width (E));
        count = stands_first (bytes_of (any_kind which).event_count_width (E)) _ from_events;
        played = record { fits = b.fits.1.1; allowed = allowed_there; bytes = stands_left (bytes_of (any_kind which).event_count_width (E)) _ from_events };
        more = more;
        fault = e;
      }

  -- a record that stops the reader
  stops : (r : ℕ) → length es < E → r ≢ 0 → event_at (any_kind which) s p ≡ stop r
      → RecordingOutcome (any_kind which) (core_of state_room (any_kind which).policy out) s (verdict r p (state_after (core_of state_room (any_kind which).policy out) ds ls es))
  stops r more n i =
      event_record ds ls (table_end (any_kind which) ds ls) es r p n table_there
      (faulty r more (sym (ap (λ (y : Got (Timed ℕ)). refusal_of y (judged_in (state_after (core_of state_room (any_kind which).policy out) ds ls es))) i))) refl

  found_so : {r : ℕ} → Ending which (station ds ls) s out (E) es p r
      → RecordingOutcome (any_kind which) (core_of state_room (any_kind which).policy out) s (verdict r p (state_after (core_of state_room (any_kind which).policy out) ds ls es))
  unfolding fresh_of
  found_so (recordings.whole e i) =
      accepted ds ls (table_end (any_kind which) ds ls) es table_there
      (record { kept = (genuine_kept alone).played; bytes = rw (← i) (subst (λ (n : ℕ). Stands s (table_end (any_kind which) ds ls) (bytes_of (any_kind which).event_count_width n ++ encodes (events (any_kind which)) es) p) (sym e) from_events) })
      refl (ap (λ (k : ℕ). verdict 0 k (state_after (core_of state_room (any_kind which).policy out) ds ls es)) i)
  found_so (recordings.extra e h) =
      extra_bytes ds ls (table_end (any_kind which) ds ls) es p table_there
      (record { kept = (genuine_kept alone).played; bytes = subst (λ (n : ℕ). Stands s (table_end (any_kind which) ds ls) (bytes_of (any_kind which).event_count_width n ++ encodes (events (any_kind which)) es) p) (sym e) from_events }) h refl
  found_so (no_kind more i) = stops 1 more (λ z. omega arith) (kinded.kind_missing (event_kinds (any_kind which)) byte_of (events_told (any_kind which)) s p (omega arith))
  found_so (unknown_kind more h u) =
      stops 11 more (λ z. omega arith)
      (kinded.kind_unknown (event_kinds (any_kind which)) byte_of (events_told (any_kind which)) s p h (kind_unknown _ (λ k e. u (size_of (any_kind which) k) (kind_known k e))))
  found_so (cut_event more h n k l) =
      let w = known_kind k in
      stops 1 more (λ z. omega arith) (kinded.rest_missing (event_kinds (any_kind which)) byte_of (events_told (any_kind which)) s p w.0 h w.1 (omega (arith, w.2)))
  found_so (bad_event {r} more tick event q x f g n) =
      let e : Timed ℕ = timed tick event in
      let i : event_at (any_kind which) s p ≡ got e q = (events_lawful (any_kind which)).reads s p e q f x in
      let j : judged_in (state_after (core_of state_room (any_kind which).policy out) ds ls es) e ≡ refused_by (station ds ls) out (past [] es) e =
      refused_by_lem went_there.right e (read_still (any_kind which) (kind_dates which) s p e q i) ∙ ap (λ (T : Table ℕ). refused_by T out (past [] es) e) went_there.own in
      event_record ds ls (table_end (any_kind which) ds ls) es r p n table_there
      (faulty r more
      (earns_one g (record_earned (station ds ls) (past [] es) out tick event) ∙ sym j
      ∙ sym (ap (λ (y : Got (Timed ℕ)). refusal_of y (judged_in (state_after (core_of state_room (any_kind which).policy out) ds ls es))) i))) refl

  -- by the kind that the bytes say
  pub found : {r : ℕ} → Ending which (station ds ls) s out E es p r
      → RecordingOutcome (kind_in s) (core_of state_room (kind_in s).policy out) s (verdict r p (state_after (core_of state_room (any_kind which).policy out) ds ls es))
  found {r} x =
      subst (λ (w : WhichKind). RecordingOutcome (any_kind w) (core_of state_room (any_kind w).policy out) s (verdict r p (state_after (core_of state_room (any_kind which).policy out) ds ls es)))
      (sym (kind_begun which s (stands_first (encode_first (any_kind which)) _ b.bytes))) (found_so x)
