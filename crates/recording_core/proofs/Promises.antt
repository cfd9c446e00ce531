-- Demand 2 for a whole recording: accepted exactly when there are a table, links and events whose encoding the bytes are, within every limit, every link rule kept,
-- every event possible in its turn by history alone, and no more reads than the list has room.
-- Assumes nothing.
use mathlib.Core.Path.{◌≡◌, refl, sym, ap, subst, ◌∙◌}
use mathlib.Core.Bool.{Bool, false}
use mathlib.Core.List.{List, []}
use Prim.Native.Nat.{ℕ, ◌≤◌, ◌<◌}
use native.Mathlib.Omega.{arith}
use lib.ListN.{length, take}
use Rattle.protocol.specs.Table.{Table}
use Rattle.protocol_deadlines.specs.Timed.{Timed, AllPossibleAt}
use Rattle.protocol_state.specs.Records.{Task, link_of, ahead_of}
use Rattle.protocol_state.specs.Saved.{Size, ahead_in, table}
use Rattle.protocol_state.specs.Fresh.{undated, fresh_of, judged_lists}
use Rattle.protocol_state.proofs.Rules.{obeys, no_fault}
use Rattle.protocol_state.proofs.Freshes.{dated_each, each_dated}
use Rattle.byte_format.specs.Number.{Bytes}
use Rattle.byte_format.specs.Format.{got, FitEach}
use Rattle.byte_format.specs.Play.{Verdict, verdict, Allowed, Cut}
use Rattle.recording_format.specs.Link.{Link}
use Rattle.byte_format.specs.Section.{Faulty}
use Rattle.recording_format.specs.Event.{event_at, events}
use Rattle.recording_format.specs.RecordingKind.{RecordingKind, InRoom, CountsFit, event_limit}
use Rattle.recording_format.specs.Recording.{encode_recording, recording, through_e, state_after, Recorded}
use Rattle.recording_format.specs.Outcome.{TableTo}
use Rattle.recording_format.proofs.Sizes.{tasks_within, within_tasks, links_within, within_links, events_within, within_events, tasks_fit, links_fit, events_fit}
use Rattle.recording_format.proofs.LinkRules.{allowed_no_fault, no_fault_allowed, allowed_judged, recorded_judged}
use Rattle.recording_format.proofs.Recordings.{accepted_recorded, recorded_accepted}
use Rattle.recording_format.proofs.Cuts.{recorded_cut}
use Rattle.recording_format.proofs.WholeRecords.{cut_as_whole}
use Rattle.recording_format.specs.Task.{tasks}
use Rattle.recording_format.proofs.TaskRules.{Dates, allowed_dated, dated_allowed, fitting_policed}
use Rattle.recording_core.specs.Playing.{Playing, core_of, judged_in, stepped_in}
use Rattle.recording_core.specs.Promise.{refused_by, table_of, CoreGenuine}
use Rattle.protocol.specs.History.{past}
use Rattle.recording_core.specs.Right.{Right}
use Rattle.recording_core.proofs.Right.{Still, fits_still, read_still, refused_by_lem, own_ahead, right_fresh, right_finally, happens_allowed}

-- a table that earns no refusal
abbrev Fine : Size → ℕ → List Task → List Link → Type 0
Fine size p ds ls = judged_lists size p ds ls ≡ 0

module _ (kind : RecordingKind) (dates : Dates kind) (size : Size) (held : InRoom kind size) (out : List ℕ) where
  -- under fixed priorities events that fit their bytes have no tick
  still : (es : List (Timed ℕ)) → FitEach (events kind) es → Still kind.policy es
  still = fits_still kind dates

  -- a table whose links earn no refusal begins right
  begins : (ds : List Task) (ls : List Link) → FitEach (tasks kind) ds → Fine size kind.policy ds ls
      → Right size (fresh_of size kind.policy ds ls) out [] ((core_of size kind.policy out).start ds ls)
  begins ds ls f ok = right_fresh size kind.policy ds ls ok (fitting_policed kind dates ds f) out

  -- and events that are accepted leave it right
  goes_on_lem : (ds : List Task) (ls : List Link) (es : List (Timed ℕ)) → FitEach (tasks kind) ds → FitEach (events kind) es → Fine size kind.policy ds ls
      → Allowed judged_in stepped_in ((core_of size kind.policy out).start ds ls) es
      → Right size (fresh_of size kind.policy ds ls) out (past [] es) (state_after (core_of size kind.policy out) ds ls es)
  unfolding fresh_of
  goes_on_lem ds ls es f g ok a = right_finally es (fits_still kind dates es g) (begins ds ls f ok) a

  -- the table that the promises speak of is the fresh state's
  own_table_lem : (ds : List Task) (ls : List Link) → Fine size kind.policy ds ls
      → table (ahead_in (fresh_of size kind.policy ds ls)) (fresh_of size kind.policy ds ls) ≡ table_of size kind.policy ds ls
  own_table_lem ds ls ok = ap (λ (ahead : ℕ → ℕ → Bool). table ahead (fresh_of size kind.policy ds ls)) (own_ahead size kind.policy ds ls ok)

  module _ {s : List ℕ} {ds : List Task} {ls : List Link} {es : List (Timed ℕ)} where
    -- what the reader accepts as a recording is one by the document's words
    pub recorded_genuine : Recorded kind (core_of size kind.policy out) s ds ls es → CoreGenuine kind size s out ds ls es
    recorded_genuine r =
        let ok : Fine size kind.policy ds ls = recorded_judged kind dates size held (core_of size kind.policy out) s ds ls es r in
        let R = goes_on_lem ds ls es r.tasked.fits r.played.fits ok r.played.allowed in
        record {
          bytes = r.bytes;
          fits = (r.tasked.fits, (r.linked.fits, r.played.fits));
          few_tasks = tasks_within kind (length ds) r.tasked.few;
          few_links = links_within kind (length ls) r.linked.few;
          few_events = events_within kind (length es) r.played.few;
          dates = λ one t l. dated_each kind.policy ds (allowed_dated kind dates ds r.tasked.allowed) one t l;
          rules = λ l k. obeys (ahead_of ds) (length ds) (link_of ls) l (allowed_no_fault (ahead_of ds) (length ds) ls r.linked.allowed l k);
          happens = subst (λ (T : Table ℕ). AllPossibleAt T (past [] es)) (own_table_lem ds ls ok) R.reached.possible;
          room = omega (arith, R.room);
        }

  -- demand 2: accepted only if genuine
  pub accepted_genuine : (s : List ℕ) → Bytes s → (recording kind (core_of size kind.policy out) s).refusal ≡ 0
      → (ds : List Task) × ((ls : List Link) × ((es : List (Timed ℕ)) × CoreGenuine kind size s out ds ls es))
  accepted_genuine s b z =
      let r = accepted_recorded kind (core_of size kind.policy out) s b z in
      (r.0, (r.1.0, (r.1.1.0, recorded_genuine r.1.1.1.0)))

  -- and the other way round, where each limit fits the bytes of its count
  module _ (counts : CountsFit kind) {s : List ℕ} {ds : List Task} {ls : List Link} {es : List (Timed ℕ)} (g : CoreGenuine kind size s out ds ls es) where
    pub genuine_recorded : Recorded kind (core_of size kind.policy out) s ds ls es
    unfolding fresh_of
    genuine_recorded =
        let t = within_tasks kind (length ds) g.few_tasks.0 g.few_tasks.1 in
        let k = within_links kind (length ls) g.few_links in
        let v = within_events kind (length es) g.few_events in
        let a = no_fault_allowed (ahead_of ds) (length ds) ls (λ l h. no_fault (ahead_of ds) (length ds) (link_of ls) l (g.rules l h)) in
        let none : undated kind.policy ds ≡ false = each_dated kind.policy ds dates.either g.dates in
        let ok : Fine size kind.policy ds ls = rw (allowed_judged (ahead_of ds) (length ds) kind size held ls t k a, none) in
        let happens = subst (λ (T : Table ℕ). AllPossibleAt T (past [] es)) (sym (own_table_lem ds ls ok)) g.happens in
        record {
          bytes = g.bytes;
          tasked = record { counted = tasks_fit kind (length ds) counts t; few = t; fits = g.fits.0; allowed = dated_allowed kind dates [] ds g.fits.0 none };
          linked = record { counted = links_fit kind (length ls) counts k; few = k; fits = g.fits.1.0; allowed = a };
          played = record { counted = events_fit kind (length es) counts v; few = v; fits = g.fits.1.1; allowed = happens_allowed es (still es g.fits.1.1) (begins ds ls g.fits.0 ok) happens g.room };
        }

    -- demand 2: always accepted if genuine; the place is the length, and the state, the counts and the list are those of its events
    pub genuine_accepted : (q : Playing) × (recording kind (core_of size kind.policy out) s ≡ verdict 0 (length s) q) × Right size (fresh_of size kind.policy ds ls) out (past [] es) q
    genuine_accepted =
        let ok : Fine size kind.policy ds ls = recorded_judged kind dates size held (core_of size kind.policy out) s ds ls es genuine_recorded in (
          state_after (core_of size kind.policy out) ds ls es,
          recorded_accepted kind (core_of size kind.policy out) s ds ls es genuine_recorded refl,
          goes_on_lem ds ls es g.fits.0 g.fits.1.1 ok genuine_recorded.played.allowed,
        )

    -- the power cut: of an accepted recording only the first m bytes are kept, at least through E. The answer has 1 at the first record that isn't whole,
    -- and the state after the whole records
    pub power_cut : (m : ℕ) → through_e kind ds ls ≤ m → m < length s
        → Cut (events kind) stepped_in ((core_of size kind.policy out).start ds ls) es (through_e kind ds ls) m (recording kind (core_of size kind.policy out) (take m s))
    power_cut m h l = recorded_cut kind (core_of size kind.policy out) s ds ls es genuine_recorded m h l

    -- "The answer is that of its whole records (state, counts, list)": the recording of those records alone is accepted, at the place and with the state
    -- of the answer x to the cut
    pub cut_whole :
        (m : ℕ) {x : Verdict Playing} (c : Cut (events kind) stepped_in ((core_of size kind.policy out).start ds ls) es (through_e kind ds ls) m x) →
        recording kind (core_of size kind.policy out) (encode_recording kind ds ls c.whole) ≡ verdict 0 x.place x.state
    cut_whole m c = cut_as_whole kind (core_of size kind.policy out) s ds ls es genuine_recorded m c

  table_ok : {s : List ℕ} {ds : List Task} {ls : List Link} {m : ℕ} → TableTo kind s ds ls m → Fine size kind.policy ds ls
  table_ok {ds = ds} {ls = ls} t =
      rw (
        allowed_judged (ahead_of ds) (length ds) kind size held ls t.tasked.whole.kept.few t.linked.kept.few t.linked.kept.allowed,
        allowed_dated kind dates ds t.tasked.whole.kept.allowed,
      )

  -- an event record that is refused, its bytes being there: by the table and the accepted events alone
  pub event_refused :
      {s : List ℕ} {ds : List Task} {ls : List Link} {m r p : ℕ} {es : List (Timed ℕ)} → TableTo kind s ds ls m
      → Faulty (events kind) (event_limit kind) judged_in stepped_in s ((core_of size kind.policy out).start ds ls) m es r p
      → {e : Timed ℕ} {n : ℕ} → event_at kind s p ≡ got e n → r ≡ refused_by (table_of size kind.policy ds ls) out (past [] es) e
  unfolding fresh_of
  event_refused {s} {ds = ds} {ls = ls} {p = p} {es = es} t f {e} {n} u =
      let R = goes_on_lem ds ls es t.tasked.whole.kept.fits f.played.fits (table_ok t) f.played.allowed in
      f.fault ∙ rw u (refused_by_lem R e (read_still kind dates s p e n u)) ∙ ap (λ (T : Table ℕ). refused_by T out (past [] es) e) (own_table_lem ds ls (table_ok t))
