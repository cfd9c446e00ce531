-- Demand 2's exactly-when of a recording, and an accepted recording as calls.
-- Assumes nothing.
use mathlib.Core.Path.{◌≡◌, refl, sym, ap, subst, ◌∙◌}
use mathlib.Core.Logic.{◌↔◌}
use mathlib.Core.List.{List, []}
use Prim.Native.Nat.{ℕ, ◌+◌, ◌≤◌}
use native.Mathlib.Omega.{arith}
use lib.ListN.{length, replicate, length-replicate}
use Rattle.protocol_deadlines.specs.Timed.{Timed, untimed, AllPossibleAt}
use Rattle.protocol.specs.Table.{Table}
use Rattle.protocol.specs.History.{counts, reads, past}
use Rattle.protocol_state.specs.Saved.{state_room}
use Rattle.protocol_state.specs.Records.{Task}
use Rattle.byte_format.specs.Play.{Verdict, verdict}
use Rattle.recording_format.specs.Link.{Link}
use Rattle.recording_format.specs.RecordingKind.{any_kind, which_in}
use Rattle.recording_format.specs.declared.WhichKind.{WhichKind}
use Rattle.recording_format.specs.Recording.{state_after, Recorded}
use Rattle.recording_format.proofs.AllKinds.{kind_room, kind_counts, kind_dates, kind_said_lem}
use Rattle.recording_format.proofs.TaskRules.{fitting_policed}
use Rattle.recording_format.proofs.LinkRules.{recorded_judged}
use Rattle.recording_format.proofs.Recordings.{recorded_accepted}
use Rattle.recording_format.proofs.Unique.{recorded_unique}
use Rattle.recording_core.specs.Playing.{Playing, core_of}
use Rattle.recording_core.specs.Promise as core
use Rattle.recording_core.proofs.Right.{fits_still}
use Rattle.recording_core.proofs.Promises.{genuine_recorded}
use Rattle.mailbox.proofs.Packed.{packed_is}
use Rattle.mailbox.specs.declared.State.{State}
use Rattle.recording.specs.Answers.{replied}
use Rattle.recording.specs.declared.Answer.{Answer}
use Rattle.recording_demands.specs.Ensured.{Replays}
use Rattle.recording_demands.proofs.Demands.{answer_by, accepted_only, accepted_all}
use Rattle.demands.specs.Station.{station}
use Rattle.demands.specs.Calls.{Calls}
use Rattle.demands.specs.Recordings.{Genuine, four_counts, Listed}
use Rattle.demands.proofs.Tables.{fresh_station}
use Rattle.demands.proofs.Orders.{untimed_past, past_reads, happen_possible, possible_happen}
use Rattle.demands.proofs.Replays.{Went, went}

-- ---- the exactly-when, in the words of this crate and of recording_core
module _ {which : WhichKind} {s out : List ℕ} {ds : List Task} {ls : List Link} {es : List (Timed ℕ)} where
  pub genuine_core : Genuine which s out ds ls es → core.CoreGenuine (any_kind which) state_room s out ds ls es
  unfolding reads untimed AllPossibleAt
  genuine_core g = record {
    bytes = g.bytes;
    fits = g.fits;
    few_tasks = (g.keeps.tasks.0, g.few_tasks);
    few_links = g.few_links;
    few_events = g.few;
    dates = g.keeps.dates;
    rules = g.keeps.rules;
    happens = subst (λ (t : Table ℕ). AllPossibleAt t (past [] es)) (sym (fresh_station (any_kind which).policy ds ls g.keeps.tasks.1 g.keeps.links))
        (happen_possible (station ds ls) [] es tt g.happen);
    room = omega (arith, past_reads [] (untimed es), ap reads (untimed_past [] es), g.room);
  }

  pub core_genuine : core.CoreGenuine (any_kind which) state_room s out ds ls es → Genuine which s out ds ls es
  unfolding reads untimed
  core_genuine g = record {
    keeps = record { tasks = (g.few_tasks.0, in_tasks); dates = g.dates; links = in_links; rules = g.rules };
    bytes = g.bytes;
    fits = g.fits;
    few_tasks = g.few_tasks.1;
    few_links = g.few_links;
    few = g.few_events;
    room = omega (arith, past_reads [] (untimed es), ap reads (untimed_past [] es), g.room);
    happen = (possible_happen (station ds ls) [] es
        (subst (λ (t : Table ℕ). AllPossibleAt t (past [] es)) (fresh_station (any_kind which).policy ds ls in_tasks in_links) g.happens)).0;
  }
    where
      in_tasks : length ds ≤ state_room.tasks
      in_tasks = omega (arith, g.few_tasks.1, (kind_room which).tasks)

      in_links : length ls ≤ state_room.links
      in_links = omega (arith, g.few_links, (kind_room which).links)

  -- a genuine recording, as the reader judges it
  pub genuine_kept : Genuine which s out ds ls es → Recorded (any_kind which) (core_of state_room (any_kind which).policy out) s ds ls es
  genuine_kept g = genuine_recorded (any_kind which) (kind_dates which) state_room (kind_room which) out (kind_counts which) (genuine_core g)

-- another list with room for the numbers
genuine_room : {which : WhichKind} {s out out' : List ℕ} {ds : List Task} {ls : List Link} {es : List (Timed ℕ)} → Genuine which s out ds ls es → reads (untimed es) ≤ length out' → Genuine which s out' ds ls es
genuine_room g h = record { keeps = g.keeps; bytes = g.bytes; fits = g.fits; few_tasks = g.few_tasks; few_links = g.few_links; few = g.few; room = h; happen = g.happen }

-- the bytes fix the kind,
pub one_kind : {which : WhichKind} {s out : List ℕ} {ds : List Task} {ls : List Link} {es : List (Timed ℕ)} → Genuine which s out ds ls es → which_in s ≡ which
one_kind {which} g = ap which_in g.bytes ∙ kind_said_lem which

-- and tasks, links and events
one_reading_of_kind :
    {which : WhichKind} {s out out' : List ℕ} {ds ds' : List Task} {ls ls' : List Link} {es es' : List (Timed ℕ)} → Genuine which s out ds ls es → Genuine which s out' ds' ls' es'
    → (ds ≡ ds') × (ls ≡ ls') × (es ≡ es')
one_reading_of_kind {which} {s} {out} {out'} {ds} {ds'} {ls} {ls'} {es} {es'} g g' =
    let n = reads (untimed es) + reads (untimed es') in
    let long = length-replicate {A = ℕ} n 0 in
    let k = genuine_kept (genuine_room {out' = replicate {A = ℕ} n 0} g (omega arith)) in
    let k' = genuine_kept (genuine_room {out' = replicate {A = ℕ} n 0} g' (omega arith)) in
    let u = recorded_unique (any_kind which) (core_of state_room (any_kind which).policy (replicate {A = ℕ} n 0)) s ds ds' ls ls' es es' k k' in
    (u.0, u.1.0, u.1.1)

pub one_reading :
    {which which' : WhichKind} {s out out' : List ℕ} {ds ds' : List Task} {ls ls' : List Link} {es es' : List (Timed ℕ)} → Genuine which s out ds ls es → Genuine which' s out' ds' ls' es'
    → (which ≡ which') × (ds ≡ ds') × (ls ≡ ls') × (es ≡ es')
one_reading {s = s} {out' = out'} {ds' = ds'} {ls' = ls'} {es' = es'} g g' =
    let same = sym (one_kind g) ∙ one_kind g' in
    let u = one_reading_of_kind g (subst (λ (w : WhichKind). Genuine w s out' ds' ls' es') (sym same) g') in
    (same, u.0, u.1, u.2)

module _ {s out list : List ℕ} {a : Answer} (said : Replays s out a list) where
  pub exactly : (a.refusal ≡ 0) ↔ ((which : WhichKind) × ((ds : List Task) × ((ls : List Link) × ((es : List (Timed ℕ)) × Genuine which s out ds ls es))))
  exactly = (
    λ z. let g = accepted_only said z in (which_in s, (g.0, (g.1.0, (g.1.1.0, core_genuine g.1.1.1)))),
    λ g. (accepted_all said g.0 (genuine_core g.1.1.1.1)).0,
  )

-- an answer with the state that some events came to
module _ {s out list : List ℕ} {a : Answer} {policy r p : ℕ} {ds : List Task} {ls : List Link} {es : List (Timed ℕ)} (said : Replays s out a list)
    (e : replied a list ≡ verdict r p (state_after (core_of state_room policy out) ds ls es)) (w : Went policy out ds ls es (state_after (core_of state_room policy out) ds ls es)) where
  pub calls_there : Calls (station ds ls) es w.ns a.state
  calls_there = subst (λ (x : State). Calls (station ds ls) es w.ns x) (sym (packed_is a.state _ said.whole (ap (λ (x : Verdict Playing). x.state.state) e))) w.calls

  pub listed_there : Listed w.ns out list
  listed_there = subst (λ (x : List ℕ). Listed w.ns out x) (sym (ap (λ (x : Verdict Playing). x.state.list) e)) w.listed

-- a recording that is accepted
module _ {which : WhichKind} {s out list : List ℕ} {ds : List Task} {a : Answer} {ls : List Link} {es : List (Timed ℕ)} (said : Replays s out a list) (g : Genuine which s out ds ls es) where
  accepted_reply : replied a list ≡ verdict 0 (length s) (state_after (core_of state_room (any_kind which).policy out) ds ls es)
  accepted_reply = answer_by said which (one_kind g) ∙ recorded_accepted (any_kind which) (core_of state_room (any_kind which).policy out) s ds ls es (genuine_kept g) refl

  accepted_went : Went (any_kind which).policy out ds ls es (state_after (core_of state_room (any_kind which).policy out) ds ls es)
  accepted_went =
      let k = genuine_kept g in
      went (any_kind which).policy out ds ls es (fitting_policed (any_kind which) (kind_dates which) ds k.tasked.fits) (fits_still (any_kind which) (kind_dates which) es k.played.fits)
      (recorded_judged (any_kind which) (kind_dates which) state_room (kind_room which) (core_of state_room (any_kind which).policy out) s ds ls es k) k.played.allowed

  pub accepted_calls : (ns : List ℕ) × Calls (station ds ls) es ns a.state × Listed ns out list × (a.place ≡ length s)
  accepted_calls = (
    accepted_went.ns,
    calls_there said accepted_reply accepted_went,
    listed_there said accepted_reply accepted_went,
    ap (λ (x : Verdict Playing). x.place) accepted_reply,
  )

  pub accepted_counts : four_counts a ≡ counts (station ds ls) (past [] (untimed es))
  unfolding untimed
  accepted_counts =
      ap (λ (x : Verdict Playing). x.state.counts) accepted_reply ∙ accepted_went.right.counts
      ∙ (λ i. counts (accepted_went.own i) (untimed_past [] es i))
