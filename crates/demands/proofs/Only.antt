-- No two answers are explained by the same bytes and list.
-- Assumes nothing.
use mathlib.Core.Path.{◌≡◌, refl, sym, ap, ◌∙◌}
use mathlib.Core.Logic.{inl, inr}
use mathlib.Core.List.{List, [], ◌++◌}
use Prim.Native.Nat.{ℕ, ◌+◌, ◌≤◌}
use native.Mathlib.Omega.{arith}
use lib.ListN.{length, drop}
use Rattle.protocol_deadlines.specs.Timed.{Timed, untimed}
use Rattle.protocol.specs.History.{counts, reads, past}
use Rattle.protocol.specs.ZeroTime.{ideals}
use Rattle.protocol_state.specs.Saved.{state_room}
use Rattle.protocol_state.specs.Records.{Task}
use Rattle.byte_format.specs.Play.{Verdict, verdict}
use Rattle.recording_format.specs.Link.{Link}
use Rattle.recording_format.specs.RecordingKind.{any_kind, kind_in}
use Rattle.recording_format.specs.Recording.{encode_recording, state_after, recording}
use Rattle.recording_format.proofs.Decided.{outcome_is}
use Rattle.recording_core.specs.Playing.{Playing, core_of}
use Rattle.protocol_state.specs.Fresh as fresh
use Rattle.mailbox.specs.States.{saved, IsWhole}
use Rattle.mailbox.proofs.Packed.{saved_packed, saved_same}
use Rattle.recording.specs.Answers.{replied}
use Rattle.recording.specs.declared.Answer.{Answer}
use Rattle.lists.specs.Lists.{count}
use Rattle.protocol.specs.History.{Counts}
use Rattle.protocol_state.specs.Saved.{busy}
use Rattle.protocol_state.specs.Fresh.{fresh_of}
use Rattle.recording_core.proofs.Answers.{answer_totals}
use Rattle.demands.proofs.Found.{went_there, found}
use Rattle.demands.specs.Station.{station}
use Rattle.demands.specs.Recordings.{Genuine, four_counts, AtTable, Ending, no_kind, unknown_kind, cut_event, bad_event, AtEvents, Explained}
use Rattle.demands.specs.Recordings as recordings
use Rattle.demands.proofs.Orders.{untimed_past, past_reads, possible_happen, length_turned}
use Rattle.demands.proofs.Runs.{calls_possible_at, calls_ideals, calls_count}
use Rattle.demands.proofs.Course.{one_course}
use Rattle.demands.proofs.Calls.{calls_whole}
use Rattle.demands.proofs.Replays.{Went}
use Rattle.demands.proofs.TableFaults.{fault_found}
use Rattle.demands.proofs.Explained.{single_made}

-- the answer that the replay's definition gives
abbrev defined : List ℕ → List ℕ → Verdict Playing
defined s out = recording (kind_in s) (core_of state_room (kind_in s).policy out) s

-- ---- an answer in the table
table_answer : {s out list : List ℕ} {a : Answer} → AtTable s out a list → replied a list ≡ defined s out
table_answer {s} {out} {list} {a} x = same ∙ outcome_is (kind_in s) (core_of state_room (kind_in s).policy out) s (fault_found s out x.fault)
  where
    state : saved a.state ≡ (core_of state_room (kind_in s).policy out).single.state
    state = ap (λ (m : fresh.Made). m.state) x.state.answer ∙ ap (λ (m : fresh.Made). m.state) single_made

    same : replied a list ≡ verdict a.refusal a.place (core_of state_room (kind_in s).policy out).single
    same = λ i. verdict a.refusal a.place (record { state = state i; counts = x.counted i; list = x.listed i })

-- ---- an answer in the events, or after them
module _ {s out list : List ℕ} {a : Answer} (x : AtEvents s out a list) where
  abbrev ds : List Task
  ds = x.ds

  abbrev ls : List Link
  ls = x.ls

  abbrev es : List (Timed ℕ)
  es = x.es

  -- no more events than their count says
  within_total : {r : ℕ} → Ending x.which (station ds ls) s out x.total es a.place r → length es ≤ x.total
  within_total (recordings.whole e p) = omega arith
  within_total (recordings.extra e p) = omega arith
  within_total (no_kind h p) = omega arith
  within_total (unknown_kind h p k) = omega arith
  within_total (cut_event h p n k l) = omega arith
  within_total (bad_event h y e q b f g n) = omega arith

  -- the events alone are a recording
  alone : Genuine x.which (encode_recording (any_kind x.which) ds ls es) out ds ls es
  unfolding reads
  alone = record {
    keeps = x.begun.keeps;
    bytes = refl;
    fits = x.begun.fits;
    few_tasks = x.begun.few_tasks;
    few_links = x.begun.few_links;
    few = omega (arith, within_total x.ending, x.begun.few);
    room = omega (arith, x.listed.room, ap length (calls_ideals x.calls), length_turned (ideals (station ds ls) (past [] (untimed es))), calls_count x.calls, past_reads [] (untimed es));
    happen = (possible_happen (station ds ls) [] es (calls_possible_at x.calls)).0;
  }

  course : Went (any_kind x.which).policy out ds ls es (state_after (core_of state_room (any_kind x.which).policy out) ds ls es)
  course = went_there x.begun alone

  -- the state, the counts and the list are those that the events came to
  same_state : saved a.state ≡ (state_after (core_of state_room (any_kind x.which).policy out) ds ls es).state
  same_state = ap saved (one_course x.calls course.calls).1 ∙ saved_packed _ course.right.reached.shape

  same_counts : four_counts a ≡ (state_after (core_of state_room (any_kind x.which).policy out) ds ls es).counts
  unfolding untimed
  same_counts = x.counted ∙ sym (course.right.counts ∙ (λ i. counts (course.own i) (untimed_past [] es i)))

  same_list : list ≡ (state_after (core_of state_room (any_kind x.which).policy out) ds ls es).list
  same_list =
      x.listed.holds
      ∙ ap (λ (ns : List ℕ). ns ++ drop (length ns) out) (one_course x.calls course.calls).0
      ∙ sym course.listed.holds

  same_reply : replied a list ≡ verdict a.refusal a.place (state_after (core_of state_room (any_kind x.which).policy out) ds ls es)
  same_reply = λ i. verdict a.refusal a.place (record { state = same_state i; counts = same_counts i; list = same_list i })

  events_answer : replied a list ≡ defined s out
  events_answer = same_reply ∙ outcome_is (kind_in s) (core_of state_room (kind_in s).policy out) s (found x.begun alone x.ending)

  -- "arrivals counted task by task equal finishes plus tasks still active"
  pub totals : a.arrivals ≡ a.finishes + count (busy (saved a.state)) (length ds)
  unfolding fresh_of
  totals =
      ap (λ (c : Counts). c.arrivals) same_counts ∙ answer_totals course.right
      ∙ sym (λ i. (same_counts i).finishes + count (busy (same_state i)) (length ds))

-- an answer that the bytes explain is the one that the replay's definition gives
pub explained_is : {s out list : List ℕ} {a : Answer} → Explained s out a list → replied a list ≡ defined s out
explained_is (inl x) = table_answer x
explained_is (inr x) = events_answer x

-- and its state has its arrays
pub explained_whole : {s out list : List ℕ} {a : Answer} → Explained s out a list → IsWhole a.state
explained_whole (inl x) = x.state.whole
explained_whole (inr x) = calls_whole x.calls

-- replies that are equal are equal answers and lists
pub reply_parts : {list list' : List ℕ} {a a' : Answer} → IsWhole a.state → IsWhole a'.state → replied a list ≡ replied a' list' → (a ≡ a') × (list ≡ list')
reply_parts {a = a} {a' = a'} w w' e = (
  λ i. record {
    refusal = (e i).refusal;
    place = (e i).place;
    state = saved_same a.state a'.state w w' (ap (λ (v : Verdict Playing). v.state.state) e) i;
    arrivals = (e i).state.counts.arrivals;
    starts = (e i).state.counts.starts;
    reads = (e i).state.counts.reads;
    finishes = (e i).state.counts.finishes;
  },
  ap (λ (v : Verdict Playing). v.state.list) e,
)

pub only : {s out list list' : List ℕ} {a a' : Answer} → Explained s out a list → Explained s out a' list' → (a ≡ a') × (list ≡ list')
only x x' = reply_parts (explained_whole x) (explained_whole x') (explained_is x ∙ sym (explained_is x'))
