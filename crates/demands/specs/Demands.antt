-- The three demands, a field for each sentence, over what the contracts of `mailbox` and `recording` ensure: `Makes`, `Gives` and `Replays` are what a caller
-- learns of a call (`Tells`), and beside soundness no more. Here a reader begins; proofs/Demands.antt has `demand_1`, `demand_2`, `demand_3`, and
-- `whole_recordings` for what document 01 says besides.
-- Assumes nothing.
use Rattle.std.specs.Prelude.{◌≡◌, ◌≢◌, ◌⊎◌, ◌↔◌, true, false, List, [], ◌∷◌, ◌++◌, ℕ, pred, ◌+◌, ◌≤◌, ◌<◌, length, take, get_or}
use Rattle.lists.specs.Lists.{count}
use Rattle.protocol.specs.Event.{read}
use Rattle.protocol.specs.Table.{Table}
use Rattle.protocol.specs.History.{arrivals, finishes, past}
use Rattle.protocol.specs.Published.{Lowest}
use Rattle.protocol.specs.Published as published
use Rattle.protocol.specs.ZeroTime.{run_of, had}
use Rattle.protocol.specs.Given.{there}
use Rattle.protocol.specs.Instant.{Order, zero_run, find}
use Rattle.protocol_deadlines.specs.Timed.{Timed, untimed, PossibleAt}
use Rattle.protocol_deadlines.specs.Answering.{ReadsNothing}
use Rattle.protocol_state.specs.Records.{Task}
use Rattle.byte_format.specs.Number.{Bytes}
use Rattle.recording_format.specs.Link.{Link, link_size, link_at}
use Rattle.recording_format.specs.RecordingKind.{base_recording, wide_recording, dated_recording, by_kind, any_kind}
use Rattle.recording_format.specs.declared.WhichKind.{WhichKind}
use Rattle.mailbox.specs.declared.State.{State}
use Rattle.mailbox.specs.declared.Step.{Step}
use Rattle.mailbox.specs.declared.Made.{Made}
use Rattle.recording.specs.declared.Answer.{Answer}
use Rattle.recording_demands.specs.Ensured.{Replays}
use Rattle.recording_demands.specs.Rest.{Unread}
use Rattle.demands.specs.Station.{station, most_urgent_first, HandedOver, Keeps, first_tasks, first_links}
use Rattle.demands.specs.Refusals.{Earns, TableEarns, LinkBreaks, by_history, StandsAlike, EventBreaks}
use Rattle.demands.specs.States.{IsSound, IsWhole, table_in, boxes_in, policy_in, standing_in}
use Rattle.demands.specs.Order.{EachRead}
use Rattle.demands.specs.Calls.{Call, call_policy, call_tick, call_event, Makes, Gives, Rests, Calls}
use Rattle.demands.specs.Recordings.{recording_bytes, event_bytes, through_count, Genuine, LinksBegun, EventsBegun, KindOf, four_counts, Listed, AtTable, AtEvents, Explained}
use Rattle.demands.specs.Mailboxes.{Published}
use Rattle.demands.specs.Outputs.{Gave, Output}
use Rattle.demands.specs.Border.{AsksNothing, Tells}

-- ---- demand 1

-- the answer that gives the state back as it was lent, with the refusal n and the value 0
abbrev pub as_lent : State → ℕ → Step
as_lent q n = record { state = q; answer = record { refusal = n; value = 0 } }

pub record Demand1 : Type 0 where
  -- "Whatever bytes, events or saved state are handed over, an answer comes back.": no call asks anything, and what it then tells is what is taken of it below
  pub asks : AsksNothing
  pub tells : Tells
  -- "Nothing unknown ever becomes a default.": a state that is not sound, whatever is wrong in it, is answered 19;
  pub unknown_state : (q : State) (c : Call) (r : Step) → Gives q c r → (IsSound q → ⊥) → r ≡ as_lent q 19
  -- and so is a state of the other policy, so that no tick is ever made up;
  pub other_policy : (q : State) (c : Call) (r : Step) → Gives q c r → policy_in q ≢ call_policy c → r ≡ as_lent q 19
  -- a first byte of no kind of recording 2 at 0;
  pub unknown_first : {s out list : List ℕ} {a : Answer} → Replays s out a list → 1 ≤ length s → get_or s 0 0 ≢ base_recording.first → get_or s 0 0 ≢ wide_recording.first →
      get_or s 0 0 ≢ dated_recording.first → (a.refusal ≡ 2) × (a.place ≡ 0)
  -- a byte that is no kind of event, where an event is due after a table and events that are accepted, 11 at its place;
  pub unknown_event : {which : WhichKind} {s out list : List ℕ} {ds : List Task} {a : Answer} {ls : List Link} {es : List (Timed ℕ)} {E p : ℕ} → Replays s out a list →
      Genuine which (recording_bytes which ds ls es) out ds ls es → EventsBegun which s ds ls E es p → length es < E → p < length s →
      ((n : ℕ) → KindOf which (get_or s p 0) n → ⊥) → (a.refusal ≡ 11) × (a.place ≡ p)
  -- a link of an unknown kind is refused at its place, with 6 unless it names no task of the table, which is 4 (in a table that is handed over whole: `table_number`)
  pub unknown_link : {which : WhichKind} {s out list : List ℕ} {ds : List Task} {a : Answer} {ls : List Link} {L p : ℕ} → Replays s out a list →
      LinksBegun which s ds L ls p → length ls < L → p + link_size (any_kind which) ≤ length s → 1 < (link_at s p).kind →
      Earns (LinkBreaks ds ls (link_at s p)) a.refusal × ((a.refusal ≡ 4) ⊎ (a.refusal ≡ 6)) × (a.place ≡ p)
  -- "Each refusal has its number": of a table; of an event given to a sound state, by its phases; and after any calls by the accepted events alone
  pub table_number : {p : ℕ} {X : List ℕ} → HandedOver p X → (T L : ℕ) (D W R K B : List ℕ) (m : Made) → Makes p T L D X W R K B m →
      (n : ℕ) → (m.refusal ≡ n) ↔ TableEarns p (first_tasks T D X) (first_links L W R K B) n
  pub event_number : (q : State) (c : Call) (r : Step) → Gives q c r → IsSound q → policy_in q ≡ call_policy c →
      (n : ℕ) → (r.answer.refusal ≡ n) ↔ Earns (EventBreaks (table_in q) (standing_in q) (call_tick c) (call_event c)) n
  pub number_there : {T : Table ℕ} {es : List (Timed ℕ)} {ns : List ℕ} {q : State} → Calls T es ns q → (c : Call) (r : Step) → Gives q c r → policy_in q ≡ call_policy c →
      (n : ℕ) → (r.answer.refusal ≡ n) ↔ Earns (EventBreaks T (by_history T (past [] es)) (call_tick c) (call_event c)) n
  -- a table that is refused makes the state of a single task with default 0 and no links, under fixed priorities
  pub table_refused : (p T L : ℕ) (D X W R K B : List ℕ) (m : Made) → Makes p T L D X W R K B m → m.refusal ≢ 0 →
      Makes 0 1 0 (0 ∷ []) [] [] [] [] [] (record { refusal = 0; state = m.state })
  -- "An accepted arrival, start or finish gives the value 0 too."
  pub silent : (q : State) (c : Call) (r : Step) → Gives q c r → ReadsNothing (call_event c) → r.answer.value ≡ 0
  -- "in a recording its place too": every answer is that of the first fault of the bytes, or of there being none; and no other answer is
  pub place : {s out list : List ℕ} {a : Answer} → Replays s out a list → Explained s out a list
  pub told : {s out list : List ℕ} {a : Answer} → Bytes s → Explained s out a list → Replays s out a list
  pub only : {s out list list' : List ℕ} {a a' : Answer} → Explained s out a list → Explained s out a' list' → (a ≡ a') × (list ≡ list')
  -- "and a refused event changes nothing.": given alone it hands back the state as lent, and no number; in a recording the state, the counts and the list
  -- are those of the events that were accepted before it (`place`)
  pub unchanged : (q : State) (c : Call) (r : Step) → Gives q c r → r.answer.refusal ≢ 0 → r ≡ as_lent q r.answer.refusal

-- ---- demand 2

pub record Demand2 : Type 0 where
  -- "A recording is accepted exactly when its links obey the published rules, its bytes and list room the stated limits, and its events could happen on one
  -- processor where no unfinished task arrives again and the most urgent unfinished task alone may run."; with deadlines this "gains the conditions that 21 to 24
  -- name: ticks that never fall and keep their limit, every finish by its deadline, no relative deadline of 0", and the job that is due first alone may run
  -- (`Deadlines`)
  pub recording : {s out list : List ℕ} {a : Answer} → Replays s out a list →
      (a.refusal ≡ 0) ↔ ((which : WhichKind) × ((ds : List Task) × ((ls : List Link) × ((es : List (Timed ℕ)) × Genuine which s out ds ls es))))
  -- and the bytes fix of which kind they are, and which tasks, links and events these are
  pub one_reading : {which which' : WhichKind} {s out out' : List ℕ} {ds ds' : List Task} {ls ls' : List Link} {es es' : List (Timed ℕ)} →
      Genuine which s out ds ls es → Genuine which' s out' ds' ls' es' → (which ≡ which') × (ds ≡ ds') × (ls ≡ ls') × (es ≡ es')
  -- the same of a table and of single events
  pub table : {p : ℕ} {X : List ℕ} → HandedOver p X → (T L : ℕ) (D W R K B : List ℕ) (m : Made) → Makes p T L D X W R K B m →
      (m.refusal ≡ 0) ↔ Keeps p (first_tasks T D X) (first_links L W R K B)
  pub event : {T : Table ℕ} {es : List (Timed ℕ)} {ns : List ℕ} {q : State} → Calls T es ns q → (c : Call) (r : Step) → Gives q c r →
      (r.answer.refusal ≡ 0) ↔ ((policy_in q ≡ call_policy c) × PossibleAt T (past [] es) (call_tick c) (call_event c))
  -- "Every pointer, mailbox and number read is then the one that the published protocol gives, with at most two mailboxes more than a writer has less urgent
  -- readers.": after any calls, hence after a recording's and after calls that follow it
  pub protocol : {T : Table ℕ} {es : List (Timed ℕ)} {ns : List ℕ} {q : State} → Calls T es ns q → Published T es ns q
  -- the state is then a sound one of the same table, in which the tasks stand as the accepted events say
  pub there : {T : Table ℕ} {es : List (Timed ℕ)} {ns : List ℕ} {q : State} → Calls T es ns q →
      IsWhole q × IsSound q × (table_in q ≡ T) × ((t : ℕ) → StandsAlike (standing_in q) (by_history T (past [] es)) t)
  -- and of any sound state, wherever it came from, an accepted event makes what the protocol's step makes of it, of the same table, and a read gives the
  -- protocol's number
  pub any_state : (q : State) (c : Call) (r : Step) → Gives q c r → IsWhole q → IsSound q → r.answer.refusal ≡ 0 →
      published.Step (table_in q) (Lowest (table_in q)) (call_event c) (boxes_in q) (boxes_in r.state) × (table_in r.state ≡ table_in q) × (IsWhole r.state × IsSound r.state)
  pub any_number : (q : State) (c : Call) (l : ℕ) (r : Step) → call_event c ≡ read l → Gives q c r → IsWhole q → IsSound q → r.answer.refusal ≡ 0 →
      r.answer.value ≡ published.number (table_in q) (boxes_in q) l
  -- an accepted recording is a sequence of calls in which all its events were accepted; its list is their numbers and the untouched rest
  pub replayed : {which : WhichKind} {s out list : List ℕ} {ds : List Task} {a : Answer} {ls : List Link} {es : List (Timed ℕ)} → Replays s out a list → Genuine which s out ds ls es →
      (ns : List ℕ) × Calls (station ds ls) es ns a.state × Listed ns out list × (a.place ≡ length s)
  -- whoever makes such calls gets these numbers and this state
  pub one_course : {T : Table ℕ} {es : List (Timed ℕ)} {ns ns' : List ℕ} {q q' : State} → Calls T es ns q → Calls T es ns' q' → (ns ≡ ns') × (q ≡ q')

-- ---- demand 3

pub record Demand3 : Type 0 where
  -- "For every sequence of accepted events from a fresh state, refused ones left aside": T, es, ns and q are below those of any calls. A recording that is
  -- refused in its table reads nothing; every other is such a sequence, with its numbers first in the list, and further calls may follow
  pub recordings : {s out list : List ℕ} {a : Answer} → Replays s out a list →
      AtTable s out a list ⊎ ((T : Table ℕ) × (es : List (Timed ℕ)) × (ns : List ℕ) × Calls T es ns a.state × Listed ns out list)
  -- "each number read is the one from a run where tasks take no time: at each arrival all arrived tasks run whole, most urgent first.": the
  -- number is what the reader's run, whose number is that of its arrivals, reads by the link in that run, with the outputs of the whole sequence; a run that
  -- does not finish in it has no output
  pub order : {T : Table ℕ} {es : List (Timed ℕ)} {ns : List ℕ} {q : State} → Calls T es ns q → Order T (most_urgent_first T)
  pub no_time : {T : Table ℕ} {es : List (Timed ℕ)} {ns : List ℕ} {q : State} → Calls T es ns q →
      EachRead (λ h l n. find l (arrivals h (T.reader l)) (zero_run T (most_urgent_first T) (past [] (untimed es))) ≡ there n) [] (untimed es) ns
  -- "A direct link gives the output of the writer's last arrival up to and including the reader's own;" "where there was none, the writer's default"
  -- (`Output`)
  pub direct : {T : Table ℕ} {es : List (Timed ℕ)} {ns : List ℕ} {q : State} → Calls T es ns q →
      EachRead (λ h l n. T.delayed l ≡ false → Output T h (T.writer l) (had T h l) n) [] (untimed es) ns
  -- "a delayed link the one before it;", where the writer had two arrivals or more
  pub delayed : {T : Table ℕ} {es : List (Timed ℕ)} {ns : List ℕ} {q : State} → Calls T es ns q →
      EachRead (λ h l n. T.delayed l ≡ true → 2 ≤ had T h l → Gave (T.writer l) h (pred (had T h l)) n) [] (untimed es) ns
  -- "While the writer has had fewer than two arrivals up to and including the reader's, a delayed link reads the link's start value."
  pub start_value : {T : Table ℕ} {es : List (Timed ℕ)} {ns : List ℕ} {q : State} → Calls T es ns q →
      EachRead (λ h l n. T.delayed l ≡ true → had T h l < 2 → n ≡ T.start_value l) [] (untimed es) ns
  -- "The output of an unfinished run is never read.": before the read at least as many of the writer's runs had finished as the number of the run that is read
  pub finished : {T : Table ℕ} {es : List (Timed ℕ)} {ns : List ℕ} {q : State} → Calls T es ns q →
      EachRead (λ h l n. run_of (T.delayed l) (had T h l) ≤ finishes h (T.writer l)) [] (untimed es) ns

-- ---- what document 01 says besides of a whole recording

-- "A power cut: take any accepted recording and keep only its first bytes, at least through E. The answer is that of its whole records (state, counts, list),
-- with refusal 1 at the first record that isn't whole": b and `after` are the answer and the list of the cut recording
pub record CutShort (which : WhichKind) (out : List ℕ) (ds : List Task) (ls : List Link) (es : List (Timed ℕ)) (m : ℕ) (b : Answer) (after : List ℕ) : Type 0 where
  pub whole : List (Timed ℕ)
  pub partly : Timed ℕ
  pub gone : List (Timed ℕ)
  pub all : es ≡ whole ++ (partly ∷ gone)
  -- the first record that isn't whole
  pub from : b.place ≡ through_count which ds ls + length (event_bytes which whole)
  pub inside : (b.place ≤ m) × (m < b.place + length (event_bytes which (partly ∷ [])))
  pub refusal : b.refusal ≡ 1
  -- the answer of the whole records alone
  pub as_whole : {c : Answer} {list : List ℕ} → Replays (recording_bytes which ds ls whole) out c list →
      (c.refusal ≡ 0) × (b.state ≡ c.state) × (four_counts b ≡ four_counts c) × (after ≡ list)

pub record WholeRecordings : Type 0 where
  -- "In every answer with a table, arrivals counted task by task equal finishes plus tasks still active."
  pub totals : {s out list : List ℕ} {a : Answer} (x : AtEvents s out a list) → a.arrivals ≡ a.finishes + count (standing_in a.state).active (length x.ds)
  -- "A power cut"
  pub power_cut : {which : WhichKind} {s out after : List ℕ} {ds : List Task} {ls : List Link} {es : List (Timed ℕ)} {b : Answer} {m : ℕ} → Genuine which s out ds ls es →
      Replays (take m s) out b after → through_count which ds ls ≤ m → m < length s → CutShort which out ds ls es m b after
  -- "unless nothing was lost"
  pub nothing_lost : {which : WhichKind} {s out list after : List ℕ} {ds : List Task} {ls : List Link} {es : List (Timed ℕ)} {a b : Answer} {m : ℕ} → Genuine which s out ds ls es →
      Replays s out a list → Replays (take m s) out b after → length s ≤ m → (b.refusal ≡ 0) × (b ≡ a) × (after ≡ list)
  -- "On refusal the caller also gets the unread rest, from the place of the refusal to the end, as that part of the lent recording; after acceptance that part
  -- is empty.": what `recording::rest` hands back for the place of the answer
  pub rest : {s out list part : List ℕ} {a : Answer} → Replays s out a list → Rests s a.place part → Unread s a.refusal a.place part
  -- "The longest recording is then 60,805 bytes", with 255 "60,869 bytes"; with 253 it is document 01's 60,164, and document 02's first byte and four bytes a link more
  pub longest : {which : WhichKind} {s out : List ℕ} {ds : List Task} {ls : List Link} {es : List (Timed ℕ)} → Genuine which s out ds ls es → length s ≤ by_kind which 60293 60805 60869
  -- the two clauses of the replay allow one answer to the same bytes and list
  pub one_answer : {s out list list' : List ℕ} {a a' : Answer} → Replays s out a list → Replays s out a' list' → (a ≡ a') × (list ≡ list')
