-- Whole recordings: which are accepted, and what every answer says of the bytes, the state and the list.
-- Assumes nothing.
use Rattle.std.specs.Prelude.{◌≡◌, ◌≢◌, ◌⊎◌, List, [], ◌∷◌, ◌++◌, ℕ, ◌+◌, ◌≤◌, ◌<◌, length, drop, get_or}
use Rattle.protocol.specs.Event.{Event}
use Rattle.protocol.specs.Table.{Table}
use Rattle.protocol.specs.History.{Counts, counts, reads, past}
use Rattle.protocol_deadlines.specs.Timed.{Timed, timed, untimed}
use Rattle.byte_format.specs.Number.{number_at}
use Rattle.byte_format.specs.Stands.{Stands}
use Rattle.byte_format.specs.Format.{FitEach, encodes, encode_begun, encode_section}
use Rattle.protocol_state.specs.Records.{Task}
use Rattle.recording_format.specs.RecordingKind.{base_recording, wide_recording, dated_recording, any_kind}
use Rattle.recording_format.specs.declared.WhichKind.{WhichKind}
use Rattle.recording_format.specs.Task.{tasks, task_size, task_there}
use Rattle.recording_format.specs.Link.{Link, link_size, links, link_at}
use Rattle.recording_format.specs.Event.{events, encode_event, EventFits, size_of}
use Rattle.recording_format.specs.Event as event
use Rattle.recording_format.specs.Recording.{encode_first, encode_recording, task_place, through_e}
use Rattle.recording_format.specs.Outcome.{Begins}
use Rattle.recording.specs.declared.Answer.{Answer}
use Rattle.demands.specs.Station.{station, AllDated, Keeps}
use Rattle.demands.specs.Order.{Happen}
use Rattle.demands.specs.Calls.{Makes, Calls}
use Rattle.demands.specs.Refusals.{Earns, LinkBreaks, RecordBreaks}

-- `which` says of which kind a recording is, in all that follows: it begins with 253, 254 or 255 (specs of recording_format, `any_kind`)

-- the bytes of a recording, of its events, and through its count of events
abbrev pub recording_bytes : WhichKind → List Task → List Link → List (Timed ℕ) → List ℕ
recording_bytes which ds ls es = encode_recording (any_kind which) ds ls es

abbrev pub event_bytes : WhichKind → List (Timed ℕ) → List ℕ
event_bytes which es = encodes (events (any_kind which)) es

abbrev pub through_count : WhichKind → List Task → List Link → ℕ
through_count which ds ls = through_e (any_kind which) ds ls

-- no more tasks, and no more links, than the kind allows
abbrev pub FewTasks : WhichKind → List Task → Type 0
FewTasks which ds = length ds ≤ (any_kind which).tasks

abbrev pub FewLinks : WhichKind → List Link → Type 0
FewLinks which ls = length ls ≤ (any_kind which).links

-- the bytes s are the tasks ds, the links ls and the events es, within every limit of their kind, with room for the numbers of its reads in the lent list out,
-- and could happen
pub record Genuine (which : WhichKind) (s out : List ℕ) (ds : List Task) (ls : List Link) (es : List (Timed ℕ)) : Type 0 where
  -- "its links obey the published rules"
  pub keeps : Keeps (any_kind which).policy ds ls
  -- "its bytes .. the stated limits"
  pub bytes : s ≡ recording_bytes which ds ls es
  pub fits : FitEach (tasks (any_kind which)) ds × (FitEach (links (any_kind which)) ls × FitEach (events (any_kind which)) es)
  pub few_tasks : FewTasks which ds
  pub few_links : FewLinks which ls
  pub few : length es ≤ (any_kind which).events
  -- "and list room"
  pub room : reads (untimed es) ≤ length out
  -- "and its events could happen"
  pub happen : Happen (station ds ls) [] es

-- ---- what stands at the beginning of the bytes s, up to the place p, in order

-- the first byte, a count of tasks, and the first tasks, with no relative deadline of 0 in the dated kind
pub record TasksBegun (which : WhichKind) (s : List ℕ) (T : ℕ) (ds : List Task) (p : ℕ) : Type 0 where
  pub few : (1 ≤ T) × (T ≤ (any_kind which).tasks)
  pub dates : AllDated (any_kind which).policy ds
  pub fits : FitEach (tasks (any_kind which)) ds
  pub bytes : Stands s 0 (encode_first (any_kind which) ++ encode_begun (tasks (any_kind which)) T ds) p

-- the first byte, all tasks, a count of links, and the first links, which keep the rules
pub record LinksBegun (which : WhichKind) (s : List ℕ) (ds : List Task) (L : ℕ) (ls : List Link) (p : ℕ) : Type 0 where
  pub few_tasks : FewTasks which ds
  pub few : L ≤ (any_kind which).links
  pub keeps : Keeps (any_kind which).policy ds ls
  pub fits : FitEach (tasks (any_kind which)) ds × FitEach (links (any_kind which)) ls
  pub bytes : Stands s 0 (encode_first (any_kind which) ++ (encode_section (tasks (any_kind which)) ds ++ encode_begun (links (any_kind which)) L ls)) p

-- the first byte, the table, a count of events, and the first events
pub record EventsBegun (which : WhichKind) (s : List ℕ) (ds : List Task) (ls : List Link) (E : ℕ) (es : List (Timed ℕ)) (p : ℕ) : Type 0 where
  pub few_tasks : FewTasks which ds
  pub few_links : FewLinks which ls
  pub few : E ≤ (any_kind which).events
  pub keeps : Keeps (any_kind which).policy ds ls
  pub fits : FitEach (tasks (any_kind which)) ds × (FitEach (links (any_kind which)) ls × FitEach (events (any_kind which)) es)
  pub bytes : Stands s 0 (encode_first (any_kind which) ++
      (encode_section (tasks (any_kind which)) ds ++ (encode_section (links (any_kind which)) ls ++ encode_begun (events (any_kind which)) E es))) p

-- ---- refusals whose place is the first byte, or in the tasks, the links or one of the three counts

-- `TableFault s r p`: the first fault of the bytes s has the number r and lies there, at the place p
pub data TableFault (s : List ℕ) : ℕ → ℕ → Type 0 where
  -- the first byte: 1 where there is none, "another first byte is 2 at 0": one that is none of 253, 254 and 255
  no_first : length s ≡ 0 → TableFault s 1 0
  other_first : 1 ≤ length s → get_or s 0 0 ≢ base_recording.first → get_or s 0 0 ≢ wide_recording.first → get_or s 0 0 ≢ dated_recording.first → TableFault s 2 0
  -- T: 1 "the bytes end inside a count", 2 "T is 0 or above 16", in the other kinds 32
  cut_task_count : (which : WhichKind) → Begins (any_kind which) s → length s < task_place + (any_kind which).task_count_width → TableFault s 1 task_place
  bad_task_count : (which : WhichKind) → Begins (any_kind which) s → task_place + (any_kind which).task_count_width ≤ length s →
      (number_at (any_kind which).task_count_width s task_place ≡ 0) ⊎ ((any_kind which).tasks < number_at (any_kind which).task_count_width s task_place) → TableFault s 2 task_place
  -- a task: 1 "the bytes end inside a .. record"; then 24 "a relative deadline of 0", in the dated kind
  cut_task : (which : WhichKind) {T p : ℕ} {ds : List Task} → TasksBegun which s T ds p → length ds < T → length s < p + task_size (any_kind which) → TableFault s 1 p
  bad_task : (which : WhichKind) {T p : ℕ} {ds : List Task} → TasksBegun which s T ds p → length ds < T → p + task_size (any_kind which) ≤ length s →
      (any_kind which).policy ≡ 1 → (task_there (any_kind which) s p).deadline ≡ 0 → TableFault s 24 p
  -- L: 1, 3 "L is above 32", in the other kinds 96
  cut_link_count : (which : WhichKind) {p : ℕ} {ds : List Task} → TasksBegun which s (length ds) ds p → length s < p + (any_kind which).link_count_width → TableFault s 1 p
  bad_link_count : (which : WhichKind) {p : ℕ} {ds : List Task} → TasksBegun which s (length ds) ds p → p + (any_kind which).link_count_width ≤ length s →
      (any_kind which).links < number_at (any_kind which).link_count_width s p → TableFault s 3 p
  -- a link: "any byte missing (1), then rising order", 4 to 9, 20
  cut_link : (which : WhichKind) {L p : ℕ} {ds : List Task} {ls : List Link} → LinksBegun which s ds L ls p → length ls < L →
      length s < p + link_size (any_kind which) → TableFault s 1 p
  bad_link : (which : WhichKind) {L p r : ℕ} {ds : List Task} {ls : List Link} → LinksBegun which s ds L ls p → length ls < L → p + link_size (any_kind which) ≤ length s →
      Earns (LinkBreaks ds ls (link_at s p)) r → r ≢ 0 → TableFault s r p
  -- E: 1, 10 "E is above 10,000", in the dated kind 6,000
  cut_event_count : (which : WhichKind) {p : ℕ} {ds : List Task} {ls : List Link} → LinksBegun which s ds (length ls) ls p →
      length s < p + (any_kind which).event_count_width → TableFault s 1 p
  bad_event_count : (which : WhichKind) {p : ℕ} {ds : List Task} {ls : List Link} → LinksBegun which s ds (length ls) ls p → p + (any_kind which).event_count_width ≤ length s →
      (any_kind which).events < number_at (any_kind which).event_count_width s p → TableFault s 10 p

-- the four counts of an answer
abbrev pub four_counts : Answer → Counts
four_counts a = record { arrivals = a.arrivals; starts = a.starts; reads = a.reads; finishes = a.finishes }

-- "At a refusal whose place is in the tasks, the links or one of the three counts, the state is the fresh one of a single task with default 0 and no links,
-- all counts are 0, and the list is untouched."
-- By our reading so too at document 02's first byte, which stands before the tasks; "Refusals placed in the table, links or counts answer with the fixed-priority
-- state"
pub record AtTable (s out : List ℕ) (a : Answer) (list : List ℕ) : Type 0 where
  pub fault : TableFault s a.refusal a.place
  pub state : Makes 0 1 0 (0 ∷ []) [] [] [] [] [] (record { refusal = 0; state = a.state })
  pub counted : four_counts a ≡ record { arrivals = 0; starts = 0; reads = 0; finishes = 0 }
  pub listed : list ≡ out

-- ---- all other answers

-- how many bytes an event record has that begins with this byte; a byte with no line here is no kind of event
pub data KindOf (which : WhichKind) : ℕ → ℕ → Type 0 where
  an_arrival : KindOf which 1 (size_of (any_kind which) event.an_arrival)
  a_start : KindOf which 2 (size_of (any_kind which) event.a_start)
  a_read : KindOf which 3 (size_of (any_kind which) event.a_read)
  a_finish : KindOf which 4 (size_of (any_kind which) event.a_finish)

-- what the bytes s have at the place p after the events es, of E in all, and its number
pub data Ending (which : WhichKind) (T : Table ℕ) (s out : List ℕ) (E : ℕ) (es : List (Timed ℕ)) (p : ℕ) : ℕ → Type 0 where
  -- 0: no record is left, and no byte
  whole : length es ≡ E → p ≡ length s → Ending which T s out E es p 0
  -- 17: "bytes after the last record"
  extra : length es ≡ E → p < length s → Ending which T s out E es p 17
  -- "In an event record: kind byte missing (1), kind unknown (11), rest missing (1)
  no_kind : length es < E → p ≡ length s → Ending which T s out E es p 1
  unknown_kind : length es < E → p < length s → ((n : ℕ) → KindOf which (get_or s p 0) n → ⊥) → Ending which T s out E es p 11
  cut_event : length es < E → p < length s → (n : ℕ) → KindOf which (get_or s p 0) n → length s < p + n → Ending which T s out E es p 1
  -- then rising order of number": 12 to 16, 18, and with ticks 12, 22, 21, 13 to 16, 23, 18
  bad_event : {r : ℕ} → length es < E → (x : ℕ) (e : Event ℕ) (q : ℕ) → Stands s p (encode_event (any_kind which) (timed x e)) q → EventFits (any_kind which) (timed x e) →
      Earns (RecordBreaks T out (past [] es) x e) r → r ≢ 0 → Ending which T s out E es p r

-- the list that was lent as `out` begins with the numbers ns, which fit, and its rest is untouched
pub record Listed (ns out list : List ℕ) : Type 0 where
  pub room : length ns ≤ length out
  pub holds : list ≡ ns ++ drop (length ns) out

-- "Later, state and counts are those after the last accepted event; the list's first entries hold the numbers read, the rest is untouched.":
-- before the place stand the table and the events es; the state is the one of calls in which just these were accepted, the numbers are those that the calls
-- read, the counts are counted from these events
pub record AtEvents (s out : List ℕ) (a : Answer) (list : List ℕ) : Type 0 where
  pub which : WhichKind
  pub ds : List Task
  pub ls : List Link
  pub es : List (Timed ℕ)
  pub ns : List ℕ
  pub total : ℕ
  pub begun : EventsBegun which s ds ls total es a.place
  pub calls : Calls (station ds ls) es ns a.state
  pub counted : four_counts a ≡ counts (station ds ls) (past [] (untimed es))
  pub listed : Listed ns out list
  pub ending : Ending which (station ds ls) s out total es a.place a.refusal

-- every answer is one or the other (demand 1's `place`), and no two are right of the same bytes and list (demand 1's `only`)
abbrev pub Explained : List ℕ → List ℕ → Answer → List ℕ → Type 0
Explained s out a list = AtTable s out a list ⊎ AtEvents s out a list
