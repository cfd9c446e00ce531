-- The cases that document 01 marks to be shown of the definitions, and document 02's (another first byte, a direct link with a start value, a task that reads its
-- own last output, both sides of what the kinds of recording differ in, the order of jobs and ticks at every edge), as one table under one claim: bytes, and the whole answer, which is refusal, place, state, counts and list.
-- Assumes nothing.
use mathlib.Core.Path.{◌≡◌, refl}
use mathlib.Core.List.{List, [], ◌∷◌, ◌++◌, map}
use Prim.Native.Nat.{ℕ, ◌-◌, ◌*◌}
use lib.ListN.{length, replicate}
use Rattle.lists.specs.Lists.{upto, every, some, count, first, leading}
use Rattle.protocol.specs.Event.{Event, arrival, start, read, finish, has}
use Rattle.protocol_deadlines.specs.Deadline.{smaller, ahead_by}
use Rattle.protocol_deadlines.specs.Timed.{Timed, timed, still}
use Rattle.protocol_state.specs.Records.{Task}
use Rattle.protocol_state.specs.Saved.{Saved, state_room, positions}
use Rattle.protocol_state.specs.Decision.{decided}
use Rattle.protocol_state.specs.Judge.{judged_arrival, judged_task, judged_read, sooner_in, judged_on_at}
use Rattle.protocol_state.specs.Next.{newest_after, previous_after, seen_after, pointer_after, mark_after, phase_after, since_after}
use Rattle.protocol_state.specs.Fresh.{fresh_of}
use Rattle.byte_format.specs.Number.{bytes_of, number_of}
use Rattle.byte_format.specs.Format.{encodes}
use Rattle.byte_format.specs.Play.{Verdict, verdict, play}
use Rattle.byte_format.specs.Section.{count_at, section}
use Rattle.recording_format.specs.Link.{Link, link_fault}
use Rattle.recording_format.specs.Event.{encode_event}
use Rattle.byte_format.specs.Kinded.{first_byte}
use Rattle.recording_format.specs.RecordingKind.{base_recording, wide_recording, dated_recording, kind_in}
use Rattle.recording_format.specs.Recording.{encode_recording, sections_then, table_then, events_from, recording}
use Rattle.recording_core.specs.Playing.{Playing, core_of, judged_in, stepped_in}

-- n entries, these first and x at the others
abbrev filled_up : ℕ → ℕ → List ℕ → List ℕ
filled_up n x xs = xs ++ replicate (n - length xs) x

-- the answer to these bytes, with room for eight numbers, each 7 at first
abbrev answer : List ℕ → Verdict Playing
answer s = recording (kind_in s) (core_of state_room (kind_in s).policy (replicate 8 7)) s

-- refusal r, 0 for none, at p, with this state and these counts: arrivals, starts, reads and finishes; and with these numbers read
abbrev replied : ℕ → ℕ → Saved → ℕ → ℕ → ℕ → ℕ → List ℕ → Verdict Playing
replied r p q a s n f list = verdict r p (record { state = q; counts = record { arrivals = a; starts = s; reads = n; finishes = f }; list = filled_up 8 7 list })

-- refusal r, 0 for none, at p, with this state: nothing counted, and the list untouched
abbrev untouched : ℕ → ℕ → Saved → Verdict Playing
untouched r p q = replied r p q 0 0 0 0 []

-- a link with this start value
abbrev linked : ℕ → ℕ → ℕ → ℕ → Link
linked w r k v = record { writer = w; reader = r; kind = k; start_value = v }

-- and one with the start value 0
abbrev link : ℕ → ℕ → ℕ → Link
link w r k = linked w r k 0

-- so many tasks with default 0 and so many links with these writers, readers and kinds and the start value 0, all of it fresh
abbrev fresh : ℕ → ℕ → List ℕ → List ℕ → List ℕ → Saved
fresh T L W R K = record {
  tasks = T;
  links = L;
  defaults = replicate state_room.tasks 0;
  phase = replicate state_room.tasks 0;
  newest = replicate state_room.tasks 1;
  previous = replicate state_room.tasks 1;
  seen = replicate state_room.tasks 0;
  cells = replicate (state_room.tasks * positions) 0;
  writer = filled_up state_room.links 0 W;
  reader = filled_up state_room.links 0 R;
  kind = filled_up state_room.links 0 K;
  start_value = replicate state_room.links 0;
  pointer = replicate state_room.links 0;
  mark = replicate state_room.links 0;
  deadline = replicate state_room.tasks 0;
  since = replicate state_room.tasks 0;
  last = 0;
  policy = 0;
}

-- a single task with no links: the state at a refusal before the events
abbrev alone : Saved
alone = fresh 1 0 [] [] []

-- tasks with these defaults
abbrev tasks : List ℕ → List Task
tasks ds = map (λ (d : ℕ). record { default = d; deadline = 0 }) ds

-- two tasks and one link
abbrev joined : Link → List ℕ
joined l = encode_recording base_recording (tasks (0 ∷ 0 ∷ [])) (l ∷ []) []

-- task 0 to tasks 1 to 8, and to task 9 besides
abbrev nine : List ℕ
nine =
    encode_recording base_recording (tasks (replicate 10 0))
    (link 0 1 0 ∷ link 0 2 0 ∷ link 0 3 0 ∷ link 0 4 0 ∷ link 0 5 0 ∷ link 0 6 0 ∷ link 0 7 0 ∷ link 0 8 0 ∷ link 0 9 0 ∷ []) []

-- the station of the long example, with these events
abbrev example : List (Event ℕ) → List ℕ
example es = encode_recording base_recording (tasks (0 ∷ 100 ∷ 0 ∷ 0 ∷ [])) (linked 1 0 1 90 ∷ link 1 2 0 ∷ link 1 3 0 ∷ []) (still es)

-- its state: phases, newest and previous of its tasks, what is seen of their arrivals, the first numbers of task 1, which has 100 at the other
-- positions, and pointers and marks of its links
abbrev station : List ℕ → List ℕ → List ℕ → List ℕ → List ℕ → List ℕ → List ℕ → Saved
station ph n p a c x m = record {
  tasks = 4;
  links = 3;
  defaults = filled_up state_room.tasks 0 (0 ∷ 100 ∷ []);
  phase = filled_up state_room.tasks 0 ph;
  newest = filled_up state_room.tasks 1 n;
  previous = filled_up state_room.tasks 1 p;
  seen = filled_up state_room.tasks 0 a;
  cells = filled_up (state_room.tasks * positions) 0 (replicate positions 0 ++ filled_up positions 100 c);
  writer = filled_up state_room.links 0 (1 ∷ 1 ∷ 1 ∷ []);
  reader = filled_up state_room.links 0 (0 ∷ 2 ∷ 3 ∷ []);
  kind = filled_up state_room.links 0 (1 ∷ []);
  start_value = filled_up state_room.links 0 (90 ∷ []);
  pointer = filled_up state_room.links 0 x;
  mark = filled_up state_room.links 0 m;
  deadline = replicate state_room.tasks 0;
  since = replicate state_room.tasks 0;
  last = 0;
  policy = 0;
}

-- after the first arrival, with these phases: the delayed link has settled on its start value
abbrev arrived : List ℕ → Saved
arrived ph = station ph (2 ∷ 2 ∷ 2 ∷ 2 ∷ []) (1 ∷ []) (1 ∷ 1 ∷ 1 ∷ 1 ∷ []) [] (1 ∷ 2 ∷ 2 ∷ []) (1 ∷ [])

-- after the second
abbrev midway : Saved
midway = station (1 ∷ 1 ∷ 0 ∷ 2 ∷ []) (1 ∷ 1 ∷ 2 ∷ 2 ∷ []) (2 ∷ 2 ∷ 1 ∷ 1 ∷ []) (2 ∷ 2 ∷ 1 ∷ 1 ∷ []) (100 ∷ 101 ∷ []) (2 ∷ 0 ∷ 2 ∷ []) []

-- after all events
abbrev done : Saved
done = station [] (1 ∷ 3 ∷ 1 ∷ 1 ∷ []) (2 ∷ 1 ∷ 2 ∷ 2 ∷ []) (2 ∷ 2 ∷ 2 ∷ 2 ∷ []) (102 ∷ 101 ∷ 103 ∷ []) (1 ∷ []) []

-- up to the second arrival, and the rest
abbrev begun : List (Event ℕ)
begun = arrival 15 ∷ start 0 ∷ read 0 ∷ finish 0 0 ∷ start 1 ∷ finish 1 101 ∷ start 2 ∷ read 1 ∷ finish 2 0 ∷ start 3 ∷ arrival 3 ∷ []

abbrev rest : List (Event ℕ)
rest =
    start 0 ∷ read 0 ∷ finish 0 0 ∷ start 1 ∷ finish 1 102 ∷ arrival 4 ∷ start 2 ∷ read 1 ∷ finish 2 0 ∷ arrival 3 ∷ start 0 ∷ read 0 ∷ finish 0 0 ∷ start 1
    ∷ finish 1 103 ∷ read 2 ∷ finish 3 0 ∷ arrival 9 ∷ start 0 ∷ read 0 ∷ finish 0 0 ∷ start 3 ∷ read 2 ∷ finish 3 0 ∷ []

-- a filter: one task, which reads its own last output, first the start value 40, and adds 1; two runs
abbrev filter : List ℕ
filter =
    encode_recording base_recording (tasks (0 ∷ [])) (linked 0 0 1 40 ∷ [])
    (still (arrival 1 ∷ start 0 ∷ read 0 ∷ finish 0 41 ∷ arrival 1 ∷ start 0 ∷ read 0 ∷ finish 0 42 ∷ []))

-- its state then: two positions, and the pointer stays at what the second run read
abbrev filtered : Saved
filtered = record {
  tasks = 1;
  links = 1;
  defaults = replicate state_room.tasks 0;
  phase = replicate state_room.tasks 0;
  newest = replicate state_room.tasks 1;
  previous = filled_up state_room.tasks 1 (2 ∷ []);
  seen = filled_up state_room.tasks 0 (2 ∷ []);
  cells = filled_up (state_room.tasks * positions) 0 (42 ∷ 41 ∷ []);
  writer = replicate state_room.links 0;
  reader = replicate state_room.links 0;
  kind = filled_up state_room.links 0 (1 ∷ []);
  start_value = filled_up state_room.links 0 (40 ∷ []);
  pointer = filled_up state_room.links 0 (2 ∷ []);
  mark = replicate state_room.links 0;
  deadline = replicate state_room.tasks 0;
  since = replicate state_room.tasks 0;
  last = 0;
  policy = 0;
}

-- one task, no links, no events
abbrev least : List ℕ
least = 253 ∷ 1 ∷ 0 ∷ 0 ∷ 0 ∷ 0 ∷ 0 ∷ 0 ∷ 0 ∷ []

-- a recording that begins with this byte, of one task and no links: a link count in its place, or one event and these bytes of its record
abbrev counting : ℕ → ℕ → List ℕ
counting first L = first ∷ 1 ∷ 0 ∷ 0 ∷ 0 ∷ 0 ∷ L ∷ []

abbrev eventful : ℕ → List ℕ → List ℕ
eventful first bytes = counting first 0 ++ (1 ∷ 0 ∷ bytes)

-- a recording of the wide kind, of so many tasks and no links
abbrev wide : ℕ → List (Event ℕ) → List ℕ
wide T es = encode_recording wide_recording (tasks (replicate T 0)) [] (still es)

-- so many tasks after the first arrival of the last, and of one alone
abbrev last_arrived : ℕ → Saved
last_arrived T = record {
  tasks = T;
  links = 0;
  defaults = replicate state_room.tasks 0;
  phase = filled_up state_room.tasks 0 (replicate (T - 1) 0 ++ (1 ∷ []));
  newest = filled_up state_room.tasks 1 (replicate (T - 1) 1 ++ (2 ∷ []));
  previous = replicate state_room.tasks 1;
  seen = filled_up state_room.tasks 0 (replicate (T - 1) 0 ++ (1 ∷ []));
  cells = replicate (state_room.tasks * positions) 0;
  writer = replicate state_room.links 0;
  reader = replicate state_room.links 0;
  kind = replicate state_room.links 0;
  start_value = replicate state_room.links 0;
  pointer = replicate state_room.links 0;
  mark = replicate state_room.links 0;
  deadline = replicate state_room.tasks 0;
  since = replicate state_room.tasks 0;
  last = 0;
  policy = 0;
}

-- a recording of the dated kind: two tasks with the relative deadlines 10 and 5, a direct link from the second, which is ahead, to the first, and these events
abbrev dated : List (Timed ℕ) → List ℕ
dated es = encode_recording dated_recording (record { default = 0; deadline = 10 } ∷ record { default = 0; deadline = 5 } ∷ []) (link 1 0 0 ∷ []) es

-- its state: phases and newest of both, what is seen of their arrivals, the pointer, arrival ticks and last tick
abbrev dated_at : List ℕ → List ℕ → List ℕ → List ℕ → List ℕ → ℕ → Saved
dated_at ph n a x y z = record {
  tasks = 2;
  links = 1;
  defaults = replicate state_room.tasks 0;
  phase = filled_up state_room.tasks 0 ph;
  newest = filled_up state_room.tasks 1 n;
  previous = replicate state_room.tasks 1;
  seen = filled_up state_room.tasks 0 a;
  cells = replicate (state_room.tasks * positions) 0;
  writer = filled_up state_room.links 0 (1 ∷ []);
  reader = replicate state_room.links 0;
  kind = replicate state_room.links 0;
  start_value = replicate state_room.links 0;
  pointer = filled_up state_room.links 0 x;
  mark = replicate state_room.links 0;
  deadline = filled_up state_room.tasks 0 (10 ∷ 5 ∷ []);
  since = filled_up state_room.tasks 0 y;
  last = z;
  policy = 1;
}

-- and of one with a single task, whose relative deadline is 1, before its first event
abbrev alone_dated : Saved
alone_dated = record {
  tasks = 1;
  links = 0;
  defaults = alone.defaults;
  phase = alone.phase;
  newest = alone.newest;
  previous = alone.previous;
  seen = alone.seen;
  cells = alone.cells;
  writer = alone.writer;
  reader = alone.reader;
  kind = alone.kind;
  start_value = alone.start_value;
  pointer = alone.pointer;
  mark = alone.mark;
  deadline = filled_up state_room.tasks 0 (1 ∷ []);
  since = alone.since;
  last = 0;
  policy = 1;
}

-- the first arrives at 0, due at 10, the second at x, due at x + 5; and these events
abbrev both : ℕ → List (Timed ℕ) → List ℕ
both x es = dated (timed 0 (arrival 1) ∷ timed x (arrival 2) ∷ es)

abbrev came : ℕ → List ℕ → ℕ → Saved
came x ph z = dated_at ph (2 ∷ 2 ∷ []) (1 ∷ 1 ∷ []) (1 ∷ []) (0 ∷ x ∷ []) z

abbrev cases : List (List ℕ)
cases =
    -- empty input
    []
    -- another first byte
    ∷ (252 ∷ [])
    -- the least recording
    ∷ least
    -- and one byte
    ∷ (least ++ (0 ∷ []))
    -- T is 16, whose tasks are missing, and 17
    ∷ (253 ∷ 16 ∷ [])
    ∷ (253 ∷ 17 ∷ [])
    -- the wide kind: the least, T is 17, whose tasks are missing, 32 and 33
    ∷ wide 1 []
    ∷ (254 ∷ 17 ∷ [])
    ∷ (254 ∷ 32 ∷ [])
    ∷ (254 ∷ 33 ∷ [])
    -- the dated kind: T is 32, whose tasks are missing, and 33; a relative deadline of 0, of 1, which is 6 bytes; E is 6,000, whose events are missing, and 6,001
    ∷ (255 ∷ 32 ∷ [])
    ∷ (255 ∷ 33 ∷ [])
    ∷ (255 ∷ 1 ∷ 0 ∷ 0 ∷ 0 ∷ 0 ∷ 0 ∷ 0 ∷ [])
    ∷ (255 ∷ 1 ∷ 0 ∷ 0 ∷ 0 ∷ 0 ∷ 1 ∷ [])
    ∷ (255 ∷ 1 ∷ 0 ∷ 0 ∷ 0 ∷ 0 ∷ 1 ∷ 0 ∷ 0 ∷ 112 ∷ 23 ∷ [])
    ∷ (255 ∷ 1 ∷ 0 ∷ 0 ∷ 0 ∷ 0 ∷ 1 ∷ 0 ∷ 0 ∷ 113 ∷ 23 ∷ [])
    -- due at 10 and 11: the first goes first; due at 10 and 10: the second does; due at 10 and 9: the second does
    ∷ both 6 (timed 6 (start 0) ∷ [])
    ∷ both 6 (timed 6 (start 1) ∷ [])
    ∷ both 5 (timed 5 (start 0) ∷ [])
    ∷ both 5 (timed 5 (start 1) ∷ [])
    ∷ both 4 (timed 4 (start 0) ∷ [])
    -- 12 before 22, the largest tick, 22 before 13, 21 before 13, equal ticks
    ∷ both 6 (timed 4000000001 (arrival 4) ∷ [])
    ∷ both 6 (timed 4000000000 (start 0) ∷ [])
    ∷ both 6 (timed 4000000001 (arrival 1) ∷ [])
    ∷ both 6 (timed 5 (arrival 1) ∷ [])
    ∷ both 6 (timed 6 (arrival 1) ∷ [])
    -- a finish at its deadline, and one tick after it; 16 before 23
    ∷ both 6 (timed 6 (start 0) ∷ timed 10 (finish 0 0) ∷ [])
    ∷ both 6 (timed 6 (start 0) ∷ timed 11 (finish 0 0) ∷ [])
    ∷ dated (timed 0 (arrival 1) ∷ timed 3 (start 0) ∷ timed 5 (arrival 2) ∷ timed 11 (finish 0 0) ∷ [])
    -- L is 32, whose links are missing, 33, and of the wide kind 33, 96 and 97
    ∷ counting 253 32
    ∷ counting 253 33
    ∷ counting 254 33
    ∷ counting 254 96
    ∷ counting 254 97
    -- an arrival with a set of two bytes, of four
    ∷ eventful 253 (1 ∷ 1 ∷ 0 ∷ [])
    ∷ eventful 253 (1 ∷ 1 ∷ 0 ∷ 0 ∷ 0 ∷ [])
    ∷ eventful 254 (1 ∷ 1 ∷ 0 ∷ [])
    ∷ eventful 254 (1 ∷ 1 ∷ 0 ∷ 0 ∷ 0 ∷ [])
    -- the arrival of task 31, where there is one
    ∷ wide 32 (arrival 2147483648 ∷ [])
    ∷ wide 31 (arrival 2147483648 ∷ [])
    -- a ninth link to a reader behind
    ∷ nine
    -- link 1 to 0, direct and delayed
    ∷ joined (link 1 0 0)
    ∷ joined (link 1 0 1)
    -- link 0 to 0, direct and delayed
    ∷ joined (link 0 0 0)
    ∷ joined (link 0 0 1)
    -- kind 2, and from a task to itself
    ∷ joined (link 0 1 2)
    ∷ joined (link 0 0 2)
    -- a direct link with the start value 1
    ∷ joined (linked 0 1 0 1)
    -- the filter
    ∷ filter
    -- R2 right after the second arrival
    ∷ example (begun ++ (read 2 ∷ []))
    -- A{3} there
    ∷ example (begun ++ (arrival 8 ∷ []))
    -- the long example
    ∷ example (begun ++ rest)
    -- S0 twice
    ∷ example (arrival 15 ∷ start 0 ∷ start 0 ∷ [])
    -- R0 before S0
    ∷ example (arrival 15 ∷ read 0 ∷ [])
    ∷ []

pub marked_cases : map answer cases ≡
    (untouched 1 0 alone
    ∷ untouched 2 0 alone
    ∷ untouched 0 9 alone
    ∷ untouched 17 9 alone
    ∷ untouched 1 2 alone
    ∷ untouched 2 1 alone
    ∷ untouched 0 9 alone
    ∷ untouched 1 2 alone
    ∷ untouched 1 2 alone
    ∷ untouched 2 1 alone
    ∷ untouched 1 2 alone
    ∷ untouched 2 1 alone
    ∷ untouched 24 2 alone
    ∷ untouched 1 2 alone
    ∷ untouched 1 11 alone_dated
    ∷ untouched 10 9 alone
    ∷ replied 0 48 (came 6 (2 ∷ 1 ∷ []) 6) 2 1 0 0 []
    ∷ replied 16 42 (came 6 (1 ∷ 1 ∷ []) 6) 2 0 0 0 []
    ∷ replied 16 42 (came 5 (1 ∷ 1 ∷ []) 5) 2 0 0 0 []
    ∷ replied 0 48 (came 5 (1 ∷ 2 ∷ []) 5) 2 1 0 0 []
    ∷ replied 16 42 (came 4 (1 ∷ 1 ∷ []) 4) 2 0 0 0 []
    ∷ replied 12 42 (came 6 (1 ∷ 1 ∷ []) 6) 2 0 0 0 []
    ∷ replied 0 48 (came 6 (2 ∷ 1 ∷ []) 4000000000) 2 1 0 0 []
    ∷ replied 22 42 (came 6 (1 ∷ 1 ∷ []) 6) 2 0 0 0 []
    ∷ replied 21 42 (came 6 (1 ∷ 1 ∷ []) 6) 2 0 0 0 []
    ∷ replied 13 42 (came 6 (1 ∷ 1 ∷ []) 6) 2 0 0 0 []
    ∷ replied 0 58 (dated_at (0 ∷ 1 ∷ []) (2 ∷ 2 ∷ []) (1 ∷ 1 ∷ []) [] (0 ∷ 6 ∷ []) 10) 2 1 0 1 []
    ∷ replied 23 48 (came 6 (2 ∷ 1 ∷ []) 6) 2 1 0 0 []
    ∷ replied 16 48 (came 5 (2 ∷ 1 ∷ []) 5) 2 1 0 0 []
    ∷ untouched 1 7 alone
    ∷ untouched 3 6 alone
    ∷ untouched 1 7 alone
    ∷ untouched 1 7 alone
    ∷ untouched 3 6 alone
    ∷ replied 0 12 (last_arrived 1) 1 0 0 0 []
    ∷ replied 17 12 (last_arrived 1) 1 0 0 0 []
    ∷ untouched 1 9 alone
    ∷ replied 0 14 (last_arrived 1) 1 0 0 0 []
    ∷ replied 0 138 (last_arrived 32) 1 0 0 0 []
    ∷ untouched 12 129 (fresh 31 0 [] [] [])
    ∷ untouched 9 99 alone
    ∷ untouched 7 11 alone
    ∷ untouched 0 20 (fresh 2 1 (1 ∷ []) (0 ∷ []) (1 ∷ []))
    ∷ untouched 5 11 alone
    ∷ untouched 0 20 (fresh 2 1 (0 ∷ []) (0 ∷ []) (1 ∷ []))
    ∷ untouched 6 11 alone
    ∷ untouched 6 11 alone
    ∷ untouched 20 11 alone
    ∷ replied 0 42 filtered 2 2 2 2 (40 ∷ 41 ∷ [])
    ∷ replied 16 78 midway 6 4 2 3 (90 ∷ 101 ∷ [])
    ∷ replied 13 78 midway 6 4 2 3 (90 ∷ 101 ∷ [])
    ∷ replied 0 161 done 11 11 8 11 (90 ∷ 101 ∷ 101 ∷ 102 ∷ 102 ∷ 101 ∷ 102 ∷ 103 ∷ [])
    ∷ replied 14 47 (arrived (2 ∷ 1 ∷ 1 ∷ 1 ∷ [])) 4 1 0 0 []
    ∷ replied 15 45 (arrived (1 ∷ 1 ∷ 1 ∷ 1 ∷ [])) 4 0 0 0 []
    ∷ [])
unfolding still smaller ahead_by sooner_in judged_on_at since_after upto every some count first leading has decided judged_arrival judged_task judged_read newest_after previous_after seen_after pointer_after mark_after phase_after fresh_of bytes_of number_of encodes play count_at section link_fault first_byte encode_event recording sections_then table_then events_from judged_in stepped_in
marked_cases = refl
