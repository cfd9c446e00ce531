-- The line of a record that the writer refuses.
-- Assumes nothing.
use Rattle.std.specs.Prelude.{Bool, cond, ◌||◌, ◌&&◌, List, [], ◌∷◌, ℕ, suc, ◌+◌, ◌-◌, eqb, leb, length}
use Rattle.recording_format.specs.declared.WhichKind.{WhichKind}
use Rattle.recording_format.specs.RecordingKind.{any_kind}
use Rattle.recording_format.specs.Task.{task_size}
use Rattle.recording_format.specs.Link.{link_size}
use Rattle.recording_format.specs.Event.{an_arrival, a_start, a_read, a_finish, size_of}
use Rattle.recording_format.specs.Recording.{task_place}
use Rattle.recording_text_line.specs.Line.{Says, sort, text_says}
use Rattle.recording_text_place.specs.declared.Measure.{Measure}
use Rattle.recording_text_place.specs.declared.Measure.TheVariants.{Records, Bytes}

-- the bytes of a task, a link or an event in a recording of a kind: T, L, F, S and R, and A
unfoldable pub bytes_of : WhichKind → ℕ → ℕ
bytes_of which b =
    let kind = any_kind which in
    cond (eqb b 84) (task_size kind) (cond (eqb b 76) (link_size kind) (cond (eqb b 70) (size_of kind a_finish) (cond (eqb b 83) (size_of kind a_start) (cond (eqb b 82) (size_of kind a_read) (size_of kind an_arrival)))))

-- what a record counts on the way to another: one, or its bytes in a recording of a kind
abbrev pub weight : Measure → ℕ → ℕ
weight Records b = 1
weight (Bytes which) b = bytes_of which b

-- what a line counts on the way to a record of one sort: nothing where it has no such record
abbrev pub step : Measure → ℕ → ℕ → ℕ
step measure k b = cond (eqb (sort b) k) (weight measure b) 0

-- the bytes of all records of one sort
unfoldable pub all_bytes : WhichKind → ℕ → List Says → ℕ
all_bytes which k [] = 0
all_bytes which k (s ∷ ss) = step (Bytes which) k s.letter + all_bytes which k ss

-- the line of the first record of one sort before which so much stands, the lines numbered from n; the line after the last where there is none
unfoldable pub line_after : Measure → ℕ → ℕ → ℕ → List Says → ℕ
line_after measure k much n [] = n
line_after measure k much n (s ∷ ss) =
    cond (eqb (sort s.letter) k && eqb much 0) n
    (line_after measure k (much - step measure k s.letter) (suc n) ss)

-- the line of the record of one sort that has so many before it
abbrev pub numbered : ℕ → ℕ → List Says → ℕ
numbered k before ss = line_after Records k before 1 ss

-- the line of the record of one sort that begins so many bytes behind the first of them
abbrev pub placed : WhichKind → ℕ → ℕ → List Says → ℕ
placed which k bytes ss = line_after (Bytes which) k bytes 1 ss

-- where the tasks of a recording begin: behind the first byte, and T
abbrev pub tasks_at : WhichKind → ℕ
tasks_at which = task_place + (any_kind which).task_count_width

-- where its links begin: behind the tasks, and L
abbrev pub links_at : WhichKind → List Says → ℕ
links_at which ss = tasks_at which + (any_kind which).link_count_width + all_bytes which 1 ss

-- where its events begin: behind the links, and E
abbrev pub events_at : WhichKind → List Says → ℕ
events_at which ss = links_at which ss + (any_kind which).event_count_width + all_bytes which 2 ss

-- the line after the last
abbrev pub after_last : List Says → ℕ
after_last ss = suc (length ss)

-- whether a number is one of those from one to another
abbrev pub one_of : ℕ → ℕ → ℕ → Bool
one_of low high n = leb low n && leb n high

-- the rules of links: 4 to 9, and 20
abbrev pub of_link : ℕ → Bool
of_link refusal = one_of 4 9 refusal || eqb refusal 20

-- those of events: 12 to 16, and of their ticks 21 to 23
abbrev pub of_event : ℕ → Bool
of_event refusal = one_of 12 16 refusal || one_of 21 23 refusal

-- the line of refusal 2: at place 0 that of the kind, elsewhere that of the first task past the limit
unfoldable pub kind_or_task : WhichKind → ℕ → List Says → ℕ
kind_or_task which place ss = cond (eqb place 0) (numbered 4 0 ss) (numbered 1 (any_kind which).tasks ss)

-- the line of a refusal in the text of a recording of a kind, by what its lines say: that of a rule of links the link, that of one of events the event, and 24
-- the task at the place; 2 the kind or the first task past the limit, 3 and 10 the first link or event past it
unfoldable pub refusal_line : WhichKind → ℕ → ℕ → List Says → ℕ
refusal_line which refusal place ss =
    cond (of_link refusal) (placed which 2 (place - links_at which ss) ss)
    (cond (of_event refusal) (placed which 3 (place - events_at which ss) ss)
    (cond (eqb refusal 2) (kind_or_task which place ss)
    (cond (eqb refusal 3) (numbered 2 (any_kind which).links ss)
    (cond (eqb refusal 10) (numbered 3 (any_kind which).events ss)
    (cond (eqb refusal 24) (placed which 1 (place - tasks_at which) ss)
    (after_last ss))))))

-- in a text
abbrev pub line_of : WhichKind → List ℕ → ℕ → ℕ → ℕ
line_of which text refusal place = refusal_line which refusal place (text_says text)
