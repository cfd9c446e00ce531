-- The tasks and the links of a table as lists of records, and the order of the tasks, which comes from them.
-- Assumes nothing.
use Rattle.std.specs.Prelude.{Bool, List, map, ℕ, ltb, get_or}
use Rattle.protocol.specs.Instant.{upward}
use Rattle.protocol_deadlines.specs.Deadline.{ahead_by}

-- a task: its default, and its relative deadline, which is 0 under fixed priorities
pub record Task : Type 0 where
  pub default : ℕ
  pub deadline : ℕ

-- what stands past the last task; no rule speaks of it
abbrev pub no_task : Task
no_task = record { default = 0; deadline = 0 }

-- task t of these
abbrev pub task_of : List Task → ℕ → Task
task_of ts t = get_or ts t no_task

-- its relative deadline
abbrev pub deadline_of : List Task → ℕ → ℕ
deadline_of ts t = (task_of ts t).deadline

-- a link: "writer, reader, kind (0 direct, 1 delayed)", and document 02's start value
pub record Link : Type 0 where
  pub writer : ℕ
  pub reader : ℕ
  pub kind : ℕ
  pub start_value : ℕ

-- what stands past the last link; no rule speaks of it
abbrev pub no_link : Link
no_link = record { writer = 0; reader = 0; kind = 0; start_value = 0 }

-- link l of these
abbrev pub link_of : List Link → ℕ → Link
link_of ls l = get_or ls l no_link

-- one field of all links
abbrev pub writers : List Link → List ℕ
writers ls = map (λ (l : Link). l.writer) ls

abbrev pub readers : List Link → List ℕ
readers ls = map (λ (l : Link). l.reader) ls

abbrev pub kinds : List Link → List ℕ
kinds ls = map (λ (l : Link). l.kind) ls

abbrev pub start_values : List Link → List ℕ
start_values ls = map (λ (l : Link). l.start_value) ls

-- a table handed over in arrays: task t of the defaults D and the relative deadlines X
abbrev pub task_from : List ℕ → List ℕ → ℕ → Task
task_from D X t = record { default = get_or D t 0; deadline = get_or X t 0 }

-- and the first T of these; without deadlines X is empty
abbrev pub first_tasks : ℕ → List ℕ → List ℕ → List Task
first_tasks T D X = map (task_from D X) (upward 0 T)

-- link l of the writers W, the readers R, the kinds K and the start values B
abbrev pub link_from : List ℕ → List ℕ → List ℕ → List ℕ → ℕ → Link
link_from W R K B l = record { writer = get_or W l 0; reader = get_or R l 0; kind = get_or K l 0; start_value = get_or B l 0 }

-- and the first L of these
abbrev pub first_links : ℕ → List ℕ → List ℕ → List ℕ → List ℕ → List Link
first_links L W R K B = map (link_from W R K B) (upward 0 L)

-- "the earlier one is more urgent": under fixed priorities task u is ahead of task t
abbrev pub earlier : ℕ → ℕ → Bool
earlier u t = ltb u t

-- who is ahead of whom, by the tasks of a table: "smaller relative deadline, then earlier in the table"
abbrev pub ahead_of : List Task → ℕ → ℕ → Bool
ahead_of ts = ahead_by (deadline_of ts)
