-- The fresh state of a table: of the tasks ts and the links ls.
-- Assumes nothing.
use Rattle.std.specs.Prelude.{◌≡◌, Bool, cond, not, ◌&&◌, List, [], ◌∷◌, map, ℕ, ◌*◌, ◌/◌, ◌≤◌, eqb, length, replicate}
use Rattle.lists.specs.Lists.{upto, some}
use Rattle.protocol_state.specs.Records.{Task, no_task, deadline_of, Link, link_of, ahead_of}
use Rattle.protocol_state.specs.Saved.{Size, Saved, positions, at}
use Rattle.protocol_state.specs.Rules.{judged_table}

-- the first n of xs, in a list of that size; the slots past them hold 0
abbrev pub copied : ℕ → ℕ → List ℕ → List ℕ
copied size n xs = upto (λ i x. at xs i) n (replicate size 0)

-- one field of the records xs, in a list of that size
abbrev pub column : {A : Type 0} → ℕ → (A → ℕ) → List A → List ℕ
column size f xs = copied size (length xs) (map f xs)

-- each position of a task holds its default
abbrev pub filled : ℕ → List ℕ → List ℕ
filled size D = upto (λ i x. at D (i / positions)) (size * positions) (replicate (size * positions) 0)

-- under the policy p: newest and previous at 1, every position holding the default, no arrivals, every pointer absent, no marks, every task idle, no tick yet
unfoldable pub fresh_of : Size → ℕ → List Task → List Link → Saved
fresh_of size p ts ls = record {
  tasks = length ts;
  links = length ls;
  defaults = column size.tasks (λ (t : Task). t.default) ts;
  phase = replicate size.tasks 0;
  newest = replicate size.tasks 1;
  previous = replicate size.tasks 1;
  seen = replicate size.tasks 0;
  cells = filled size.tasks (column size.tasks (λ (t : Task). t.default) ts);
  writer = column size.links (λ (l : Link). l.writer) ls;
  reader = column size.links (λ (l : Link). l.reader) ls;
  kind = column size.links (λ (l : Link). l.kind) ls;
  start_value = column size.links (λ (l : Link). l.start_value) ls;
  pointer = replicate size.links 0;
  mark = replicate size.links 0;
  deadline = column size.tasks (λ (t : Task). t.deadline) ts;
  since = replicate size.tasks 0;
  last = 0;
  policy = p;
}

-- a single task with default 0 and no links, under fixed priorities
abbrev pub single : Size → Saved
single size = fresh_of size 0 (no_task ∷ []) []

-- what a table makes: its fresh state, or the refusal that it earns and the single task's
pub record Made : Type 0 where
  pub refusal : ℕ
  pub state : Saved

-- 24: under earliest deadline first one of the tasks has a relative deadline of 0
abbrev pub undated : ℕ → List Task → Bool
undated p ts = not (eqb p 0) && some (λ t. eqb (deadline_of ts t) 0) (length ts)

-- the tasks may come under the policy p: one of the two, and without deadlines under fixed priorities
pub record Policed (p : ℕ) (ts : List Task) : Type 0 where
  pub either : p ≤ 1
  pub fixed : p ≡ 0 → (t : ℕ) → deadline_of ts t ≡ 0

-- 24 is tried after 2 and before 3, as in a recording; r: the refusal of the table without it
abbrev pub then_dates : ℕ → Bool → ℕ
then_dates r none = cond (eqb r 2) 2 (cond none 24 r)

-- the refusal of a table, by the order that its tasks give: rules 2 to 9, 20 and 24
abbrev pub judged_lists : Size → ℕ → List Task → List Link → ℕ
judged_lists size p ts ls = then_dates (judged_table (ahead_of ts) (length ts) (link_of ls) size (length ls)) (undated p ts)

-- which of the two
unfoldable pub made : Size → ℕ → List Task → List Link → Made
made size p ts ls =
    cond (eqb (judged_lists size p ts ls) 0)
    (record { refusal = 0; state = fresh_of size p ts ls })
    (record { refusal = judged_lists size p ts ls; state = single size })
