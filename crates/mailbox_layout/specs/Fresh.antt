-- The regions of a fresh state, as they are put.
-- Assumes nothing.
use Rattle.std.specs.Prelude.{List, [], ◌∷◌, ℕ, ◌*◌, ◌/◌, set, replicate}
use Rattle.lists.specs.Lists.{upto}
use Rattle.protocol_state.specs.Records.{Task, Link}
use Rattle.protocol_state.specs.Saved.{state_room, at, positions}
use Rattle.protocol_state.specs.Fresh.{column, filled}
use Rattle.regions.specs.Regions.{region}
use Rattle.mailbox_layout.specs.declared.Link.{Link as ByValue}
use Rattle.mailbox_layout.specs.Layout.{writer_region, reader_region, kind_region, start_value_region}

-- the control of a fresh state with the links ls, region by region: every task idle, newest and previous at 1, no arrivals; every pointer absent, no marks
abbrev pub fresh_control : List Link → List (List ℕ)
fresh_control ls =
    replicate state_room.tasks 0
    ∷ replicate state_room.tasks 1
    ∷ replicate state_room.tasks 1
    ∷ replicate state_room.tasks 0
    ∷ replicate state_room.links 0
    ∷ replicate state_room.links 0
    ∷ column state_room.links (λ (k : Link). k.writer) ls
    ∷ column state_room.links (λ (k : Link). k.reader) ls
    ∷ column state_room.links (λ (k : Link). k.kind) ls
    ∷ []

-- the values of the tasks ts before a position is filled, and before any link
abbrev pub empty_values : List Task → List (List ℕ)
empty_values ts = column state_room.tasks (λ (k : Task). k.default) ts ∷ replicate state_room.links 0 ∷ replicate (state_room.tasks * positions) 0 ∷ []

-- and those of a fresh state with the links ls: each position of a task holds its default
abbrev pub fresh_values : List Task → List Link → List (List ℕ)
fresh_values ts ls =
    column state_room.tasks (λ (k : Task). k.default) ts
    ∷ column state_room.links (λ (k : Link). k.start_value) ls
    ∷ filled state_room.tasks (column state_room.tasks (λ (k : Task). k.default) ts)
    ∷ []

-- the times of a fresh state of the tasks ts under the policy p: their deadlines, and no tick yet
abbrev pub fresh_times : ℕ → List Task → List (List ℕ)
fresh_times p ts = column state_room.tasks (λ (k : Task). k.deadline) ts ∷ replicate state_room.tasks 0 ∷ (0 ∷ []) ∷ (p ∷ []) ∷ []

-- with the number x at place l of region k
abbrev pub with_number : ℕ → ℕ → ℕ → List (List ℕ) → List (List ℕ)
with_number k l x rs = set rs k (set (region rs k) l x)

-- a link by value is this link of a table
abbrev pub as_record : ByValue → Link
as_record k = record { writer = k.writer; reader = k.reader; kind = k.kind; start_value = k.start_value }

-- the link k put at place l: in the control its writer, reader and kind
abbrev pub link_put : List (List ℕ) → ℕ → Link → List (List ℕ)
link_put rs l k = with_number kind_region l k.kind (with_number reader_region l k.reader (with_number writer_region l k.writer rs))

-- and in the values its start value
abbrev pub start_put : List (List ℕ) → ℕ → Link → List (List ℕ)
start_put rs l k = with_number start_value_region l k.start_value rs

-- the cells C with each position of a task holding its default D
abbrev pub each_default : List ℕ → List ℕ → List ℕ
each_default D C = upto (λ i x. at D (i / positions)) (state_room.tasks * positions) C
