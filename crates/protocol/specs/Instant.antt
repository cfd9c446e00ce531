-- The run where tasks take no time, carried out: at each arrival all arrived tasks run whole, most urgent first, each reading its links from the outputs produced so far.
-- Assumes nothing.
use Rattle.std.specs.Prelude.{◌≡◌, Bool, true, false, cond, ◌&&◌, ◌||◌, List, [], ◌∷◌, ℕ, zero, suc, ◌<◌, eqb}
use Rattle.protocol.specs.Event.{Event, arrival, start, read, finish, has}
use Rattle.protocol.specs.Given.{Given, there, missing}
use Rattle.protocol.specs.Table.{Table, early, start_of}
use Rattle.protocol.specs.History.{tick, arrivals, output}
use Rattle.protocol.specs.ZeroTime.{run_of}

-- one read: by link `link`, in run number `job` of its reader
pub record LogEntry (Val : Type 0) : Type 0 where
  pub job : ℕ
  pub link : ℕ
  pub given : Given Val

-- how often each task has arrived, how often it has run, the outputs produced so far (number k of task w), and what was read, the last one first
pub record Moment (Val : Type 0) : Type 0 where
  pub arrived : ℕ → ℕ
  pub runs : ℕ → ℕ
  pub made : ℕ → ℕ → Given Val
  pub log : List (LogEntry Val)

-- the tasks of the set m arrive, all at once
unfoldable pub come : {Val : Type 0} → ℕ → Moment Val → Moment Val
come m s = record { arrived = λ t. tick (has m t) (s.arrived t); runs = s.runs; made = s.made; log = s.log }

module _ {Val : Type 0} (T : Table Val) where
  -- what link l gives: `start_of` while its writer has no run for it; then, of the outputs produced so far, that of its writer's last run, or of the one before it
  unfoldable pub ask : Moment Val → ℕ → Given Val
  ask s l =
      cond (early (T.delayed l) (s.arrived (T.writer l))) (there (start_of T l)) (s.made (T.writer l) (run_of (T.delayed l) (s.arrived (T.writer l))))

  -- task t reads those of the first n links that are its own
  unfoldable pub read_links : Moment Val → ℕ → ℕ → List (LogEntry Val)
  read_links s t zero = s.log
  read_links s t (suc l) =
      cond (eqb (T.reader l) t) (record { job = suc (s.runs t); link = l; given = ask s l } ∷ read_links s t l) (read_links s t l)

-- `out w k`: what run number k of task w gives; missing, if that is not known
module _ {Val : Type 0} (T : Table Val) (out : ℕ → ℕ → Given Val) where
  -- task t runs whole: it reads its links, then its output is there, if it is known
  unfoldable pub run_whole : ℕ → Moment Val → Moment Val
  run_whole t s = record {
    arrived = s.arrived;
    runs = λ u. tick (eqb t u) (s.runs u);
    made = λ u k. cond (eqb t u && eqb k (suc (s.runs u))) (out u k) (s.made u k);
    log = read_links T s t T.links;
  }

  -- of the tasks listed, those of the set m run, one after the other
  unfoldable pub work : ℕ → List ℕ → Moment Val → Moment Val
  work m [] s = s
  work m (t ∷ ts) s = work m ts (cond (has m t) (run_whole t s) s)

  -- the arrival sets, the last one first; `order`: the tasks, most urgent first. At the beginning there is no output
  unfoldable pub carried : List ℕ → List ℕ → Moment Val
  carried order [] = record { arrived = λ t. 0; runs = λ t. 0; made = λ w k. missing; log = [] }
  carried order (m ∷ ms) = work m order (come m (carried order ms))

-- p stands in the list
unfoldable pub mem : ℕ → List ℕ → Bool
mem p [] = false
mem p (x ∷ xs) = eqb p x || mem p xs

-- none twice, and none before one that is ahead of it
unfoldable pub Sorted : (ℕ → ℕ → Bool) → List ℕ → Type 0
Sorted ahead [] = Unit {0}
Sorted ahead (t ∷ ts) = ((u : ℕ) → mem u (t ∷ ts) ≡ true → ahead u t ≡ false) × (mem t ts ≡ false) × Sorted ahead ts

-- every task of the table, most urgent first
pub record Order {Val : Type 0} (T : Table Val) (order : List ℕ) : Type 0 where
  pub sorted : Sorted T.ahead order
  pub all : (t : ℕ) → t < T.tasks → mem t order ≡ true

-- n tasks from k on: under fixed priorities the order is `upward 0 n`
unfoldable pub upward : ℕ → ℕ → List ℕ
upward k zero = []
upward k (suc n) = k ∷ upward (suc k) n

-- a history's arrival sets, the last one first
unfoldable pub sets : {Val : Type 0} → List (Event Val) → List ℕ
sets [] = []
sets (arrival m ∷ h) = m ∷ sets h
sets (start u ∷ h) = sets h
sets (read l ∷ h) = sets h
sets (finish u v ∷ h) = sets h

-- all reads of the run where tasks take no time, with the arrivals and the outputs of a history: what a run gives that the history leaves unfinished is missing
abbrev pub zero_run : {Val : Type 0} → Table Val → List ℕ → List (Event Val) → List (LogEntry Val)
zero_run T order h = (carried T (output h) order (sets h)).log

-- what run number j of link l's reader read by l
unfoldable pub find : {Val : Type 0} → ℕ → ℕ → List (LogEntry Val) → Given Val
find l j [] = missing
find l j (e ∷ es) = cond (eqb e.link l && eqb e.job j) e.given (find l j es)

-- at each read of a history, the last one first: what that run of the reader read by that link
unfoldable pub looked : {Val : Type 0} → Table Val → List (LogEntry Val) → List (Event Val) → List (Given Val)
looked T es [] = []
looked T es (arrival m ∷ h) = looked T es h
looked T es (start u ∷ h) = looked T es h
looked T es (read l ∷ h) = find l (arrivals h (T.reader l)) es ∷ looked T es h
looked T es (finish u v ∷ h) = looked T es h

-- every read was given an output
unfoldable pub AllThere : {Val : Type 0} → List (LogEntry Val) → Type 0
AllThere [] = Unit {0}
AllThere (e ∷ es) = (e.given ≡ missing → ⊥) × AllThere es

-- each number, as an output that was there
unfoldable pub theres : {Val : Type 0} → List Val → List (Given Val)
theres [] = []
theres (v ∷ vs) = there v ∷ theres vs
