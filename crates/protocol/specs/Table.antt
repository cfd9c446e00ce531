-- A station's tasks and links, as the protocol sees them. Tasks and links are numbered from 0.
-- Assumes nothing.
use Rattle.std.specs.Prelude.{◌≡◌, ◌≢◌, Bool, true, false, cond, ◌&&◌, ℕ, ◌<◌, eqb, ltb}
use Rattle.lists.specs.Lists.{count}

-- `ahead u t`: task u is more urgent than task t. The order is a parameter: under fixed priorities the earlier task is ahead.
-- `deadline t`: task t's relative deadline; under fixed priorities there is none, and it is 0. No rule of the protocol reads it, but a policy may
-- `start_value l`: "each unit delay has its own initial value"; nothing reads that of a direct link
pub record Table (Val : Type 0) : Type 0 where
  pub tasks : ℕ
  pub links : ℕ
  pub default : ℕ → Val
  pub deadline : ℕ → ℕ
  pub start_value : ℕ → Val
  pub writer : ℕ → ℕ
  pub reader : ℕ → ℕ
  pub delayed : ℕ → Bool
  pub ahead : ℕ → ℕ → Bool

-- a link's writer has had n arrivals, too few for a run that the link could give: none if it is direct, "fewer than two" if it is delayed
abbrev pub early : Bool → ℕ → Bool
early delayed n = ltb n (cond delayed 2 1)

-- an arrival of its reader then settles a delayed link on its start value: it is marked. A direct link has no mark
abbrev pub marked : Bool → ℕ → Bool
marked delayed n = delayed && early delayed n

-- link l is one of task t's links to readers behind; W and R are the links' writers and readers
abbrev pub to_behind : (ℕ → ℕ → Bool) → (ℕ → ℕ) → (ℕ → ℕ) → ℕ → ℕ → Bool
to_behind ahead W R t l = eqb (W l) t && ahead t (R l)

-- how many of the first n links are
abbrev pub behinds : (ℕ → ℕ → Bool) → (ℕ → ℕ) → (ℕ → ℕ) → ℕ → ℕ → ℕ
behinds ahead W R t n = count (to_behind ahead W R t) n

module _ {Val : Type 0} (T : Table Val) where
  -- what link l gives while its writer has no run for it: its own start value if it is delayed, its writer's default if it is direct
  abbrev pub start_of : ℕ → Val
  start_of l = cond (T.delayed l) (T.start_value l) (T.default (T.writer l))

  -- an arrival of its reader marks link l, whose writer has had n arrivals
  abbrev pub marks : ℕ → ℕ → Bool
  marks l n = marked (T.delayed l) n

  -- link l goes to a reader behind its writer
  abbrev pub behind : ℕ → Bool
  behind l = T.ahead (T.writer l) (T.reader l)

  -- N: how many links task t has to readers behind
  abbrev pub N : ℕ → ℕ
  N t = behinds T.ahead T.writer T.reader t T.links

  -- what demand 3 rests on: links join tasks of the table (rule 4), a direct one goes to a reader behind (rule 7), and of a link's two tasks one is
  -- ahead of the other (`other`: no rule of a table, but what an order of tasks is). A link from a task to itself is neither behind nor ahead, hence delayed
  pub record Lawful : Type 0 where
    pub writer : (l : ℕ) → l < T.links → T.writer l < T.tasks
    pub reader : (l : ℕ) → l < T.links → T.reader l < T.tasks
    pub direct : (l : ℕ) → l < T.links → T.delayed l ≡ false → behind l ≡ true
    pub other : (l : ℕ) → l < T.links → behind l ≡ false → T.reader l ≢ T.writer l → T.ahead (T.reader l) (T.writer l) ≡ true
