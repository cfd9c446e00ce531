-- Links a station may have: refusals 2 to 9 and 20. T counts the tasks, L the links; `link l` is link l.
-- Assumes nothing.
use Rattle.std.specs.Prelude.{◌≡◌, ◌≢◌, Bool, true, false, cond, not, ◌&&◌, ◌||◌, ℕ, ◌≤◌, ◌<◌, eqb, ltb, leb}
use Rattle.lists.specs.Lists.{some, leading}
use Rattle.protocol.specs.Table.{behinds}
use Rattle.protocol_state.specs.Records.{Link}
use Rattle.protocol_state.specs.Saved.{Size}

-- two links with the same writer and the same reader
abbrev pub same_pair : Link → Link → Bool
same_pair x y = eqb y.writer x.writer && eqb y.reader x.reader

module _ (ahead : ℕ → ℕ → Bool) where
  -- the link x of a table of T tasks; twice: its writer has an earlier link to its reader; n: its writer's earlier links to readers behind
  abbrev pub fault_of : ℕ → Link → Bool → ℕ → ℕ
  fault_of T x twice n =
      cond (leb T x.writer || leb T x.reader) 4
      (cond (eqb x.kind 0 && eqb x.writer x.reader) 5
      (cond (ltb 1 x.kind) 6
      (cond (eqb x.kind 0 && ahead x.reader x.writer) 7
      (cond twice 8
      (cond (ahead x.writer x.reader && leb 8 n) 9
      (cond (eqb x.kind 0 && not (eqb x.start_value 0)) 20 0))))))

  -- how many of the first n links go from task t to readers behind
  abbrev pub links_behind : (ℕ → Link) → ℕ → ℕ → ℕ
  links_behind link t n = behinds ahead (λ l. (link l).writer) (λ l. (link l).reader) t n

  -- the fault of the link x after the first n links
  abbrev pub fault_after : ℕ → (ℕ → Link) → ℕ → Link → ℕ
  fault_after T link n x = fault_of T x (some (λ j. same_pair x (link j)) n) (links_behind link x.writer n)

  module _ (T : ℕ) (link : ℕ → Link) where
    -- the refusal that link l earns, in rising order, 20 "tried after 9"; 0 is none
    unfoldable pub fault : ℕ → ℕ
    fault l = fault_after T link l (link l)

    -- link l obeys the rules 4 to 9, of which 5 and 7 are those of direct links, and 20: "a direct link must carry 0 there"
    pub record Obeys (l : ℕ) : Type 0 where
      pub writer : (link l).writer < T
      pub reader : (link l).reader < T
      pub apart : (link l).kind ≡ 0 → (link l).writer ≢ (link l).reader
      pub kind : (link l).kind ≤ 1
      pub direct : (link l).kind ≡ 0 → ahead (link l).reader (link l).writer ≡ false
      pub single : (j : ℕ) → j < l → (link j).writer ≡ (link l).writer → (link j).reader ≢ (link l).reader
      pub few : ahead (link l).writer (link l).reader ≡ true → links_behind link (link l).writer l < 8
      pub unstarted : (link l).kind ≡ 0 → (link l).start_value ≡ 0

    -- the refusal that a whole table earns: its counts (2, 3), then the first link at fault
    unfoldable pub judged_table : Size → ℕ → ℕ
    judged_table size L = cond (eqb T 0 || ltb size.tasks T) 2 (cond (ltb size.links L) 3 (leading fault L))

    -- a table that keeps rules 2 to 9 and 20: its counts are within the room, and each link obeys
    pub record KeepsRules (size : Size) (L : ℕ) : Type 0 where
      pub tasks : (1 ≤ T) × (T ≤ size.tasks)
      pub links : L ≤ size.links
      pub each : (l : ℕ) → l < L → Obeys l
