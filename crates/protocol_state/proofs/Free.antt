-- The position that an arriving task gets: it lies in 1 to N + 2, and is the lowest free one.
-- Assumes nothing.
use mathlib.Core.Path.{◌≡◌, refl}
use mathlib.Core.Bool.{Bool}
use mathlib.Core.List.{List, [], ◌∷◌}
use Prim.Native.Nat.{ℕ, zero, suc, ◌≤◌, ◌<◌}
use native.Mathlib.Nat.{not-suc-le-zero, le_of_suc-le-suc}
use native.Mathlib.Omega.{arith}
use lib.ListN.{get_or, length}
use Rattle.lists.proofs.Search.{lowest_in_range}
use Rattle.protocol.specs.Table.{to_behind, N}
use Rattle.protocol.specs.Ranges.{Position}
use Rattle.protocol.specs.Published.{Lowest}
use Rattle.protocol.specs.Free.{lowest_free}
use Rattle.protocol.proofs.Lowest.{search_lowest}
use Rattle.protocol_state.specs.Saved.{Size, Saved, Shape, at, table, boxes}

-- within a list it is all one what stands past its end
inside : (xs : List ℕ) (k d : ℕ) → k < length xs → get_or xs k d ≡ at xs k
inside [] k d l = absurd (not-suc-le-zero l)
inside (x ∷ xs) zero d l = refl
inside (x ∷ xs) (suc k) d l = inside xs k d (le_of_suc-le-suc l)

-- where there is room for a task, its newest and previous are those of `boxes`; pointers and cells are so by definition
pub boxes_inside : {size : Size} {q : Saved} → Shape size q → (t : ℕ) → t < size.tasks → ((boxes q).newest t ≡ at q.newest t) × ((boxes q).previous t ≡ at q.previous t)
boxes_inside {q = q} S t l = (inside q.newest t 1 (omega (arith, S.newest)), inside q.previous t 1 (omega (arith, S.previous)))

module _ (ahead : ℕ → ℕ → Bool) (q : Saved) (t x : ℕ) where
  -- the position that task t gets as it arrives, where its newest is x
  abbrev pub lowest_at : ℕ
  lowest_at = lowest_free ahead (at q.writer) (at q.reader) (at q.pointer) q.links t x

  -- lies in 1 to N + 2
  pub lowest_position : Position (table ahead q) t lowest_at
  lowest_position = lowest_in_range (to_behind ahead (at q.writer) (at q.reader) t) (at q.pointer) 9 q.links x

-- and is the lowest free one
pub lowest_free_lem : (ahead : ℕ → ℕ → Bool) (q : Saved) (t : ℕ) → N (table ahead q) t ≤ 8 → Lowest (table ahead q) (boxes q) t (lowest_at ahead q t ((boxes q).newest t))
lowest_free_lem ahead q t few = search_lowest (table ahead q) (boxes q) t 9 (omega arith)
