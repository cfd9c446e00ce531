-- Start values, computed by the published protocol with the lowest free position: the numbers of document 01's long example with the start value 90 of
-- document 02, and which links are marked when.
-- Assumes nothing.
use mathlib.Core.Path.{◌≡◌, refl}
use mathlib.Core.Bool.{Bool, true, false}
use mathlib.Core.List.{List, [], ◌∷◌}
use Prim.Native.Nat.{ℕ, zero, suc}
use lib.Dec.{ltb}
use Rattle.lists.specs.Lists.{some, count, first}
use Rattle.protocol.specs.Event.{Event, arrival, start, read, finish, has}
use Rattle.protocol.specs.Table.{Table}
use Rattle.protocol.specs.History.{arrivals, starts, finishes}
use Rattle.protocol.specs.Schedule.{urgent, AllPossible, judged}
use Rattle.protocol.specs.Lowest.{boxes_of, numbers_of}
use Rattle.protocol.proofs.RunExample.{four}
use Rattle.protocol.proofs.Schedule.{all_judged, all_judged_lem}

-- ---- the long example: the 35 events, the last one first
unfoldable pub long : List (Event ℕ)
long =
    finish 3 0 ∷ read 2 ∷ start 3 ∷ finish 0 0 ∷ read 0 ∷ start 0 ∷ arrival 9
    ∷ finish 3 0 ∷ read 2 ∷ finish 1 103 ∷ start 1 ∷ finish 0 0 ∷ read 0 ∷ start 0 ∷ arrival 3
    ∷ finish 2 0 ∷ read 1 ∷ start 2 ∷ arrival 4 ∷ finish 1 102 ∷ start 1 ∷ finish 0 0 ∷ read 0 ∷ start 0 ∷ arrival 3
    ∷ start 3 ∷ finish 2 0 ∷ read 1 ∷ start 2 ∷ finish 1 101 ∷ start 1 ∷ finish 0 0 ∷ read 0 ∷ start 0 ∷ arrival 15 ∷ []

-- the eight numbers, the last one first: the first read gives the start value, the others are as without it
abbrev pub eight : List ℕ
eight = 103 ∷ 102 ∷ 101 ∷ 102 ∷ 102 ∷ 101 ∷ 101 ∷ 90 ∷ []

-- the protocol reads the eight numbers
pub long_numbers : numbers_of four long ≡ eight
unfolding four long numbers_of boxes_of judged some count first arrivals starts finishes has
long_numbers = refl

-- and every event could happen
pub long_possible : AllPossible four (urgent four) long
unfolding all_judged four long judged some arrivals starts finishes has
long_possible = all_judged_lem four long refl

-- ---- marks: task 0 writes; tasks 1 and 2, less urgent, read it, directly and delayed
unfoldable pub fan : Table ℕ
fan = record { tasks = 3; links = 2; default = λ t. 100; deadline = λ t. 0; start_value = λ l. 90; writer = λ l. 0; reader = suc; delayed = delayed; ahead = ltb }
  where
    delayed : ℕ → Bool
    delayed zero = false
    delayed (suc l) = true

-- which links are marked after a history
abbrev marked_at : List (Event ℕ) → List Bool
marked_at h = (boxes_of fan h).mark 0 ∷ (boxes_of fan h).mark 1 ∷ []

-- the writer arrives and runs whole, after h
abbrev turn : List (Event ℕ) → List (Event ℕ)
turn h = finish 0 0 ∷ start 0 ∷ arrival 1 ∷ h

-- both readers arrive before their writer; task 1 runs, and then the writer twice while task 2 waits, which starts
abbrev held : List (Event ℕ)
held = start 2 ∷ turn (turn (finish 1 0 ∷ start 1 ∷ arrival 6 ∷ []))

-- a direct link never; a delayed one where the readers arrive before their writer or with its first arrival, and not with its second or after it
pub fan_marks :
    (marked_at (arrival 6 ∷ []) ≡ false ∷ true ∷ [])
    × (marked_at (arrival 7 ∷ []) ≡ false ∷ true ∷ [])
    × (marked_at (arrival 7 ∷ turn []) ≡ false ∷ false ∷ [])
    × (marked_at (arrival 6 ∷ turn (turn [])) ≡ false ∷ false ∷ [])
unfolding fan boxes_of count first some has
fan_marks = (refl, refl, refl, refl)

-- the mark of the reader that waited stays through both runs of the writer and its own start, and goes with the pointer
pub fan_dropped : (marked_at held ≡ false ∷ true ∷ []) × (marked_at (finish 2 0 ∷ held) ≡ false ∷ false ∷ [])
unfolding fan boxes_of count first some has
fan_dropped = (refl, refl)

-- all of it could happen
pub fan_possible :
    AllPossible fan (urgent fan) (arrival 7 ∷ [])
    × AllPossible fan (urgent fan) (arrival 7 ∷ turn [])
    × AllPossible fan (urgent fan) (arrival 6 ∷ turn (turn []))
    × AllPossible fan (urgent fan) (finish 2 0 ∷ held)
unfolding all_judged fan judged some arrivals starts finishes has
fan_possible = (all_judged_lem fan _ refl, all_judged_lem fan _ refl, all_judged_lem fan _ refl, all_judged_lem fan _ refl)
