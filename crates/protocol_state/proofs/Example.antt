-- The long example of document 01 (after figure 17 of 001), computed on both sides: the machine on a saved state, and the run where tasks take no time.
-- Assumes nothing.
use mathlib.Core.Path.{◌≡◌, refl}
use mathlib.Core.List.{List, [], ◌∷◌}
use Prim.Native.Nat.{ℕ}
use Rattle.lists.specs.Lists.{upto, every, some, count, first, leading, sum}
use Rattle.protocol.specs.Given.{values}
use Rattle.protocol.specs.Event.{Event, arrival, start, read, finish, has}
use Rattle.protocol.specs.History.{arrivals, starts, finishes, reads, up_to, output, counts}
use Rattle.protocol.specs.ZeroTime.{dues, ideals}
use Rattle.protocol.specs.Instant.{ask, read_links, run_whole, work, come, carried, upward, sets, zero_run, find, looked, theres}
use Rattle.protocol.proofs.StartExample.{eight}
use Rattle.protocol_deadlines.specs.Timed.{untimed}
use Rattle.protocol_state.specs.Records.{Task, Link, earlier}
use Rattle.protocol_state.specs.Saved.{Saved, state_room, at, table}
use Rattle.protocol_state.specs.Rules.{fault, judged_table}
use Rattle.protocol_state.specs.Decision.{decided}
use Rattle.protocol_state.specs.Judge.{judged_arrival, judged_task, judged_read, sooner_in, judged_on_at}
use Rattle.protocol_state.specs.Next.{newest_after, previous_after, seen_after, pointer_after, mark_after, phase_after, since_after}
use Rattle.protocol_state.specs.Sound.{is_sound}
use Rattle.protocol_state.specs.Fresh.{fresh_of}
use Rattle.protocol_state.specs.Give.{plainly, Call, Progress, settled, begin, after_call, replay}

-- four tasks with defaults 0, 100, 0, 0; links 1 to 0 delayed with start value 90, 1 to 2 direct, 1 to 3 direct
abbrev station : Saved
station = fresh_of state_room 0 (task 0 ∷ task 100 ∷ task 0 ∷ task 0 ∷ []) (link 1 0 1 90 ∷ link 1 2 0 0 ∷ link 1 3 0 0 ∷ [])
  where
    task : ℕ → Task
    task d = record { default = d; deadline = 0 }

    link : ℕ → ℕ → ℕ → ℕ → Link
    link w r k v = record { writer = w; reader = r; kind = k; start_value = v }

-- the 35 events, up to just after the first arrival, the second, the third arrival of task 1, and the rest
abbrev first_part : List (Event ℕ)
first_part = arrival 15 ∷ []

abbrev second_part : List (Event ℕ)
second_part = start 0 ∷ read 0 ∷ finish 0 0 ∷ start 1 ∷ finish 1 101 ∷ start 2 ∷ read 1 ∷ finish 2 0 ∷ start 3 ∷ arrival 3 ∷ []

abbrev third_part : List (Event ℕ)
third_part = start 0 ∷ read 0 ∷ finish 0 0 ∷ start 1 ∷ finish 1 102 ∷ arrival 4 ∷ start 2 ∷ read 1 ∷ finish 2 0 ∷ arrival 3 ∷ []

abbrev last_part : List (Event ℕ)
last_part = start 0 ∷ read 0 ∷ finish 0 0 ∷ start 1 ∷ finish 1 103 ∷ read 2 ∷ finish 3 0 ∷ arrival 9 ∷ start 0 ∷ read 0 ∷ finish 0 0 ∷ start 3 ∷ read 2 ∷ finish 3 0 ∷ []

-- each handed over without a tick
unfoldable pub calls : List (Event ℕ) → List Call
calls [] = []
calls (e ∷ es) = plainly e ∷ calls es

abbrev one : Progress
one = replay earlier state_room (begin station) (calls first_part)

abbrev two : Progress
two = replay earlier state_room one (calls second_part)

abbrev three : Progress
three = replay earlier state_room two (calls third_part)

abbrev all : Progress
all = replay earlier state_room three (calls last_part)

abbrev newest_of_1 : Progress → ℕ
newest_of_1 o = at o.state.newest 1

-- newest of task 1 goes 2, 1, 3; the machine reads the eight numbers, the closed form says them, the run carried out has them; counts 11, 11, 8, 11
pub long_example :
    (newest_of_1 one ≡ 2) × (newest_of_1 two ≡ 1) × (newest_of_1 three ≡ 3) × (newest_of_1 all ≡ 3)
    × (all.numbers ≡ eight)
    × (ideals (table earlier station) (untimed all.history) ≡ eight)
    × (looked (table earlier station) (zero_run (table earlier station) (upward 0 4) (untimed all.history)) (untimed all.history) ≡ theres eight)
    × (counts (table earlier station) (untimed all.history) ≡ record { arrivals = 11; starts = 11; reads = 8; finishes = 11 })
unfolding calls untimed since_after sooner_in judged_on_at upto every some count first leading sum has fault judged_table decided judged_arrival judged_task judged_read newest_after previous_after seen_after pointer_after mark_after phase_after is_sound fresh_of settled after_call replay arrivals starts reads finishes up_to output dues values ask read_links run_whole work come carried upward sets find looked theres
long_example = (refl, refl, refl, refl, refl, refl, refl, refl)
