-- The arrivals of document 01's long example carried out where tasks take no time, and what a wrong order of tasks comes to.
-- Assumes nothing.
use mathlib.Core.Path.{◌≡◌, refl}
use mathlib.Core.Bool.{cond}
use mathlib.Core.List.{List, [], ◌∷◌}
use Prim.Native.Nat.{ℕ, zero, suc, ◌+◌}
use lib.Dec.{eqb, ltb}
use Rattle.protocol.specs.Event.{arrival, has}
use Rattle.protocol.specs.Given.{Given, there, missing}
use Rattle.protocol.specs.Table.{Table}
use Rattle.protocol.specs.History.{output}
use Rattle.protocol.specs.Instant.{LogEntry, ask, read_links, run_whole, work, come, carried, upward, sets, zero_run}

-- the station of that example: task 1 writes; task 0, more urgent, reads it delayed, with start value 90; tasks 2 and 3 read it directly
unfoldable pub four : Table ℕ
four = record { tasks = 4; links = 3; default = λ t. cond (eqb t 1) 100 0; deadline = λ t. 0; start_value = λ l. cond (eqb l 0) 90 0; writer = λ l. 1; reader = reader; delayed = λ l. eqb l 0; ahead = ltb }
  where
    reader : ℕ → ℕ
    reader zero = 0
    reader (suc zero) = 2
    reader (suc (suc n)) = 3

-- what each read was given
unfoldable pub givens : List (LogEntry ℕ) → List (Given ℕ)
givens [] = []
givens (e ∷ es) = e.given ∷ givens es

-- run number k of any task gives 100 + k; the arrivals are 15, 3, 4, 3, 9: the first read is given the start value, every other an output
pub right_order : givens (carried four (λ t k. there (100 + k)) (upward 0 4) (9 ∷ 3 ∷ 4 ∷ 3 ∷ 15 ∷ [])).log
    ≡ there 103 ∷ there 102 ∷ there 102 ∷ there 102 ∷ there 101 ∷ there 101 ∷ there 101 ∷ there 90 ∷ []
unfolding givens four carried work come run_whole read_links ask upward has
right_order = refl

-- the writer after its direct readers: its output is not there for them
pub wrong_order : givens (carried four (λ t k. there (100 + k)) (3 ∷ 2 ∷ 1 ∷ 0 ∷ []) (15 ∷ [])).log ≡ there 90 ∷ missing ∷ missing ∷ []
unfolding givens four carried work come run_whole read_links ask has
wrong_order = refl

-- all four have arrived and nobody has finished: the writer's output is missing for its direct readers, and is no default
pub unfinished_missing : givens (zero_run four (upward 0 4) (arrival 15 ∷ [])) ≡ missing ∷ missing ∷ there 90 ∷ []
unfolding givens four carried work come run_whole read_links ask upward sets output has
unfinished_missing = refl
