-- What a table is judged, way by way.
-- Assumes nothing.
use mathlib.Core.Path.{◌≡◌, refl, sym}
use mathlib.Core.Logic.{◌≢◌}
use mathlib.Core.Bool.{Bool, true, false, true≢false, ◌||◌}
use Prim.Native.Nat.{ℕ, ◌≤◌, ◌<◌}
use borrow.Author.Tests.{ne_eqb, ltb-false, lt-ltb, le-ltb, leb-false}
use lib.Dec.{eqb, ltb, leb}
use Rattle.std.specs.Prelude.{Result, Ok, Err, ⊤, cond, is_err}
use Rattle.std.specs.Result.{result_and}
use Rattle.refusals.specs.Numbers.{told}
use Rattle.refusals.specs.declared.Refusal.{Refusal}
use Rattle.refusals.proofs.Numbers.{number_not_0}
use Rattle.lists.specs.Lists.{leading}
use Rattle.lists.proofs.Bools.{or_right}
use Rattle.protocol_state.specs.Records.{Link}
use Rattle.protocol_state.specs.Saved.{state_room}
use Rattle.protocol_state.specs.Rules.{fault_of, fault, judged_table}

-- what is counted of a writer that is none of the table's says nothing of its link's fault
pub fault_by_count : (ahead : ℕ → ℕ → Bool) (T : ℕ) (x : Link) (twice : Bool) {n m : ℕ} → (x.writer < T → n ≡ m) → fault_of ahead T x twice n ≡ fault_of ahead T x twice m
fault_by_count ahead T x twice {n} {m} h = go (leb T x.writer) refl where
  go : (b : Bool) → leb T x.writer ≡ b → fault_of ahead T x twice n ≡ fault_of ahead T x twice m
  go true e = rw e
  go false e = rw (h (leb-false T x.writer e))

-- what is judged first is told where it is refused, else what is judged after it
pub told_and : (a b : Result ⊤ Refusal) → told (result_and a b) ≡ cond (eqb (told a) 0) (told b) (told a)
told_and (Ok x) b = refl
told_and (Err r) b = rw (ne_eqb _ 0 (number_not_0 r))

-- what is refused has a number that is not 0, and what is not has 0
pub told_refused : (a : Result ⊤ Refusal) → is_err a ≡ true → told a ≢ 0
told_refused (Ok x) e = absurd (true≢false (sym e))
told_refused (Err r) e = number_not_0 r

pub told_passed : (a : Result ⊤ Refusal) → is_err a ≡ false → told a ≡ 0
told_passed (Ok x) e = refl
told_passed (Err r) e = absurd (true≢false e)

-- a count of tasks that passes has room
pub room_for : (T : ℕ) → (eqb T 0 || ltb state_room.tasks T) ≡ false → T ≤ state_room.tasks
room_for T e = ltb-false state_room.tasks T (or_right (eqb T 0) _ e)

module _ (ahead : ℕ → ℕ → Bool) (T L : ℕ) (link : ℕ → Link) where
  pub wrong_tasks : (eqb T 0 || ltb state_room.tasks T) ≡ true → 2 ≡ judged_table ahead T link state_room L
  unfolding judged_table
  wrong_tasks e = rw e

  pub wrong_links : (eqb T 0 || ltb state_room.tasks T) ≡ false → state_room.links < L → 3 ≡ judged_table ahead T link state_room L
  unfolding judged_table
  wrong_links e l = rw (e, lt-ltb state_room.links L l)

  pub link_fault_lem : {r : ℕ} → (eqb T 0 || ltb state_room.tasks T) ≡ false → L ≤ state_room.links → r ≡ leading (fault ahead T link) L → r ≡ judged_table ahead T link state_room L
  unfolding judged_table
  link_fault_lem e l h = rw (e, le-ltb state_room.links L l) h
