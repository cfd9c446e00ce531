-- How many bytes are printed, way by way: a text that is too long, a fault, a refusal, a recording.
-- Assumes nothing.
use mathlib.Core.Path.{◌≡◌, refl, sym}
use mathlib.Core.Logic.{◌≢◌}
use mathlib.Core.List.{List}
use Prim.Native.Nat.{ℕ, ◌≤◌, ◌<◌}
use borrow.Author.Tests.{lt-ltb, le-ltb, eq-eqb, ne_eqb}
use lib.ListN.{length}
use native.Mathlib.Omega.{arith}
use Rattle.std.proofs.Common.{Result, Ok, Err}
use Rattle.std.specs.Result.{result_unwrap_or}
use Rattle.recording_text_fields.specs.Faults.{number}
use Rattle.recording_text_fields.proofs.Faults.{some_fault}
use Rattle.recording_make.specs.declared.Unmade.{Unmade}
use Rattle.recording_make.specs.declared.Unmade.TheVariants.{Unreadable, Refused}
use Rattle.recording_make.specs.Made.{Made, made_of, told, Refuses}
use Rattle.record_printout.specs.Printed.{longest, length_made, length_printed}

pub too_long : (text : List ℕ) → 1048576 < length text → 0 ≡ length_printed text
too_long text l = rw (lt-ltb _ _ l)

-- what was made of a text that is not too long
module _ (text : List ℕ) (m : Made) (l : length text ≤ 1048576) (e : m ≡ made_of text longest) where
  pub at_fault : m.fault ≢ 0 → 0 ≡ length_printed text
  at_fault n = rw (le-ltb _ _ l, ← e, ne_eqb _ 0 n)

  pub at_refusal : m.fault ≡ 0 → m.refusal ≢ 0 → 0 ≡ length_printed text
  at_refusal z n = rw (le-ltb _ _ l, ← e, eq-eqb _ 0 z, ne_eqb _ 0 n)

  pub whole : m.fault ≡ 0 → m.refusal ≡ 0 → m.place ≡ length_printed text
  whole z y = rw (le-ltb _ _ l, ← e, eq-eqb _ 0 z, eq-eqb _ 0 y)

-- and what the code made of it
length_of : (r : Result ℕ Unmade) → Refuses r → length_made (told r) ≡ result_unwrap_or r 0
length_of (Ok n) h = refl
length_of (Err (Unreadable f l)) h = rw (ne_eqb (number f) 0 (some_fault f))
length_of (Err (Refused r p l)) h = rw (ne_eqb r 0 (λ e. omega arith))

pub not_long : (text : List ℕ) (r : Result ℕ Unmade) → length text ≤ 1048576 → told r ≡ made_of text longest → Refuses r → result_unwrap_or r 0 ≡ length_printed text
not_long text r l e h = sym (rw (le-ltb _ _ l, ← e) (length_of r h))
