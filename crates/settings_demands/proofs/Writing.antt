-- Writing back: why it is refused, in words and as it is defined; and the buffer after it.
-- Assumes nothing.
use mathlib.Core.Path.{◌≡◌, refl, sym, subst, ◌∙◌}
use mathlib.Core.Logic.{◌≢◌, ◌↔◌, inl, inr}
use mathlib.Core.Bool.{Bool, true, false}
use mathlib.Core.List.{List, ◌++◌}
use Prim.Native.Nat.{ℕ, ◌≤◌}
use native.Mathlib.Omega.{arith}
use borrow.Author.Tests.{eqb-true, eqb-false, ltb-true, ltb-false}
use lib.Dec.{eqb, ltb}
use lib.ListN.{length, drop}
use Rattle.settings_list.specs.declared.Slot.{Slot}
use Rattle.settings.specs.declared.Written.{Written}
use Rattle.settings.specs.Writing.{first_bad, list_of, list_size, answer, written, back_buffer}
use Rattle.settings.proofs.WriteAnswers.{left_alone, list_there, none_given, many_given, bad_given, short_buffer_lem, room_enough_lem}
use Rattle.settings_demands.specs.Ensured.{WritesBack}
use Rattle.settings_demands.specs.WriteFault.{MayStand, WriteFault, wrong_number, first_bad_float, short_buffer, room_enough}
use Rattle.settings_demands.proofs.FirstBad.{before_good, found_bad, past_good, bad_found}

-- ---- the answer
module _ (ss : List Slot) (n : ℕ) (old : List ℕ) where
  fault_written : {r p : ℕ} → WriteFault ss n (length old) r p → answer r p ≡ written ss n (length old)
  fault_written (wrong_number (inl e)) = none_given ss n (length old) e
  fault_written (wrong_number (inr h)) = many_given ss n (length old) h
  fault_written (first_bad_float few i l g b) = bad_given ss n (length old) (λ z. omega (arith, few.0)) few.1 (bad_found ss n i l g b) l
  fault_written (short_buffer m l) = short_buffer_lem ss n (length old) (λ z. omega (arith, m.few.0)) m.few.1 refl (past_good ss n n (omega arith) m.good) l
  fault_written (room_enough m l) = room_enough_lem ss n (length old) (λ z. omega (arith, m.few.0)) m.few.1 refl (past_good ss n n (omega arith) m.good) l

  abbrev Fault : Written → Type 0
  Fault w = WriteFault ss n (length old) w.refusal w.place

  written_fault : Fault (written ss n (length old))
  written_fault = number (eqb n 0) refl (ltb 64 n) refl
    where
      it : {r p : ℕ} → WriteFault ss n (length old) r p → Fault (written ss n (length old))
      it f = subst (λ (w : Written). Fault w) (fault_written f) f

      room : MayStand ss n → (b : Bool) → ltb (length old) (list_size n) ≡ b → Fault (written ss n (length old))
      room m true t = it (short_buffer m (ltb-true _ _ t))
      room m false t = it (room_enough m (ltb-false _ _ t))

      floats : (1 ≤ n) × (n ≤ 64) → (b : Bool) → ltb (first_bad ss n) n ≡ b → Fault (written ss n (length old))
      floats few true t = let l = ltb-true _ _ t in it (first_bad_float few (first_bad ss n) l (before_good ss n) (found_bad ss n l))
      floats few false t =
          let l = ltb-false (first_bad ss n) n t in
          room (record { few = few; good = λ i h. before_good ss n i (omega arith) }) (ltb (length old) (list_size n)) refl

      number : (a : Bool) → eqb n 0 ≡ a → (b : Bool) → ltb 64 n ≡ b → Fault (written ss n (length old))
      number true a b t = it (wrong_number (inl (eqb-true n 0 a)))
      number false a true t = it (wrong_number (inr (ltb-true 64 n t)))
      number false a false t = floats (omega (arith, eqb-false n 0 a), ltb-false 64 n t) (ltb (first_bad ss n) n) refl

  -- settings that may stand in a list, in a buffer with room
  list_put : MayStand ss n → list_size n ≤ length old →
      (answer 0 (list_size n) ≡ written ss n (length old)) × (list_of ss n ++ drop (list_size n) old ≡ back_buffer ss n old)
  list_put m l = list_there ss n old (fault_written (room_enough m l)) refl

-- ---- over the contract
-- what was written
pub record Wrote (ss : List Slot) (n : ℕ) (old : List ℕ) (w : Written) (new : List ℕ) : Type 0 where
  pub may : MayStand ss n
  pub place : w.place ≡ list_size n
  pub buffer : new ≡ list_of ss n ++ drop (list_size n) old

module _ {ss : List Slot} {n : ℕ} {old new : List ℕ} {w : Written} (said : WritesBack ss n old w new) where
  pub writing : (r p : ℕ) → (w ≡ answer r p) ↔ WriteFault ss n (length old) r p
  writing r p = (
    λ e. subst (λ (x : Written). Fault ss n old x) (sym said.answer ∙ e) (written_fault ss n old),
    λ f. said.answer ∙ sym (fault_written ss n old f),
  )

  pub untouched : w.refusal ≢ 0 → new ≡ old
  untouched z = said.buffer ∙ sym (left_alone ss n old {X = Unit {0}} z said.answer).1.0

  pub wrote : w.refusal ≡ 0 → Wrote ss n old w new
  wrote z = go ((writing w.refusal w.place).0 refl) z refl
    where
      go : {r p : ℕ} → WriteFault ss n (length old) r p → r ≡ 0 → w.place ≡ p → Wrote ss n old w new
      go (wrong_number o) e q = absurd (omega arith)
      go (first_bad_float few i l g b) e q = absurd (omega arith)
      go (short_buffer m l) e q = absurd (omega arith)
      go (room_enough m l) e q = record { may = m; place = q; buffer = said.buffer ∙ sym (list_put ss n old m l).1 }

pub one_writing : {ss : List Slot} {n : ℕ} {old new new' : List ℕ} {w w' : Written} → WritesBack ss n old w new → WritesBack ss n old w' new' → (w ≡ w') × (new ≡ new')
one_writing a b = (a.answer ∙ sym b.answer, a.buffer ∙ sym b.buffer)
