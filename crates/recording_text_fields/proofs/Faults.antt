-- Each reason has a number of its own, and none has 0.
-- Assumes nothing.
use Rattle.std.proofs.Common.{◌≡◌, refl, sym, ap, ◌∙◌, cond, ℕ, arith}
use lib.Dec.{eqb}
use Rattle.recording_text_fields.specs.declared.fault.Fault.{Fault}
use Rattle.recording_text_fields.specs.declared.fault.Fault.TheVariants as why
use Rattle.recording_text_fields.specs.Faults.{number}

pub some_fault : (f : Fault) → number f ≡ 0 → ⊥
some_fault why.UnknownWord e = omega arith
some_fault why.NoNumber e = omega arith
some_fault why.NumberTooLarge e = omega arith
some_fault why.TooFewNumbers e = omega arith
some_fault why.TooManyNumbers e = omega arith
some_fault why.KindNotFirst e = omega arith

-- the reason of a number
abbrev fault_from : ℕ → Fault
fault_from n =
    cond (eqb n 1) why.UnknownWord
    (cond (eqb n 2) why.NoNumber (cond (eqb n 3) why.NumberTooLarge (cond (eqb n 4) why.TooFewNumbers (cond (eqb n 5) why.TooManyNumbers why.KindNotFirst))))

fault_back : (f : Fault) → fault_from (number f) ≡ f
fault_back why.UnknownWord = refl
fault_back why.NoNumber = refl
fault_back why.NumberTooLarge = refl
fault_back why.TooFewNumbers = refl
fault_back why.TooManyNumbers = refl
fault_back why.KindNotFirst = refl

pub one_fault : (f g : Fault) → number f ≡ number g → f ≡ g
one_fault f g e = sym (fault_back f) ∙ ap fault_from e ∙ fault_back g
