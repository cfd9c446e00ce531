-- Good settings and codes, in words and as the reader judges them.
-- Assumes nothing.
use mathlib.Core.Path.{◌≡◌, refl, sym}
use mathlib.Core.Logic.{◌≢◌}
use mathlib.Core.Bool.{Bool, true, false, cond, true≢false}
use Prim.Native.Nat.{ℕ}
use borrow.Author.Tests.{ltb-true, lt-ltb}
use lib.Ieee.{Float, nan, inf, fin}
use Rattle.settings_entry.specs.declared.Setting.{Setting}
use Rattle.settings_entry.specs.declared.Setting.TheVariants.{Margin, Feed, Count}
use Rattle.settings_entry.specs.declared.code.Code.{Code}
use Rattle.settings_entry.specs.declared.code.Code.TheVariants as code
use Rattle.settings_float.specs.AboveZero.{above_zero}
use Rattle.settings_entry.specs.Setting.{float_fault}
use Rattle.settings_entry.specs.Entry.{byte_of, setting_made}
use Rattle.settings_entry.proofs.Faults.{good_float}
use Rattle.settings_demands.specs.Values.{CodeOf, a_margin, a_feed, a_count, FiniteAboveZero, finite, Good, good_margin, good_feed, any_count}

-- ---- floats
pub above_zero_lem : {x : Float} → FiniteAboveZero x → above_zero x ≡ true
above_zero_lem (finite {m} h) = lt-ltb 0 m h

zero_above : (x : Float) → above_zero x ≡ true → FiniteAboveZero x
zero_above nan e = absurd (true≢false (sym e))
zero_above (inf s) e = absurd (true≢false (sym e))
zero_above (fin true m k) e = absurd (true≢false (sym e))
zero_above (fin false m k) e = finite (ltb-true 0 m e)

-- a setting is good exactly when it has no fault
pub good_fine : {x : Setting} → Good x → float_fault x ≡ 0
good_fine (good_margin f) = rw (above_zero_lem f)
good_fine (good_feed f) = rw (above_zero_lem f)
good_fine any_count = refl

pub fine_good : (x : Setting) → float_fault x ≡ 0 → Good x
fine_good (Margin x) e = good_margin (zero_above x (good_float _ e))
fine_good (Feed x) e = good_feed (zero_above x (good_float _ e))
fine_good (Count n) e = any_count

-- a fault is 26
fails_with : (b : Bool) → cond {A = ℕ} b 0 26 ≢ 0 → cond {A = ℕ} b 0 26 ≡ 26
fails_with true n = absurd (n refl)
fails_with false n = refl

one_fault : (x : Setting) → float_fault x ≢ 0 → float_fault x ≡ 26
one_fault (Margin x) n = fails_with (above_zero x) n
one_fault (Feed x) n = fails_with (above_zero x) n
one_fault (Count k) n = absurd (n refl)

-- and a bad float is one
pub bad_fault : (x : Setting) → (Good x → ⊥) → float_fault x ≡ 26
bad_fault x n = one_fault x (λ e. n (fine_good x e))

pub fault_bad : (x : Setting) → float_fault x ≢ 0 → (float_fault x ≡ 26) × (Good x → ⊥)
fault_bad x n = (one_fault x n, λ g. n (good_fine g))

-- ---- codes
code_of : (k : Code) → CodeOf (byte_of k) (λ n. setting_made k n)
code_of code.Margin = a_margin
code_of code.Feed = a_feed
code_of code.Count = a_count

pub code_known : (k : Code) {b : ℕ} → b ≡ byte_of k → CodeOf b (λ n. setting_made k n)
code_known k e = rw e (code_of k)

-- a code that is said is one of the three
pub record Coded (b : ℕ) (say : ℕ → Setting) : Type 0 where
  pub kind : Code
  pub byte : b ≡ byte_of kind
  pub says : (n : ℕ) → say n ≡ setting_made kind n

pub coded : {b : ℕ} {say : ℕ → Setting} → CodeOf b say → Coded b say
coded a_margin = record { kind = code.Margin; byte = refl; says = λ n. refl }
coded a_feed = record { kind = code.Feed; byte = refl; says = λ n. refl }
coded a_count = record { kind = code.Count; byte = refl; says = λ n. refl }
