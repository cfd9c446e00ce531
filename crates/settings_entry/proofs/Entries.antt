-- An entry, read and judged: what the code finds at a place is what the format says of it.
-- Assumes nothing.
use mathlib.Core.Path.{◌≡◌, refl, sym, ◌∙◌}
use mathlib.Core.Logic.{◌≢◌}
use mathlib.Core.Bool.{Bool, true, false, cond, true≢false}
use mathlib.Core.List.{List}
use Prim.Native.Nat.{ℕ, ◌+◌, ◌-◌, ◌≤◌, ◌<◌}
use native.Mathlib.Omega.{arith}
use borrow.Author.Tests.{eqb-true, eqb-false, eq-eqb, ltb-true, lt-leb, le-leb}
use lib.Dec.{eqb, ltb}
use lib.ListN.{length, get_or}
use Rattle.byte_format.specs.Number.{number_at}
use Rattle.byte_format.specs.Format.{Got, got, stop, then_read, sized}
use Rattle.byte_format.specs.Kinded.{first_byte, record_at}
use Rattle.settings_float.specs.AboveZero.{above_zero}
use Rattle.settings_entry.specs.declared.Setting.{Setting}
use Rattle.settings_entry.specs.declared.Setting.TheVariants.{Margin, Feed, Count}
use Rattle.settings_entry.specs.declared.code.Code.{Code}
use Rattle.settings_entry.specs.Setting.{float_fault}
use Rattle.settings_entry.specs.Entry.{Entry, code_of, codes, setting_made, setting_of}
use Rattle.settings_entry.specs.Found.{setting_judged, setting_taken}
use Rattle.settings_entry.proofs.Records.{entries_lawful}

-- a setting without a fault is taken
pub good_entry : (k : Code) (n : ℕ) → float_fault (setting_made k n) ≡ 0 → (q : ℕ) → got (setting_made k n) q ≡ setting_judged k n q
unfolding setting_judged
good_entry k n h q = rw (eq-eqb (float_fault (setting_made k n)) 0 h)

-- and one with a fault is refused with it, which is 26
only_fault : (k : Code) (n : ℕ) → eqb (float_fault (setting_made k n)) 0 ≡ false → float_fault (setting_made k n) ≡ 26
only_fault k n h = go (setting_made k n) h
  where
    bad : (b : Bool) → eqb (cond b 0 26) 0 ≡ false → ◌≡◌ {A = ℕ} (cond b 0 26) 26
    bad true e = absurd (true≢false e)
    bad false e = refl

    go : (x : Setting) → eqb (float_fault x) 0 ≡ false → float_fault x ≡ 26
    go (Margin x) e = bad (above_zero x) e
    go (Feed x) e = bad (above_zero x) e
    go (Count x) e = absurd (true≢false e)

pub bad_entry_lem : (k : Code) (n : ℕ) → eqb (float_fault (setting_made k n)) 0 ≡ false → (q : ℕ) → stop 26 ≡ setting_judged k n q
unfolding setting_judged
bad_entry_lem k n h q = sym (rw (h, only_fault k n h))

-- an entry of a found code, judged
then_judged : List ℕ → ℕ → Got Code → Got Setting
then_judged s p x = then_read (then_read x (λ k q. sized 9 (codes.body k s p) s p)) (λ a q. setting_judged a.kind a.bits q)

then_taken : (s : List ℕ) (p : ℕ) {x : Got Code} → x ≡ first_byte code_of s p → then_judged s p x ≡ setting_taken s p
unfolding then_judged setting_taken
then_taken s p e = rw e

module _ (s : List ℕ) (p : ℕ) where
  -- no code: the byte is unknown, or it is missing
  pub no_code_lem : {r : ℕ} → stop r ≡ first_byte code_of s p → stop r ≡ setting_taken s p
  unfolding then_judged
  no_code_lem e = then_taken s p e

  module _ {k : Code} (e : got k (p + 1) ≡ first_byte code_of s p) where
    -- a code: its byte is there
    pub code_there : p < length s
    unfolding first_byte
    code_there = go (ltb p (length s)) refl e
      where
        go : (t : Bool) → ltb p (length s) ≡ t → got k (p + 1) ≡ cond t (code_of (get_or s p 0) (p + 1)) (stop 1) → p < length s
        go true t u = ltb-true _ _ t
        go false t u = let y : ◌≡◌ {A = ℕ} 0 1 = cc in absurd (omega arith)

    -- what follows is cut
    pub cut_entry : length s - p < 9 → stop 1 ≡ setting_taken s p
    unfolding then_judged
    cut_entry h = sym (rw (lt-leb 9 (length s - p) h)) ∙ then_taken s p e

    -- or it is judged
    pub known_entry : 9 ≤ length s - p → setting_judged k (number_at 8 s (p + 1)) (p + 9) ≡ setting_taken s p
    unfolding then_judged
    known_entry h = sym (rw (le-leb 9 (length s - p) h)) ∙ then_taken s p e

-- what `entry_at` cites
pub ruleset entry_steps = (no_code_lem, code_there, cut_entry, known_entry)

-- what stands at a place where an entry is due: an entry that is taken, one with a fault, or none
pub data Turn (s : List ℕ) (p : ℕ) : Type 0 where
  takes : (a : Entry) (m : ℕ) → record_at codes s p ≡ got a m → float_fault (setting_of a) ≡ 0 → setting_taken s p ≡ got (setting_of a) m → Turn s p
  faults : (a : Entry) (m : ℕ) → record_at codes s p ≡ got a m → float_fault (setting_of a) ≢ 0 → setting_taken s p ≡ stop (float_fault (setting_of a)) → Turn s p
  stops : (r : ℕ) → r ≢ 0 → record_at codes s p ≡ stop r → setting_taken s p ≡ stop r → Turn s p

pub turn : (s : List ℕ) (p : ℕ) → Turn s p
unfolding setting_taken setting_judged
turn s p = go (record_at codes s p) refl
  where
    fault : (a : Entry) (m : ℕ) → record_at codes s p ≡ got a m → (t : Bool) → eqb (float_fault (setting_of a)) 0 ≡ t → Turn s p
    fault a m r true t = takes a m r (eqb-true _ 0 t) (rw (r, t))
    fault a m r false t = faults a m r (eqb-false _ 0 t) (rw (r, t))

    go : (g : Got Entry) → record_at codes s p ≡ g → Turn s p
    go (got a m) r = fault a m r (eqb (float_fault (setting_of a)) 0) refl
    go (stop b) r = stops b (entries_lawful.faults s p b r) r (rw r)
