-- A text hands whole records over: the numbers that are stored of it never end inside one.
-- Assumes nothing.
use mathlib.Core.Path.{◌≡◌, refl, sym, ap, ◌∙◌}
use mathlib.Core.Bool.{Bool, true, false, cond, or-false}
use mathlib.Core.List.{List, [], ◌∷◌, append-nil}
use Prim.Native.Nat.{ℕ, zero, suc, ◌+◌, ◌<◌}
use native.Mathlib.Omega.{arith}
use borrow.Author.Tests.{eqb-true, ltb-true, ne_eqb}
use lib.Dec.{eqb}
use lib.ListN.{length, take, get_or}
use Rattle.byte_format.specs.Stands.{Stands}
use Rattle.byte_format.specs.Format.{Got, got}
use Rattle.byte_format.specs.Handed.{Handed, records_from}
use Rattle.byte_format.proofs.Standing.{stands_all, stands_first, stands_left}
use Rattle.byte_format.proofs.Handed.{records_none, records_got}
use Rattle.recording_format.specs.RecordingKind.{RecordingKind, any_kind, which_kind}
use Rattle.recording_format.specs.Words.{task_said, tasks_said, link_said, links_said, event_said, events_said}
use Rattle.recording_format.proofs.Words.{task_on, link_on, event_on}
use Rattle.recording_text_fields.specs.Pieces.{lines}
use Rattle.recording_text_line.specs.Line.{Says, says, sort, is_dated, dated_after, all_say}
use Rattle.recording_text_line.proofs.Whole.{Taken, Whole, other_whole, Fit, line_whole, kind_fit}
use Rattle.recording_text.specs.Text.{in_place, fault_in, known_after, readable, records_of, joined, stored, readable_of, kind_said, tasks_kept, links_kept, events_kept, tasks_of, links_of, events_of}
use Rattle.recording_text.proofs.Known.{stands}

-- of each of a list
pub data Each {A : Type 0} (P : A → Type 0) : List A → Type 0 where
  none : Each P []
  more : (a : A) (xs : List A) → P a → Each P xs → Each P (a ∷ xs)

-- and so of its first ones
each_take : {A : Type 0} {P : A → Type 0} (n : ℕ) {xs : List A} → Each P xs → Each P (take n xs)
each_take zero e = none
each_take (suc n) none = none
each_take (suc n) (more a xs p e) = more a (take n xs) p (each_take n e)

-- records that are taken one by one are taken one after the other, and nothing is left
module _ {A : Type 0} (read : List ℕ → ℕ → Got A) (on : (ws : List ℕ) (p : ℕ) (a : A) (q : ℕ) → read ws p ≡ got a q → p < q) where
  no_rest : {rs : List (List ℕ)} → Each (Taken read) rs → (ws : List ℕ) (p : ℕ) → Stands ws p (joined rs) (length ws) → (records_from read ws p).ending ≡ 0
  unfolding joined
  no_rest none ws p x = ap (λ (h : Handed A). h.ending) (records_none read on ws p (omega (arith, x.next)))
  no_rest (more r rs t e) ws p x =
      let q = p + length r in
      let f = stands_first r (joined rs) x in
      let u = t ws p q f in
      ap (λ (h : Handed A). h.ending) (records_got read on ws p u.0 q (omega (arith, on ws p u.0 q u.1, f.within)) u.1)
      ∙ no_rest e ws q (stands_left r (joined rs) x)

  all_taken : (k most : ℕ) (ss : List Says) → Each (Taken read) (records_of k ss) → (records_from read (stored k most ss) 0).ending ≡ 0
  unfolding stored
  all_taken k most ss e = no_rest (each_take most e) (stored k most ss) 0 (stands_all (stored k most ss))

-- the records of one sort of lines that are whole
module _ {A : Type 0} (read : List ℕ → ℕ → Got A) (kind : RecordingKind) (k : ℕ) (its : (s : Says) → Whole kind s → sort s.letter ≡ k → Taken read s.numbers) where
  each_record : {ss : List Says} → Each (Whole kind) ss → Each (Taken read) (records_of k ss)
  unfolding records_of
  each_record none = none
  each_record (more s ss w e) = go (eqb (sort s.letter) k) refl (each_record e)
    where
      go : (b : Bool) → eqb (sort s.letter) k ≡ b → Each (Taken read) (records_of k ss) → Each (Taken read) (cond b (s.numbers ∷ records_of k ss) (records_of k ss))
      go true h r = more s.numbers (records_of k ss) (its s w (eqb-true (sort s.letter) k h)) r
      go false h r = r

-- the number of the kind that lines say, and the kind of a number
abbrev number_in : List Says → ℕ
number_in ss = get_or (stored 4 1 ss) 0 0

abbrev kind_of : ℕ → RecordingKind
kind_of n = any_kind (which_kind n)

-- the lines behind the kind
behind_kind : (kind : RecordingKind) (dated : Bool) → Fit kind dated → (ls : List (List ℕ)) → Each (Whole kind) (readable true (all_say dated ls))
unfolding readable all_say
behind_kind kind dated fit [] = none
behind_kind kind dated fit (l ∷ ls) = go (eqb (fault_in true (says dated l)) 0) refl (behind_kind kind dated fit ls)
  where
    go :
        (b : Bool) → eqb (fault_in true (says dated l)) 0 ≡ b → Each (Whole kind) (readable true (all_say dated ls)) →
        Each (Whole kind) (cond b (says dated l ∷ readable true (all_say (dated_after dated (says dated l)) ls)) [])
    go true e r =
        let s = says dated l in
        let k : sort s.letter < 4 = ltb-true (sort s.letter) 4 (stands true s (eqb-true (fault_in true s) 0 e)) in
        more s (readable true (all_say (dated_after dated s) ls)) (line_whole kind dated fit l) (rw (ne_eqb (sort s.letter) 4 (λ q. omega arith)) r)
    go false e r = none

-- a line that says the kind, or nothing, and lines that are read behind it
module _ (l : List ℕ) (ls : List (List ℕ)) (n : ℕ) where
  abbrev onward : List Says
  onward = readable (known_after false (says false l)) (all_say (dated_after false (says false l)) ls)

  line_first :
      (y : Bool) → eqb (sort (says false l).letter) 4 ≡ y → in_place false (sort (says false l).letter) ≡ true → number_in (says false l ∷ onward) ≡ n →
      (number_in (readable false (all_say false ls)) ≡ n → Each (Whole (kind_of n)) (readable false (all_say false ls))) → Each (Whole (kind_of n)) (says false l ∷ onward)
  unfolding records_of joined stored
  line_first true b p f r =
      let s = says false l in
      let k : sort s.letter ≡ 4 = eqb-true (sort s.letter) 4 b in
      let m : get_or s.numbers 0 0 ≡ n = ap (λ (ns : List ℕ). get_or ns 0 0) (sym (append-nil s.numbers)) ∙ (rw b at f) in
      more s onward (other_whole (kind_of n) s (λ h. omega arith) (λ h. omega arith) (λ h. omega arith)) (rw (b, m) (behind_kind (kind_of n) (is_dated n) (kind_fit n) ls))
  line_first false b p f r =
      let s = says false l in
      let k : sort s.letter ≡ 0 = eqb-true (sort s.letter) 0 (rw (b, or-false (eqb (sort s.letter) 0)) at p) in
      more s onward (other_whole (kind_of n) s (λ h. omega arith) (λ h. omega arith) (λ h. omega arith)) (rw b (r (rw b at f)))

-- the lines of a text that can be read, by the kind that they say
from_start : (ls : List (List ℕ)) (n : ℕ) → number_in (readable false (all_say false ls)) ≡ n → Each (Whole (kind_of n)) (readable false (all_say false ls))
unfolding readable all_say
from_start [] n e = none
from_start (l ∷ ls) n e = go (eqb (fault_in false (says false l)) 0) refl e (from_start ls n)
  where
    go :
        (b : Bool) → eqb (fault_in false (says false l)) 0 ≡ b → number_in (cond b (says false l ∷ onward l ls n) []) ≡ n →
        (number_in (readable false (all_say false ls)) ≡ n → Each (Whole (kind_of n)) (readable false (all_say false ls))) → Each (Whole (kind_of n)) (cond b (says false l ∷ onward l ls n) [])
    go true h f r = line_first l ls n (eqb (sort (says false l).letter) 4) refl (stands false (says false l) (eqb-true (fault_in false (says false l)) 0 h)) f r
    go false h f r = none

-- what is stored of a text is whole, by the kind that it says
module _ (text : List ℕ) where
  abbrev pub its_kind : RecordingKind
  its_kind = kind_of (kind_said text)

  each_whole : Each (Whole its_kind) (readable_of text)
  each_whole = from_start (lines text) (kind_said text) refl

  pub tasks_whole : (tasks_said its_kind (tasks_of text)).ending ≡ 0
  tasks_whole = all_taken (task_said its_kind) (task_on its_kind) 1 tasks_kept (readable_of text) (each_record (task_said its_kind) its_kind 1 (λ s w. w.task) each_whole)

  pub links_whole : (links_said (links_of text)).ending ≡ 0
  links_whole = all_taken link_said link_on 2 links_kept (readable_of text) (each_record link_said its_kind 2 (λ s w. w.link) each_whole)

  pub events_whole : (events_said its_kind (events_of text)).ending ≡ 0
  events_whole = all_taken (event_said its_kind) (event_on its_kind) 3 events_kept (readable_of text) (each_record (event_said its_kind) its_kind 3 (λ s w. w.event) each_whole)
