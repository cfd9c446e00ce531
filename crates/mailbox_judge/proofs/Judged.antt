-- What an event is judged, from what the parts ensure.
-- Assumes nothing.
use mathlib.Core.Path.{◌≡◌, refl, sym, ap, ◌∙◌}
use mathlib.Core.Logic.{◌≢◌}
use mathlib.Core.Bool.{Bool, true, false, cond, not, ◌&&◌, ◌||◌, or-false, and-false}
use mathlib.Core.List.{List}
use Prim.Native.Nat.{ℕ, zero, suc, ◌/◌, ◌^◌, ◌≤◌, ◌<◌, min}
use native.Mathlib.Nat.{zero-min, min-eq_left}
use native.Mathlib.Omega.{arith}
use borrow.Author.Tests.{le-leb, lt-leb, lt-ltb, le-ltb, leb-true, leb-false, ne_eqb}
use lib.Dec.{eqb, ltb, leb}
use lib.ListN.{length, get_or-eq_default}
use Rattle.lists.specs.Lists.{some, every}
use Rattle.protocol_deadlines.specs.Deadline.{smaller}
use Rattle.protocol_state.specs.Records.{earlier}
use Rattle.protocol_state.specs.Saved.{at, active_phase}
use Rattle.protocol_state.specs.Decision.{decided}
use Rattle.protocol_state.specs.Judge.{allows, may_arrive, judged_arrival, preempted, judged_task, judged_read}
use Rattle.protocol_state.proofs.Places.{some_same}
use Rattle.mailbox_judge.proofs.Sets.{shifted}

-- under fixed priorities the tasks ahead of t are those before it
pub some_ahead : (f : ℕ → Bool) (t n : ℕ) → t ≤ n → some (λ u. ltb u t && f u) n ≡ some f t
unfolding some
some_ahead f t zero l =
    let e : t ≡ 0 = omega arith in
    rw e
some_ahead f t (suc n) l = go (leb t n) refl (some_ahead f t n) refl where
  go :
      (b : Bool) → leb t n ≡ b → (t ≤ n → some (λ u. ltb u t && f u) n ≡ some f t) → (f n || some f n) ≡ some f (suc n) →
      ((ltb n t && f n) || some (λ u. ltb u t && f u) n) ≡ some f t
  go true e ih one = rw (le-ltb n t (leb-true t n e)) (ih (leb-true t n e))
  go false e ih one =
      let h : n < t = leb-false t n e in
      let s : suc n ≡ t = omega arith in
      rw (lt-ltb n t h, some_same (λ u. ltb u t && f u) f n (λ u i. rw (lt-ltb u t (omega arith)))) (one ∙ ap (some f) s)

-- past the last phase there is no active task, also where more is asked of it
pub idle_past : (f : ℕ → Bool) (xs : List ℕ) (t : ℕ) → some (λ u. f u && active_phase (at xs u)) (min t (length xs)) ≡ some (λ u. f u && active_phase (at xs u)) t
unfolding some
idle_past f xs zero = rw zero-min
idle_past f xs (suc t) = go (leb (suc t) (length xs)) refl (idle_past f xs t)
  where
    active : ℕ → Bool
    active u = f u && active_phase (at xs u)

    go :
        (b : Bool) → leb (suc t) (length xs) ≡ b → some active (min t (length xs)) ≡ some active t →
        some active (min (suc t) (length xs)) ≡ some active (suc t)
    go true e ih = ap (some active) (min-eq_left (leb-true (suc t) (length xs) e))
    go false e ih =
        let h : length xs ≤ t = omega (arith, leb-false (suc t) (length xs) e) in
        let m : min (suc t) (length xs) ≡ min t (length xs) = omega arith in
        let z : at xs t ≡ 0 = get_or-eq_default xs 0 h in
        rw (m, z, and-false (f t)) ih

-- of two that are not the same the smaller one is
pub smaller_apart : (a b : ℕ) (tie : Bool) → a ≢ b → ltb a b ≡ smaller a b tie
unfolding smaller
smaller_apart a b tie n = rw (ne_eqb a b n) (sym (or-false (ltb a b)))

-- o says whether the set is empty or has a task past the table, b whether each of it may arrive
pub arrival_judged :
    (s T : ℕ) (ph : ℕ → ℕ) {o b : Bool} {r : ℕ} → (eqb s 0 || not (eqb (s / 2 ^ T) 0)) ≡ o → b ≡ every (may_arrive s ph) T →
    r ≡ cond o 12 (cond b 0 13) → r ≡ judged_arrival s T ph
unfolding judged_arrival
arrival_judged s T ph eo eb er = rw (er, eb, ← eo, shifted s T)

-- who has to wait under fixed priorities: the search is among the tasks before t
pub waits_before : (t n : ℕ) (ph : ℕ → ℕ) {b : Bool} → t < n → b ≡ some (λ u. active_phase (ph u)) t → b ≡ preempted earlier t n ph
waits_before t n ph l h = h ∙ sym (some_ahead (λ u. active_phase (ph u)) t n (omega arith))

-- whichever jobs go before others
module _ (before : ℕ → ℕ → Bool) (k t T : ℕ) (ph : ℕ → ℕ) where
  pub judged_outside : T ≤ t → 12 ≡ judged_task before k t T ph
  unfolding judged_task
  judged_outside l = rw (le-leb T t l)

  -- p is the task's phase, b whether a job that goes before that of t is active
  pub judged_inside :
      {p r : ℕ} {b : Bool} → t < T → p ≡ ph t → b ≡ preempted before t T ph → r ≡ cond (allows (decided k p)) (cond b 16 0) (decided k p) →
      r ≡ judged_task before k t T ph
  unfolding judged_task
  judged_inside l ep eb er = rw (lt-leb T t l, er, eb, ep)

  -- d is what the phase decides: where it refuses, nobody else is asked
  pub judged_refused : {p d : ℕ} → t < T → p ≡ ph t → d ≡ decided k p → 12 ≤ d → d ≡ judged_task before k t T ph
  judged_refused {p} {d} l ep ed h = judged_inside l ep refl (rw (← ed, le-ltb d 12 h))

  -- where it allows the event, t may have to wait
  pub judged_allowed :
      {p d r : ℕ} {b : Bool} → t < T → p ≡ ph t → d ≡ decided k p → d < 12 → b ≡ preempted before t T ph → r ≡ cond b 16 0 →
      r ≡ judged_task before k t T ph
  judged_allowed {p} {d} l ep ed h eb er = judged_inside l ep eb (rw (← ed, lt-ltb d 12 h) er)

module _ (before : ℕ → ℕ → Bool) (l T L : ℕ) (R ph : ℕ → ℕ) where
  pub read_outside : L ≤ l → 12 ≡ judged_read before l T L R ph
  unfolding judged_read
  read_outside h = rw (le-leb L l h)

  pub read_inside : {r : ℕ} → l < L → r ≡ judged_task before 2 (R l) T ph → r ≡ judged_read before l T L R ph
  unfolding judged_read
  read_inside h e = rw (lt-leb L l h) e
