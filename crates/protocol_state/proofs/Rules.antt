-- A table is judged 0 exactly when its counts fit and each link obeys the rules; and what the protocol rests on then holds.
-- Assumes nothing.
use mathlib.Core.Path.{◌≡◌, refl, sym, ap}
use mathlib.Core.Logic.{◌≢◌}
use mathlib.Core.Bool.{Bool, true, false, cond, not, ◌&&◌, ◌||◌}
use mathlib.Core.List.{List}
use Prim.Native.Nat.{ℕ, zero, suc, ◌+◌, ◌≤◌, ◌<◌}
use native.Mathlib.Omega.{arith}
use borrow.Author.Tests.{lt-leb, leb-false, le-ltb, ltb-false, eqb-true, eqb-false, eq-eqb, ne_eqb, not-false}
use lib.Dec.{eqb, ltb, leb}
use Rattle.lists.specs.Lists.{some, count, leading}
use Rattle.lists.proofs.Bools.{and_left, and_right, and_not, and_if, or_left, or_right, cond_zero}
use Rattle.lists.proofs.Lists.{some_not, some_of_none, leading_zero}
use Rattle.protocol.specs.Table.{Lawful, to_behind}
use Rattle.protocol_deadlines.specs.Deadline.{Ranks}
use Rattle.protocol_deadlines.proofs.Orders.{ahead_order}
use Rattle.protocol_state.specs.Records.{Task, deadline_of, Link, ahead_of}
use Rattle.protocol_state.specs.Saved.{Size, Saved, at, link_in, table}
use Rattle.protocol_state.specs.Rules.{same_pair, links_behind, fault_after, fault, Obeys, judged_table, KeepsRules}
use Rattle.protocol_state.proofs.Places.{some_same, count_same, leading_none_other}

-- the order of any table's tasks is an order
pub ranked : (ts : List Task) → Ranks (ahead_of ts)
ranked ts = ahead_order (deadline_of ts)

-- a link's fault depends only on the links before it
pub fault_agrees : (ahead : ℕ → ℕ → Bool) (T : ℕ) {link link' : ℕ → Link} (n : ℕ) (x : Link) → ((j : ℕ) → j < n → link j ≡ link' j)
    → fault_after ahead T link n x ≡ fault_after ahead T link' n x
fault_agrees ahead T {link} {link'} n x e =
    rw (
      some_same (λ j. same_pair x (link j)) (λ j. same_pair x (link' j)) n (λ j h. rw (e j h)),
      count_same (to_behind ahead (λ l. (link l).writer) (λ l. (link l).reader) x.writer) (to_behind ahead (λ l. (link' l).writer) (λ l. (link' l).reader) x.writer) n (λ j h. rw (e j h)),
    )

module _ (ahead : ℕ → ℕ → Bool) (T : ℕ) (link : ℕ → Link) where
  -- a link that earns no refusal obeys the rules 4 to 9 and 20
  pub obeys : (l : ℕ) → fault ahead T link l ≡ 0 → Obeys ahead T link l
  unfolding fault
  obeys l e =
      let four = cond_zero (leb T (link l).writer || leb T (link l).reader) 4 _ (λ z. omega arith) e in
      let five = cond_zero (eqb (link l).kind 0 && eqb (link l).writer (link l).reader) 5 _ (λ z. omega arith) four.1 in
      let six = cond_zero (ltb 1 (link l).kind) 6 _ (λ z. omega arith) five.1 in
      let seven = cond_zero (eqb (link l).kind 0 && ahead (link l).reader (link l).writer) 7 _ (λ z. omega arith) six.1 in
      let eight = cond_zero (some (λ j. same_pair (link l) (link j)) l) 8 _ (λ z. omega arith) seven.1 in
      let nine = cond_zero (ahead (link l).writer (link l).reader && leb 8 (links_behind ahead link (link l).writer l)) 9 _ (λ z. omega arith) eight.1 in
      let twenty = cond_zero (eqb (link l).kind 0 && not (eqb (link l).start_value 0)) 20 0 (λ z. omega arith) nine.1 in
      record {
        writer = leb-false T (link l).writer (or_left (leb T (link l).writer) _ four.0);
        reader = leb-false T (link l).reader (or_right (leb T (link l).writer) _ four.0);
        apart = λ z. eqb-false (link l).writer (link l).reader (and_not (eqb (link l).kind 0) _ five.0 (eq-eqb (link l).kind 0 z));
        kind = ltb-false 1 (link l).kind six.0;
        direct = λ z. and_not (eqb (link l).kind 0) _ seven.0 (eq-eqb (link l).kind 0 z);
        single = λ j h a b. eqb-false (link j).reader (link l).reader (and_not (eqb (link j).writer (link l).writer) _ (some_not (λ j. same_pair (link l) (link j)) l j eight.0 h) (eq-eqb (link j).writer (link l).writer a)) b;
        few = λ a. leb-false 8 (links_behind ahead link (link l).writer l) (and_not (ahead (link l).writer (link l).reader) _ nine.0 a);
        unstarted = λ z. eqb-true (link l).start_value 0 (not-false _ (and_not (eqb (link l).kind 0) _ twenty.0 (eq-eqb (link l).kind 0 z)));
      }

  -- and one that obeys them earns none
  pub no_fault : (l : ℕ) → Obeys ahead T link l → fault ahead T link l ≡ 0
  unfolding fault
  no_fault l o =
      let fifth : (eqb (link l).kind 0 && eqb (link l).writer (link l).reader) ≡ false =
      and_if (eqb (link l).kind 0) _ (λ e. ne_eqb (link l).writer (link l).reader (o.apart (eqb-true (link l).kind 0 e))) in
      let seventh : (eqb (link l).kind 0 && ahead (link l).reader (link l).writer) ≡ false = and_if (eqb (link l).kind 0) _ (λ e. o.direct (eqb-true (link l).kind 0 e)) in
      let eighth : some (λ j. same_pair (link l) (link j)) l ≡ false =
      some_of_none (λ j. same_pair (link l) (link j)) l (λ j h. and_if (eqb (link j).writer (link l).writer) _ (λ a. ne_eqb (link j).reader (link l).reader (o.single j h (eqb-true _ _ a)))) in
      let ninth : (ahead (link l).writer (link l).reader && leb 8 (links_behind ahead link (link l).writer l)) ≡ false = and_if (ahead (link l).writer (link l).reader) _ (λ a. lt-leb 8 _ (o.few a)) in
      let twentieth : (eqb (link l).kind 0 && not (eqb (link l).start_value 0)) ≡ false =
      and_if (eqb (link l).kind 0) _ (λ e. ap not (eq-eqb (link l).start_value 0 (o.unstarted (eqb-true (link l).kind 0 e)))) in
      rw (lt-leb T (link l).writer o.writer, lt-leb T (link l).reader o.reader, fifth, le-ltb 1 (link l).kind o.kind, seventh, eighth, ninth, twentieth)

  module _ (size : Size) (L : ℕ) where
    -- a table whose counts fit and whose links all obey the rules earns no refusal
    pub no_refusal : 1 ≤ T → T ≤ size.tasks → L ≤ size.links → ((l : ℕ) → l < L → Obeys ahead T link l) → judged_table ahead T link size L ≡ 0
    unfolding judged_table
    no_refusal one many links o =
        rw (ne_eqb T 0 (λ z. omega arith), le-ltb size.tasks T many, le-ltb size.links L links)
        (leading_none_other (fault ahead T link) L (λ l h. no_fault l (o l h)))

    module _ (ok : judged_table ahead T link size L ≡ 0) where
      parts : ((eqb T 0 || ltb size.tasks T) ≡ false) × (ltb size.links L ≡ false) × (leading (fault ahead T link) L ≡ 0)
      unfolding judged_table
      parts =
          let two = cond_zero (eqb T 0 || ltb size.tasks T) 2 _ (λ z. omega arith) ok in
          let three = cond_zero (ltb size.links L) 3 _ (λ z. omega arith) two.1 in
          (two.0, three.0, three.1)

      -- the counts of a table that earns no refusal
      pub counts : (1 ≤ T) × (T ≤ size.tasks) × (L ≤ size.links)
      counts =
          let some_task : T ≢ 0 = eqb-false T 0 (or_left (eqb T 0) _ parts.0) in
          (omega arith, ltb-false size.tasks T (or_right (eqb T 0) _ parts.0), ltb-false size.links L parts.1)

      -- there is room for them
      pub room : (T ≤ size.tasks) × (L ≤ size.links)
      room = (counts.1, counts.2)

      -- each of its links obeys the rules
      pub obeyed : (l : ℕ) → l < L → Obeys ahead T link l
      obeyed l h = obeys l (leading_zero (fault ahead T link) L l parts.2 h)

      few_first : (t n : ℕ) → n ≤ L → links_behind ahead link t n ≤ 8
      unfolding count
      few_first t zero l = omega arith
      few_first t (suc n) l = go (to_behind ahead (λ l. (link l).writer) (λ l. (link l).reader) t n) refl (few_first t n (omega arith)) where
        go : (b : Bool) → to_behind ahead (λ l. (link l).writer) (λ l. (link l).reader) t n ≡ b → links_behind ahead link t n ≤ 8 → cond b (links_behind ahead link t n + 1) (links_behind ahead link t n) ≤ 8
        go false e i = i
        go true e i =
            let w : (link n).writer ≡ t = eqb-true _ _ (and_left (eqb (link n).writer t) _ e) in
            let r : ahead t (link n).reader ≡ true = and_right (eqb (link n).writer t) _ e in
            let f : links_behind ahead link (link n).writer n < 8 = (obeyed n l).few (rw w r) in
            omega (arith, rw w at f)

      -- no task has more than 8 links to readers behind
      pub few : (t : ℕ) → links_behind ahead link t L ≤ 8
      few t = few_first t L (omega arith)

-- a table is judged 0 exactly when it keeps the rules
module _ (ahead : ℕ → ℕ → Bool) (T : ℕ) (link : ℕ → Link) (size : Size) (L : ℕ) where
  pub judged_keeps : judged_table ahead T link size L ≡ 0 → KeepsRules ahead T link size L
  judged_keeps ok =
      let n = counts ahead T link size L ok in
      record { tasks = (n.0, n.1); links = n.2; each = obeyed ahead T link size L ok }

  pub keeps_judged : KeepsRules ahead T link size L → judged_table ahead T link size L ≡ 0
  keeps_judged k = no_refusal ahead T link size L k.tasks.0 k.tasks.1 k.links k.each

-- the table of a state that earns no refusal is lawful
pub lawful : {ahead : ℕ → ℕ → Bool} → Ranks ahead → (size : Size) (q : Saved)
    → judged_table ahead q.tasks (link_in q) size q.links ≡ 0 → Lawful (table ahead q)
lawful {ahead} ranks size q ok = record {
  writer = λ l h. (rule l h).writer;
  reader = λ l h. (rule l h).reader;
  direct = λ l h d.
      let n : at q.kind l ≢ 1 = eqb-false (at q.kind l) 1 d in
      let k : at q.kind l ≤ 1 = (rule l h).kind in
      let zero : at q.kind l ≡ 0 = omega arith in
      ranks.either (at q.reader l) (at q.writer l) (λ e. (rule l h).apart zero (sym e)) ((rule l h).direct zero);
  other = λ l h b d. ranks.either (at q.writer l) (at q.reader l) (λ e. d (sym e)) b;
}
  where
    rule : (l : ℕ) → l < q.links → Obeys ahead q.tasks (link_in q) l
    rule = obeyed ahead q.tasks (link_in q) size q.links ok
