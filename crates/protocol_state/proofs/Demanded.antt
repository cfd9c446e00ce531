-- A state that a fresh one came to answers each event as whatever meets demands 1 and 2: there is one answer, so what the demands exclude is none of the code's.
-- Assumes nothing.
use mathlib.Core.Path.{◌≡◌, refl, sym, ap, ◌∙◌}
use mathlib.Core.Bool.{Bool, true, false}
use mathlib.Core.List.{List}
use Prim.Native.Nat.{ℕ}
use borrow.Author.Tests.{eqb-true, eqb-false}
use lib.Dec.{eqb}
use Rattle.protocol.specs.Event.{Event, arrival, start, read, finish}
use Rattle.protocol.specs.Table.{Table, Lawful}
use Rattle.protocol.specs.Published.{Same}
use Rattle.protocol.proofs.Unique.{step_same, runs_same, number_same}
use Rattle.protocol_deadlines.specs.Deadline.{ByDeadline}
use Rattle.protocol_deadlines.specs.Timed.{Timed, PossibleAt, AllPossibleAt}
use Rattle.protocol_deadlines.specs.Answering.{Answerer, ReadsNothing, boxes_after, RefusesRightly, FollowsProtocol}
use Rattle.protocol_deadlines.proofs.Timed.{judged_possible_at}
use Rattle.protocol_deadlines.proofs.Answering.{answers_run}
use Rattle.protocol_state.specs.Saved.{Size, Saved, table, boxes}
use Rattle.protocol_state.specs.Judge.{judged_on_at}
use Rattle.protocol_state.specs.Next.{value_of}
use Rattle.protocol_state.specs.Give.{Reply, Progress, give}
use Rattle.protocol_state.specs.Reached.{Reached}
use Rattle.protocol_state.specs.Alike.{Alike}
use Rattle.protocol_state.proofs.Give.{give_refusal, give_done, refused_same}
use Rattle.protocol_state.proofs.History.{reached_for, reached_refusal, reached_step, reached_number}
use Rattle.protocol_state.proofs.Numbers.{table_lawful}

module _ {ahead : ℕ → ℕ → Bool} {size : Size} {q₀ : Saved} (order : ByDeadline (table ahead q₀)) {o : Progress} (r : Reached ahead size q₀ o)
    (B : Answerer ℕ) (D1 : RefusesRightly B 0) (D2 : FollowsProtocol B) where
  abbrev T : Table ℕ
  T = table ahead q₀

  abbrev H : List (Timed ℕ)
  H = o.history

  L : Lawful T
  L = table_lawful order r

  P : AllPossibleAt T H
  P = r.possible

  -- before the event the boxes are the same
  same_before : Same (boxes o.state) (boxes_after B T H)
  same_before = runs_same T r.run (answers_run B D2 T L order H P)

  -- the value of an accepted event
  value_same : (x : ℕ) (e : Event ℕ) → judged_on_at ahead o.state x e ≡ 0 → PossibleAt T H x e → value_of o.state e ≡ (B.reply T H x e).value
  unfolding ReadsNothing
  value_same x (arrival m) ok p = sym (D1.silent T L order H P x (arrival m) tt)
  value_same x (start t) ok p = sym (D1.silent T L order H P x (start t) tt)
  value_same x (read l) ok p = reached_number r x l ok ∙ number_same T same_before l ∙ sym (D2.number T L order H P x l p)
  value_same x (finish t v) ok p = sym (D1.silent T L order H P x (finish t v) tt)

  -- an event at tick x, 0 under fixed priorities, handed over for the table's policy p
  module _ (p : ℕ) (own : q₀.policy ≡ p) (x : ℕ) (none : q₀.policy ≡ 0 → x ≡ 0) (e : Event ℕ) where
    abbrev answer : Reply
    answer = give ahead size p o.state x e

    refusal_same : answer.refusal ≡ (B.reply T H x e).refusal
    refusal_same = reached_refusal r order p own x none e ∙ sym (D1.number T L order H P x e)

    -- the whole answer is the same: where it is accepted, one step of the published protocol from the same boxes; where it is refused, all as before
    pub as_demanded : Alike answer (B.reply T H x e)
    as_demanded = go (eqb answer.refusal 0) refl
      where
        go : (b : Bool) → eqb answer.refusal 0 ≡ b → Alike answer (B.reply T H x e)
        go true i =
            let ok : judged_on_at ahead o.state x e ≡ 0 = sym (give_refusal ahead size p o.state x e (reached_for r p own)) ∙ eqb-true _ 0 i in
            let y : PossibleAt T H x e = judged_possible_at T H x e (sym (reached_refusal r order p own x none e) ∙ eqb-true _ 0 i) in
            let d = give_done ahead size p o.state x e (reached_for r p own) ok in
            record {
              refusal = refusal_same;
              value = ap (λ (a : Reply). a.value) d ∙ value_same x e ok y;
              boxes = rw d (step_same T same_before e (reached_step r x e ok) (D2.step T L order H P x e y));
            }
        go false i =
            let s = refused_same ahead size p o.state x e (eqb-false _ 0 i) in
            let u = D1.unchanged T L order H P x e (λ z. eqb-false _ 0 i (refusal_same ∙ z)) in
            record { refusal = refusal_same; value = s.1 ∙ sym u.1; boxes = rw (s.0, u.0) same_before }
