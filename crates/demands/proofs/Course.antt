-- The table and the accepted events fix the state and the numbers, whoever makes the calls.
-- Assumes nothing.
use mathlib.Core.Path.{◌≡◌, refl, sym, ap, subst, ◌∙◌}
use mathlib.Core.Logic.{◌≢◌}
use mathlib.Core.Bool.{Bool, true, false}
use mathlib.Core.List.{List, [], ◌∷◌, ◌++◌}
use Prim.Native.Nat.{ℕ, ◌≤◌}
use native.Mathlib.Decide.{ℕ_discrete}
use native.Mathlib.Omega.{arith}
use borrow.Author.Tests.{eqb-true, eqb-false}
use lib.Dec.{eqb}
use lib.ListN.{length}
use lib.Seq.{ext_get_or}
use Rattle.protocol.specs.Table.{Table}
use Rattle.protocol_deadlines.specs.Timed.{Timed}
use Rattle.protocol_state.specs.Records.{Task, no_task, Link, no_link, link_of, first_tasks, first_links}
use Rattle.protocol_state.specs.Saved.{Saved, state_room}
use Rattle.protocol_state.specs.Fresh.{Policed, fresh_of, judged_lists}
use Rattle.recording_core.specs.Playing.{stepped_alone}
use Rattle.byte_format.specs.Play.{finally}
use Rattle.mailbox.specs.States.{saved}
use Rattle.mailbox.proofs.Packed.{saved_same}
use Rattle.mailbox.specs.declared.State.{State}
use Rattle.demands.specs.Station.{station, AllDated}
use Rattle.demands.specs.Calls.{Calls, fresh, accepted, refused}
use Rattle.demands.proofs.Tables.{handed_policed}
use Rattle.demands.proofs.Calls.{timed_call, made_is, call_done, same_state, calls_whole}
use Rattle.demands.proofs.Runs.{calls_ideals}
use Rattle.demands.proofs.Replays.{keeps_of}

-- one event more
finally_more : (q : Saved) (es : List (Timed ℕ)) (y : Timed ℕ) → finally stepped_alone q (es ++ (y ∷ [])) ≡ stepped_alone (finally stepped_alone q es) y
unfolding finally
finally_more q [] y = refl
finally_more q (x ∷ es) y = finally_more (stepped_alone q x) es y

-- the state after some calls is what the accepted events make of a fresh one, of lists that say the table, and of their policy
record Came (T : Table ℕ) (es : List (Timed ℕ)) (q : State) : Type 0 where
  p : ℕ
  ds : List Task
  ls : List Link
  policed : Policed p ds
  ok : judged_lists state_room p ds ls ≡ 0
  same : station ds ls ≡ T
  ends : saved q ≡ finally stepped_alone (fresh_of state_room p ds ls) es

came : {T : Table ℕ} {es : List (Timed ℕ)} {ns : List ℕ} {q : State} → Calls T es ns q → Came T es q
unfolding finally
came (fresh {p} {X} over n l D W R K B m said ok) =
    let i = made_is p n l D X W R K B m said ok in
    record { p = p; ds = first_tasks n D X; ls = first_links l W R K B; policed = handed_policed over n D; ok = i.0; same = refl; ends = i.1 }
came (accepted {q = q} c k r call z) = go (came c)
  where
    go : {T : Table ℕ} {es : List (Timed ℕ)} → Came T es q → Came T (es ++ (timed_call k ∷ [])) r.state
    go {T} {es} C = record {
      p = C.p;
      ds = C.ds;
      ls = C.ls;
      policed = C.policed;
      ok = C.ok;
      same = C.same;
      ends = (call_done q k r call z).2 ∙ ap (λ (x : Saved). stepped_alone x (timed_call k)) C.ends ∙ sym (finally_more _ es (timed_call k));
    }
came (refused {T} {es} c k r call n) = subst (λ (x : State). Came T es x) (sym (same_state _ k r call n)) (came c)

-- tasks that keep the rules of two policies: it is one, for there is a task, and it has a deadline or it has none
one_policy : (p p' : ℕ) (ds : List Task) → 1 ≤ length ds → Policed p ds → Policed p' ds → AllDated p ds → AllDated p' ds → p ≡ p'
one_policy p p' ds some P P' D D' = go (ℕ_discrete p 0) (ℕ_discrete p' 0)
  where
    go : Dec (p ≡ 0) → Dec (p' ≡ 0) → p ≡ p'
    go (yes z) (yes z') = z ∙ sym z'
    go (yes z) (no n) = absurd (omega (arith, P.fixed z 0, D' (omega (arith, P'.either, n)) 0 some))
    go (no n) (yes z) = absurd (omega (arith, P'.fixed z 0, D (omega (arith, P.either, n)) 0 some))
    go (no n) (no n') = omega (arith, P.either, P'.either, n, n')

-- two kinds that are at most 1 and alike delayed or not
kind_same : (x y : ℕ) → x ≤ 1 → y ≤ 1 → eqb x 1 ≡ eqb y 1 → x ≡ y
kind_same x y a b e = go (eqb x 1) refl
  where
    go : (t : Bool) → eqb x 1 ≡ t → x ≡ y
    go true i = eqb-true x 1 i ∙ sym (eqb-true y 1 (sym e ∙ i))
    go false i =
        let m : x ≢ 1 = eqb-false x 1 i in
        let n : y ≢ 1 = eqb-false y 1 (sym e ∙ i) in
        omega arith

-- the lists of one table are the same
module _ {T : Table ℕ} {es es' : List (Timed ℕ)} {q q' : State} (C : Came T es q) (C' : Came T es' q') where
  both : station C.ds C.ls ≡ station C'.ds C'.ls
  both = C.same ∙ sym C'.same

  tasks_same : C.ds ≡ C'.ds
  tasks_same = ext_get_or no_task C.ds C'.ds (ap (λ (t : Table ℕ). t.tasks) both) (λ t h. λ i. record {
    default = ap (λ (x : Table ℕ). x.default t) both i;
    deadline = ap (λ (x : Table ℕ). x.deadline t) both i;
  })

  links_same : C.ls ≡ C'.ls
  links_same =
      let n : length C.ls ≡ length C'.ls = ap (λ (t : Table ℕ). t.links) both in
      ext_get_or no_link C.ls C'.ls n (λ l h. λ i. record {
        writer = ap (λ (t : Table ℕ). t.writer l) both i;
        reader = ap (λ (t : Table ℕ). t.reader l) both i;
        start_value = ap (λ (t : Table ℕ). t.start_value l) both i;
        kind = kind_same (link_of C.ls l).kind (link_of C'.ls l).kind ((keeps_of C.p C.ds C.ls C.ok).rules l h).kind
            ((keeps_of C'.p C'.ds C'.ls C'.ok).rules l (omega arith)).kind (ap (λ (t : Table ℕ). t.delayed l) both) i;
      })

  -- so is their policy
  policy_one : C.p ≡ C'.p
  policy_one =
      let K = keeps_of C.p C.ds C.ls C.ok in
      let K' = keeps_of C'.p C'.ds C'.ls C'.ok in
      one_policy C.p C'.p C.ds K.tasks.0 C.policed (subst (λ (ts : List Task). Policed C'.p ts) (sym tasks_same) C'.policed) K.dates
      (subst (λ (ts : List Task). AllDated C'.p ts) (sym tasks_same) K'.dates)

  -- so are their fresh states
  fresh_same : fresh_of state_room C.p C.ds C.ls ≡ fresh_of state_room C'.p C'.ds C'.ls
  fresh_same = λ i. fresh_of state_room (policy_one i) (tasks_same i) (links_same i)

-- so are the states after the same events, and the numbers read
pub one_course : {T : Table ℕ} {es : List (Timed ℕ)} {ns ns' : List ℕ} {q q' : State} → Calls T es ns q → Calls T es ns' q' → (ns ≡ ns') × (q ≡ q')
one_course {T} {es} {ns} {ns'} {q} {q'} c c' =
    let C = came c in
    let C' = came c' in (
      calls_ideals c ∙ sym (calls_ideals c'),
      saved_same q q' (calls_whole c) (calls_whole c') (C.ends ∙ ap (λ (x : Saved). finally stepped_alone x es) (fresh_same C C') ∙ sym C'.ends),
    )
