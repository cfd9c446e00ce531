-- Request 2026-04: what holds of a link from a task to itself.
-- Assumes nothing.
use mathlib.Core.Path.{◌≡◌, refl, sym, ap, subst, ◌∙◌}
use mathlib.Core.Logic.{◌↔◌, inl, inr}
use mathlib.Core.Bool.{Bool, true, false, cond, not, ◌&&◌, true≢false}
use mathlib.Core.List.{List, [], ◌∷◌, ◌++◌}
use Prim.Native.Nat.{ℕ, zero, suc, pred, ◌+◌, ◌≤◌, ◌<◌}
use native.Mathlib.Omega.{arith}
use borrow.Author.Tests.{eq-eqb, ne_eqb, eqb-true, ltb-true, lt-ltb}
use lib.Dec.{eqb}
use lib.ListN.{length}
use Rattle.lists.specs.Lists.{count}
use Rattle.protocol.specs.Event.{Event, arrival, start, read, finish, has}
use Rattle.protocol.specs.Table.{Table, marked, N}
use Rattle.protocol.specs.History.{Goes, arrivals, finishes, past}
use Rattle.protocol.specs.Schedule.{Possible, AllPossible}
use Rattle.protocol.specs.ZeroTime.{run_of, had}
use Rattle.protocol.specs.Published.{Lowest, Step}
use Rattle.protocol.proofs.Schedule.{counted}
use Rattle.protocol.proofs.Effects.{pointer_delayed, pointer_out, mark_in_lem, mark_out}
use Rattle.protocol.proofs.SelfLinks.{self_had, self_uncounted, self_stays, self_unprotected}
use Rattle.protocol_deadlines.specs.Timed.{Timed, untimed, earliest_at}
use Rattle.protocol_deadlines.proofs.Orders.{ahead_order}
use Rattle.protocol_state.specs.Records.{Task, link_of, ahead_of}
use Rattle.protocol_state.specs.Saved.{Saved, state_room, at}
use Rattle.protocol_state.specs.Sound.{StandsSound}
use Rattle.protocol_state.proofs.Rules.{ranked}
use Rattle.protocol_state.proofs.SelfLinks.{self_sound_delayed, self_other_sound}
use Rattle.recording_format.specs.Link.{Link}
use Rattle.mailbox.specs.States.{saved}
use Rattle.mailbox.proofs.Packed.{whole_shape}
use Rattle.mailbox.specs.declared.State.{State}
use Rattle.mailbox.specs.declared.Step as code
use Rattle.demands.specs.Station.{station}
use Rattle.demands.specs.Refusals.{turn, Earns, none, first, LinkBreaks, no_task, direct_to_itself, unknown_kind, direct_ahead, twice, ninth, starts_direct}
use Rattle.demands.specs.States.{IsSound, IsWhole, table_in, boxes_in, OtherPointer, standing_in}
use Rattle.demands.specs.Order.{EachRead}
use Rattle.demands.specs.Calls.{Call, call_event, Gives, Calls}
use Rattle.demands.specs.Outputs.{Gave}
use Rattle.demands.specs.SelfLinks.{ToItself, SelfLink, HasPair, SoundlySet, SelfLinks}
use Rattle.demands.proofs.Orders.{part_possible, each_so}
use Rattle.demands.proofs.AnyState.{any_state}
use Rattle.demands.proofs.Runs.{calls_possible, calls_there, calls_delayed, calls_start_value, calls_finished}

-- ---- the refusal of such a link
module _ (ds : List Task) (ls : List Link) (x : Link) (S : ToItself ds x) where
  -- the rules that it can break
  data CanBreak : ℕ → Type 0 where
    five : x.kind ≡ 0 → CanBreak 5
    six : 1 < x.kind → CanBreak 6
    eight : HasPair ls x → CanBreak 8
    twenty : x.kind ≡ 0 → CanBreak 20

  can_break : {n : ℕ} → LinkBreaks ds ls x n → CanBreak n
  can_break (no_task (inl h)) = absurd (omega (arith, S.task))
  can_break (no_task (inr h)) = absurd (omega (arith, S.task, S.same))
  can_break (direct_to_itself k e) = five k
  can_break (unknown_kind a b) = six (omega (arith, a, b))
  can_break (direct_ahead k h) = absurd (true≢false (sym h ∙ rw S.same ((ranked ds).itself x.reader)))
  can_break (twice j h a b) = eight (j, h, a, b)
  can_break (ninth h b) = absurd (true≢false (sym h ∙ rw S.same ((ranked ds).itself x.reader)))
  can_break (starts_direct k n) = twenty k

  allowed : x.kind ≡ 1 → (HasPair ls x → ⊥) → Earns (LinkBreaks ds ls x) 0
  allowed k alone = none (λ n b. go (can_break b))
    where
      go : {n : ℕ} → CanBreak n → ⊥
      go (five z) = omega arith
      go (six z) = omega arith
      go (eight p) = alone p
      go (twenty z) = omega arith

  -- where none of these rules that it breaks is tried before r, no rule that it breaks is
  least : (r : ℕ) → (x.kind ≡ 0 → turn r ≤ turn 5) → (1 < x.kind → turn r ≤ turn 6) → (HasPair ls x → turn r ≤ turn 8) → (n : ℕ) → turn n < turn r → LinkBreaks ds ls x n → ⊥
  unfolding turn
  least r by-five by-six by-eight n low b = go low (can_break b)
    where
      go : {n : ℕ} → turn n < turn r → CanBreak n → ⊥
      go low (five z) = omega (arith, by-five z)
      go low (six z) = omega (arith, by-six z)
      go low (eight p) = omega (arith, by-eight p)
      go low (twenty z) = omega (arith, by-five z)

  second : x.kind ≡ 1 → HasPair ls x → Earns (LinkBreaks ds ls x) 8
  unfolding turn
  second k p = first (twice p.0 p.1 p.2 p.3) (least 8 (λ z. absurd (omega arith)) (λ z. absurd (omega arith)) (λ p. omega arith))

  direct_refused : x.kind ≡ 0 → Earns (LinkBreaks ds ls x) 5
  unfolding turn
  direct_refused k = first (direct_to_itself k S.same) (least 5 (λ z. omega arith) (λ z. omega arith) (λ p. omega arith))

  unknown_refused : 1 < x.kind → Earns (LinkBreaks ds ls x) 6
  unfolding turn
  unknown_refused k = first (unknown_kind (λ z. omega arith) (λ z. omega arith)) (least 6 (λ z. absurd (omega arith)) (λ z. omega arith) (λ p. omega arith))

-- ---- N
-- counted from the first number on
count_first : (f : ℕ → Bool) (n : ℕ) → count f (suc n) ≡ cond (f 0) (count (λ i. f (suc i)) n + 1) (count (λ i. f (suc i)) n)
unfolding count
count_first f zero = refl
count_first f (suc n) = rw (count_first f n) (go (f 0) (f (suc n)) (count (λ i. f (suc i)) n))
  where
    go : (a b : Bool) (c : ℕ) → cond b (cond a (c + 1) c + 1) (cond a (c + 1) c) ≡ cond a (cond b (c + 1) c + 1) (cond b (c + 1) c)
    go true true c = refl
    go true false c = refl
    go false true c = refl
    go false false c = refl

-- how many links pass a test
abbrev links_passing : (Link → Bool) → List Link → ℕ
links_passing test ls = count (λ l. test (link_of ls l)) (length ls)

-- one that does not pass changes nothing, wherever it stands
passing_without : (test : Link → Bool) (before : List Link) (x : Link) (after : List Link) → test x ≡ false → links_passing test (before ++ (x ∷ after)) ≡ links_passing test (before ++ after)
passing_without test [] x after e = count_first (λ l. test (link_of (x ∷ after) l)) (length after) ∙ rw e
passing_without test (y ∷ ys) x after e =
    count_first (λ l. test (link_of (y ∷ (ys ++ (x ∷ after))) l)) (length (ys ++ (x ∷ after)))
    ∙ ap (λ (c : ℕ). cond (test y) (c + 1) c) (passing_without test ys x after e)
    ∙ sym (count_first (λ l. test (link_of (y ∷ (ys ++ after)) l)) (length (ys ++ after)))

uncounted : (ds : List Task) (before : List Link) (x : Link) (after : List Link) → ToItself ds x → (t : ℕ) → N (station ds (before ++ (x ∷ after))) t ≡ N (station ds (before ++ after)) t
uncounted ds before x after S t =
    passing_without (λ (y : Link). eqb y.writer t && ahead_of ds t y.reader) before x after
    (self_uncounted (station ds (x ∷ [])) 0 S.same (ranked ds).itself t)

-- ---- in any sound state
module _ (q : State) (G : IsSound q) (l : ℕ) (S : SelfLink (table_in q) l) where
  sound_delayed : (table_in q).delayed l ≡ true
  sound_delayed = self_sound_delayed (saved q) G l S.link S.same

  -- nobody is ahead of himself
  level : (t : ℕ) → (table_in q).ahead t t ≡ false
  level t = (ahead_order (at (saved q).deadline)).itself t

  at_arrival : (c : Call) (m : ℕ) (r : code.Step) → call_event c ≡ arrival m → Gives q c r → IsWhole q → r.answer.refusal ≡ 0 → has m ((table_in q).reader l) ≡ true
      → ((boxes_in r.state).pointer l ≡ (boxes_in r.state).previous ((table_in q).reader l)) × (((boxes_in r.state).mark l ≡ true) ↔ ((boxes_in r.state).seen ((table_in q).reader l) < 2))
  unfolding Step
  at_arrival c m r e call W z h =
      let A : Step (table_in q) (Lowest (table_in q)) (arrival m) (boxes_in q) (boxes_in r.state) =
      subst (λ (x : Event ℕ). Step (table_in q) (Lowest (table_in q)) x (boxes_in q) (boxes_in r.state)) e (any_state q c r call W G z).0 in
      let p = pointer_delayed (table_in q) A l S.link h sound_delayed in
      let k : (boxes_in r.state).mark l ≡ marked true ((boxes_in r.state).seen ((table_in q).writer l)) = mark_in_lem (table_in q) A l S.link h ∙ ap (λ (d : Bool). marked d ((boxes_in r.state).seen ((table_in q).writer l))) sound_delayed in (
        subst (λ (w : ℕ). (boxes_in r.state).pointer l ≡ (boxes_in r.state).previous w) S.same p,
        subst (λ (w : ℕ). ((boxes_in r.state).mark l ≡ true) ↔ ((boxes_in r.state).seen w < 2)) S.same (λ e. ltb-true _ 2 (sym k ∙ e), λ i. k ∙ lt-ltb _ 2 i),
      )

  stays : (c : Call) (r : code.Step) → Gives q c r → IsWhole q → r.answer.refusal ≡ 0 → ((m : ℕ) → call_event c ≡ arrival m → has m ((table_in q).reader l) ≡ false)
      → ((boxes_in r.state).pointer l ≡ (boxes_in q).pointer l) × ((boxes_in r.state).mark l ≡ (boxes_in q).mark l)
  unfolding Step
  stays c r call W z = go (call_event c) (any_state q c r call W G z).0
    where
      go : (e : Event ℕ) → Step (table_in q) (Lowest (table_in q)) e (boxes_in q) (boxes_in r.state) → ((m : ℕ) → e ≡ arrival m → has m ((table_in q).reader l) ≡ false)
          → ((boxes_in r.state).pointer l ≡ (boxes_in q).pointer l) × ((boxes_in r.state).mark l ≡ (boxes_in q).mark l)
      go (arrival m) A out = (pointer_out (table_in q) A l (out m refl), mark_out (table_in q) A l (out m refl))
      go (start t) same out = (ap (λ s. s.pointer l) same, ap (λ s. s.mark l) same)
      go (read k) same out = (ap (λ s. s.pointer l) same, ap (λ s. s.mark l) same)
      go (finish t v) F out = (F.pointer l ∙ rw (self_stays (table_in q) l S.same level t), F.mark l ∙ rw (self_stays (table_in q) l S.same level t))

  sound : SoundlySet q l
  sound = record {
    delayed = sound_delayed;
    pointer = subst (λ (w : ℕ). (boxes_in q).pointer l ≤ N (table_in q) w + 2) S.same (G.pointer l S.link);
    present = λ active. G.present l S.link (λ z. true≢false (sym active ∙ rw z));
    held = λ e. (G.held l S.link (eqb-true _ 1 e)).1;
    early = λ i few. eq-eqb _ 1 (G.early l S.link sound_delayed i (rw (← S.same) at few));
  }

  no_more : (q' : State) (p m : ℕ) → IsWhole q → OtherPointer q l p m q' → p ≤ N (table_in q) ((table_in q).reader l) + 2
      → ((standing_in q).active ((table_in q).reader l) ≡ true → 1 ≤ p) → m ≤ 1 → (m ≡ 1 → 1 ≤ p) → (1 ≤ p → (boxes_in q).seen ((table_in q).reader l) < 2 → m ≡ 1) → IsSound q'
  no_more q' p m W same high present bit held early =
      subst (λ (x : Saved). StandsSound state_room x) (sym same)
      (self_other_sound (saved q) G l S.link S.same (ahead_order (at (saved q).deadline)) (whole_shape q W) p m
      (subst (λ (w : ℕ). p ≤ N (table_in q) w + 2) (sym S.same) high) (λ active. present (ap not (ne_eqb _ 0 active))) bit held (λ i few. early i (rw S.same at few)))

-- ---- after any calls
module _ {T : Table ℕ} {es : List (Timed ℕ)} {ns : List ℕ} {q : State} (c : Calls T es ns q) where
  -- the state is sound and of the same table
  calls_self_delayed : (l : ℕ) → SelfLink T l → T.delayed l ≡ true
  calls_self_delayed =
      let here = calls_there c in
      subst (λ (t : Table ℕ). (l : ℕ) → SelfLink t l → t.delayed l ≡ true) here.2 (λ l S. sound_delayed q here.1 l S)

  -- at a read the link is one of the table, and its reader's run is the next after those that have finished
  at_read : (h : List (Event ℕ)) (l : ℕ) → Goes (read l ∷ h) (past [] (untimed es)) → (l < T.links) × (arrivals h (T.reader l) ≡ suc (finishes h (T.reader l)))
  unfolding AllPossible Possible
  at_read h l g =
      let P : AllPossible T (earliest_at T (past [] es)) (read l ∷ h) = part_possible T (earliest_at T (past [] es)) g (calls_possible c) in
      let F = counted T (earliest_at T (past [] es)) h P.1 (T.reader l) in
      (P.0.0, omega (arith, ltb-true (finishes h (T.reader l)) _ P.0.1, F))

  run_before : EachRead (λ h l n. arrivals h (T.reader l) ≡ suc (finishes h (T.reader l))) [] (untimed es) ns
  run_before = each_so (λ h l n. run_of (T.delayed l) (had T h l) ≤ finishes h (T.writer l)) _ [] (untimed es) ns (λ h l n g f. (at_read h l g).1) (calls_finished c)

  last_output : EachRead (λ h l n. T.writer l ≡ T.reader l → 1 ≤ finishes h (T.reader l) → Gave (T.reader l) h (finishes h (T.reader l)) n) [] (untimed es) ns
  last_output = each_so (λ h l n. T.delayed l ≡ true → 2 ≤ had T h l → Gave (T.writer l) h (pred (had T h l)) n) _ [] (untimed es) ns (λ h l n g d s f. go h l n (at_read h l g) d s f) (calls_delayed c)
    where
      go : (h : List (Event ℕ)) (l n : ℕ) → (l < T.links) × (arrivals h (T.reader l) ≡ suc (finishes h (T.reader l)))
          → (T.delayed l ≡ true → 2 ≤ had T h l → Gave (T.writer l) h (pred (had T h l)) n) → T.writer l ≡ T.reader l → 1 ≤ finishes h (T.reader l)
          → Gave (T.reader l) h (finishes h (T.reader l)) n
      go h l n a d s f =
          let k : had T h l ≡ suc (finishes h (T.reader l)) = self_had T l s h ∙ a.1 in
          let v = d (calls_self_delayed l (record { link = a.0; same = s })) (omega arith) in
          subst (λ (w : ℕ). Gave w h (finishes h (T.reader l)) n) s (subst (λ (k : ℕ). Gave (T.writer l) h (pred k) n) k v)

  first_run : EachRead (λ h l n. T.writer l ≡ T.reader l → finishes h (T.reader l) ≡ 0 → n ≡ T.start_value l) [] (untimed es) ns
  first_run = each_so (λ h l n. T.delayed l ≡ true → had T h l < 2 → n ≡ T.start_value l) _ [] (untimed es) ns (λ h l n g d s f. go h l n (at_read h l g) d s f) (calls_start_value c)
    where
      go : (h : List (Event ℕ)) (l n : ℕ) → (l < T.links) × (arrivals h (T.reader l) ≡ suc (finishes h (T.reader l)))
          → (T.delayed l ≡ true → had T h l < 2 → n ≡ T.start_value l) → T.writer l ≡ T.reader l → finishes h (T.reader l) ≡ 0 → n ≡ T.start_value l
      go h l n a d s f =
          let k : had T h l ≡ suc (finishes h (T.reader l)) = self_had T l s h ∙ a.1 in
          d (calls_self_delayed l (record { link = a.0; same = s })) (omega arith)

-- ---- the theorem
pub self_links : SelfLinks
self_links = record {
  allowed = allowed;
  second = second;
  direct_refused = direct_refused;
  unknown_refused = unknown_refused;
  uncounted = uncounted;
  unprotected = λ T level l S. self_unprotected T l S.same level;
  at_arrival = λ q c m r e call W G z l S h. at_arrival q G l S c m r e call W z h;
  stays = λ q c r call W G z l S out. stays q G l S c r call W z out;
  sound = sound;
  no_more = λ q q' l p m W G S. no_more q G l S q' p m W;
  last_output = last_output;
  first_run = first_run;
  run_before = run_before;
}
