-- Demands 2 and 3 of any calls.
-- Assumes nothing.
use mathlib.Core.Path.{◌≡◌, refl, sym, ap, subst, ◌∙◌}
use mathlib.Core.Logic.{◌↔◌}
use mathlib.Core.Bool.{Bool, true, false}
use mathlib.Core.List.{List, [], ◌∷◌, ◌++◌, append-nil}
use Prim.Native.Nat.{ℕ, pred, ◌+◌, ◌≤◌, ◌<◌}
use lib.ListN.{length}
use Rattle.protocol.specs.Event.{Event, arrival, start, read, finish}
use Rattle.protocol.specs.Table.{Table, Lawful}
use Rattle.protocol.specs.History.{Goes, active, arrivals, finishes, reads, past}
use Rattle.protocol.specs.Schedule.{Fair, Possible, AllPossible}
use Rattle.protocol.specs.ZeroTime.{run_of, had, wanted, due, dues, ideals}
use Rattle.protocol.specs.Given.{there}
use Rattle.protocol.specs.Published.{Boxes, Lowest, Run, number, numbers}
use Rattle.protocol.specs.Instant.{Order, zero_run, find, looked, theres}
use Rattle.protocol.proofs.Theorem.{lowest_only, weaken, finished_then, zero_time, ideals_there, ideals_count}
use Rattle.protocol.proofs.Unique.{runs_same}
use Rattle.protocol_deadlines.specs.Deadline.{ByDeadline}
use Rattle.protocol_deadlines.specs.Timed.{Timed, untimed, since, earliest_at, PossibleAt, AllPossibleAt, judged_at}
use Rattle.protocol_deadlines.specs.Answering.{ReadsNothing}
use Rattle.protocol_deadlines.proofs.InOrder.{in_order_lem}
use Rattle.protocol_deadlines.proofs.Timed.{timed_possible, possible_fair, judged_possible_at, possible_judged_at}
use Rattle.protocol_state.specs.Saved.{state_room, at, ahead_in, table, boxes}
use Rattle.protocol_state.specs.Judge.{judged_on_at}
use Rattle.protocol_state.specs.Next.{value_of}
use Rattle.protocol_state.specs.Sound.{Sound}
use Rattle.protocol_state.specs.Give.{Reply, Call, call_policy, call_tick, call_event, called}
use Rattle.protocol_state.proofs.Give.{call_tick_lem}
use Rattle.protocol_state.proofs.Phases.{active_is, waiting_is, running_is}
use Rattle.protocol_state.proofs.History.{reached_refusal, reached_number}
use Rattle.protocol_state.proofs.Numbers.{table_lawful, reached_ideals, reached_zero_run}
use Rattle.recording_core.proofs.Right.{own_order}
use Rattle.mailbox.specs.States.{saved}
use Rattle.mailbox.specs.declared.State.{State}
use Rattle.mailbox.specs.declared.Step.{Step}
use Rattle.demands.specs.Station.{most_urgent_first}
use Rattle.demands.specs.Refusals.{by_history, StandsAlike}
use Rattle.demands.specs.States.{IsWhole, IsSound, table_in, policy_in, standing_in}
use Rattle.demands.specs.Order.{EachRead, turned}
use Rattle.demands.specs.Calls.{Gives, numbers_of, Calls, fresh, accepted, refused}
use Rattle.demands.specs.Mailboxes.{Published}
use Rattle.demands.specs.Outputs.{Gave, Output}
use Rattle.demands.proofs.Orders.{untimed_past, untimed_snoc, part_possible, each_more, each_read, each_so, looked_each}
use Rattle.demands.proofs.Readers.{Apart, sound_apart, run_mailboxes, run_remembered}
use Rattle.demands.proofs.Outputs.{due_direct, due_delayed, due_start}
use Rattle.demands.proofs.Calls.{call_done, calls_whole, Come, comes, come_ahead}

-- boxes and numbers that a run over the history h gives
record Follows (T : Table ℕ) (h : List (Event ℕ)) (os : List ℕ) (s : Boxes ℕ) : Type 0 where
  run : Run T (Lowest T) s h
  read : os ≡ numbers T run

module _ {T : Table ℕ} {es : List (Timed ℕ)} {ns : List ℕ} {q : State} (c : Calls T es ns q) where
  C : Come T es ns q
  C = comes c

  abbrev T₀ : Table ℕ
  T₀ = table (ahead_in C.begin) C.begin

  -- the history of the accepted events, without their ticks
  abbrev H : List (Timed ℕ)
  H = past [] es

  abbrev h : List (Event ℕ)
  h = past [] (untimed es)

  plain : untimed H ≡ h
  unfolding untimed
  plain = untimed_past [] es

  ordered : ByDeadline T₀
  ordered = own_order C.begin

  -- the order of the tasks is the one by their deadlines
  pub calls_ordered : ByDeadline T
  calls_ordered = subst (λ (t : Table ℕ). ByDeadline t) C.same ordered

  -- the accepted events could happen
  pub calls_possible_at : AllPossibleAt T (past [] es)
  calls_possible_at = subst (λ (t : Table ℕ). AllPossibleAt t H) C.same C.reached.possible

  -- so they could under their ticks, and who may run then is fair
  pub calls_possible : AllPossible T (earliest_at T (past [] es)) (past [] (untimed es))
  calls_possible = subst (λ (x : List (Event ℕ)). AllPossible T (earliest_at T H) x) plain (timed_possible T H calls_possible_at)

  calls_fair : Fair T (earliest_at T H)
  calls_fair = possible_fair T calls_ordered H calls_possible_at

  calls_lawful : Lawful T
  calls_lawful = subst (λ (t : Table ℕ). Lawful t) C.same (table_lawful ordered C.reached)

  -- demand 2: a refusal is what the table and the accepted events say
  pub calls_refusal : (k : Call) (r : Step) → Gives q k r → policy_in q ≡ call_policy k → r.answer.refusal ≡ judged_at T (past [] es) (call_tick k) (call_event k)
  calls_refusal k r call own =
      ap (λ (x : Reply). x.refusal) call.answer
      ∙ ap (λ (ahead : ℕ → ℕ → Bool). (called ahead state_room (saved q) k).refusal) (come_ahead C.reached)
      ∙ reached_refusal C.reached ordered (call_policy k) (sym C.reached.policy ∙ own) (call_tick k) (λ z. call_tick_lem k (sym own ∙ C.reached.policy ∙ z)) (call_event k)
      ∙ ap (λ (t : Table ℕ). judged_at t H (call_tick k) (call_event k)) C.same

  pub calls_event : (k : Call) (r : Step) → Gives q k r
      → (r.answer.refusal ≡ 0) ↔ ((policy_in q ≡ call_policy k) × PossibleAt T (past [] es) (call_tick k) (call_event k))
  calls_event k r call = (
    λ z. let own = (call_done q k r call z).0 in
        (own, judged_possible_at T H (call_tick k) (call_event k) (sym (calls_refusal k r call own) ∙ z)),
    λ p. calls_refusal k r call p.0 ∙ possible_judged_at T H (call_tick k) (call_event k) p.1,
  )

  -- demand 2: the state is sound, of the same table, and its tasks stand as the history says
  calls_sound : IsSound q
  calls_sound = subst (λ (ahead : ℕ → ℕ → Bool). Sound ahead state_room (saved q)) (sym (come_ahead C.reached)) C.reached.sound

  calls_table : table_in q ≡ T
  calls_table = ap (λ (ahead : ℕ → ℕ → Bool). table ahead (saved q)) (come_ahead C.reached) ∙ C.reached.same ∙ C.same

  stand : (t : ℕ) → StandsAlike (standing_in q) (by_history T H) t
  stand t =
      let p = C.reached.agrees t in
      let i : active (untimed H) t ≡ (standing_in q).active t = active_is p in
      record {
        active = sym i;
        waiting = sym (waiting_is p);
        running = sym (running_is p);
        due = λ on. ap (λ (n : ℕ). n + at (saved q).deadline t) (C.reached.ticks.since t (i ∙ on)) ∙ ap (λ (x : Table ℕ). since H t + x.deadline t) calls_table;
      }

  pub calls_there : IsWhole q × IsSound q × (table_in q ≡ T) × ((t : ℕ) → StandsAlike (standing_in q) (by_history T (past [] es)) t)
  calls_there = (calls_whole c, calls_sound, calls_table, stand)

  -- demand 2: the published protocol's
  follows : Follows T h C.os (boxes (saved q))
  follows =
      subst (λ (t : Table ℕ). Follows t h C.os (boxes (saved q))) C.same
      (subst (λ (x : List (Event ℕ)). Follows T₀ x C.os (boxes (saved q))) plain (record { run = C.reached.run; read = C.reached.read }))

  pub calls_published : Published T es ns q
  calls_published = record {
    possible = calls_possible_at;
    run = follows.run;
    only = λ s r. runs_same T follows.run r;
    numbers = C.turns ∙ ap turned follows.read;
    mailboxes = run_mailboxes T (earliest_at T H) (subst (λ (t : Table ℕ). Apart t) calls_table (sound_apart (saved q) calls_sound)) (weaken T (lowest_only T) follows.run) calls_possible;
    remembered = run_remembered T (earliest_at T H) (weaken T (lowest_only T) follows.run) calls_possible;
    clocked = record { last = C.reached.ticks.last; since = C.reached.ticks.since };
  }

  -- demand 3: the order in which the tasks are taken
  pub calls_order : Order T (most_urgent_first T)
  calls_order = subst (λ (t : Table ℕ). Order t (most_urgent_first t)) C.same (in_order_lem T₀ ordered)

  -- the numbers are the ideal ones
  pub calls_ideals : ns ≡ turned (ideals T (past [] (untimed es)))
  calls_ideals = C.turns ∙ ap turned (reached_ideals ordered C.reached) ∙ ap (λ (x : List (Event ℕ)). turned (ideals T₀ x)) plain ∙ ap (λ (t : Table ℕ). turned (ideals t h)) C.same

  -- one for each read
  pub calls_count : length (ideals T (past [] (untimed es))) ≡ reads (past [] (untimed es))
  calls_count = ideals_count T (earliest_at T H) calls_lawful calls_fair h calls_possible

  -- each is what its link was due
  zero_run_lem : dues T h ≡ looked T (zero_run T (most_urgent_first T) h) h
  zero_run_lem =
      sym (ideals_there T (earliest_at T H) calls_lawful calls_fair h calls_possible)
      ∙ subst (λ (x : List (Event ℕ)). theres (ideals T x) ≡ looked T (zero_run T (most_urgent_first T) x) x) plain
      (subst (λ (t : Table ℕ). theres (ideals t (untimed H)) ≡ looked t (zero_run t (most_urgent_first t) (untimed H)) (untimed H)) C.same
      (ap theres (sym (reached_ideals ordered C.reached)) ∙ reached_zero_run ordered C.reached (most_urgent_first T₀) (in_order_lem T₀ ordered)))

  -- at each read the run that is wanted has finished
  read_finished : (x : List (Event ℕ)) (l : ℕ) → Goes (read l ∷ x) h → wanted T x l ≤ finishes x (T.writer l)
  unfolding AllPossible Possible
  read_finished x l g =
      let P : AllPossible T (earliest_at T H) (read l ∷ x) = part_possible T (earliest_at T H) g calls_possible in
      finished_then T (earliest_at T H) calls_lawful calls_fair x l P.1 P.0.0 P.0.2

  -- the number of an accepted read is what its link is due
  read_due : (k : Call) (l : ℕ) (r : Step) → call_event k ≡ read l → Gives q k r → r.answer.refusal ≡ 0 → there r.answer.value ≡ due T h l
  read_due k l r e call z =
      let w = call_done q k r call z in
      let j : judged_on_at (ahead_in C.begin) (saved q) (call_tick k) (read l) ≡ 0 =
      ap (λ (x : Event ℕ). judged_on_at (ahead_in C.begin) (saved q) (call_tick k) x) (sym e)
      ∙ ap (λ (ahead : ℕ → ℕ → Bool). judged_on_at ahead (saved q) (call_tick k) (call_event k)) (sym (come_ahead C.reached)) ∙ w.1 in
      let v : r.answer.value ≡ number T (boxes (saved q)) l =
      w.3 ∙ ap (value_of (saved q)) e ∙ reached_number C.reached (call_tick k) l j ∙ ap (λ (t : Table ℕ). number t (boxes (saved q)) l) C.same in
      let p : Possible T (earliest_at T H) h (read l) =
      subst (λ (x : List (Event ℕ)). Possible T (earliest_at T H) x (read l)) plain
      (subst (λ (x : Event ℕ). Possible T (earliest_at T H) (untimed H) x) e ((calls_event k r call).0 z).1.possible) in
      ap (λ (x : ℕ). there x) v ∙ (zero_time T (earliest_at T H) calls_lawful calls_fair (lowest_only T) follows.run calls_possible l p).0

-- so at each read
abbrev Due : Table ℕ → List (Event ℕ) → ℕ → ℕ → Type 0
Due T h l n = there n ≡ due T h l

-- one accepted event more
due_more : {T : Table ℕ} {es : List (Timed ℕ)} {ns : List ℕ} {q : State} → Calls T es ns q → (k : Call) (r : Step) → Gives q k r → r.answer.refusal ≡ 0
    → (e : Event ℕ) → call_event k ≡ e → EachRead (Due T) [] (untimed es) ns → EachRead (Due T) [] (untimed es ++ (e ∷ [])) (ns ++ numbers_of e r)
unfolding ReadsNothing
due_more {T} {es} {ns} c k r call z (arrival m) i E = rw (append-nil ns) (each_more (Due T) [] (untimed es) ns (arrival m) tt E)
due_more {T} {es} {ns} c k r call z (start t) i E = rw (append-nil ns) (each_more (Due T) [] (untimed es) ns (start t) tt E)
due_more {T} {es} {ns} c k r call z (read l) i E = each_read (Due T) [] (untimed es) ns l r.answer.value (read_due c k l r i call z) E
due_more {T} {es} {ns} c k r call z (finish t v) i E = rw (append-nil ns) (each_more (Due T) [] (untimed es) ns (finish t v) tt E)

each_due : {T : Table ℕ} {es : List (Timed ℕ)} {ns : List ℕ} {q : State} → Calls T es ns q → EachRead (Due T) [] (untimed es) ns
unfolding EachRead untimed
each_due (fresh over n l D W R K B m said ok) = refl
each_due (accepted {T} {es} {ns} c k r call z) =
    subst (λ (xs : List (Event ℕ)). EachRead (Due T) [] xs (ns ++ numbers_of (call_event k) r)) (sym (untimed_snoc es (call_tick k) (call_event k)))
    (due_more c k r call z (call_event k) refl (each_due c))
each_due (refused c k r call n) = each_due c

module _ {T : Table ℕ} {es : List (Timed ℕ)} {ns : List ℕ} {q : State} (c : Calls T es ns q) where
  -- what follows at each read from what its link is due there
  each_then : (Q : List (Event ℕ) → ℕ → ℕ → Type 0) → ((x : List (Event ℕ)) (l n : ℕ) → Goes (read l ∷ x) (past [] (untimed es)) → Due T x l n → Q x l n) → EachRead Q [] (untimed es) ns
  each_then Q law = each_so (Due T) Q [] (untimed es) ns law (each_due c)

  -- demand 3: the run where tasks take no time
  pub calls_no_time : EachRead (λ h l n. find l (arrivals h (T.reader l)) (zero_run T (most_urgent_first T) (past [] (untimed es))) ≡ there n) [] (untimed es) ns
  calls_no_time = each_then _ (λ h l n g d. looked_each T (zero_run T (most_urgent_first T) (past [] (untimed es))) (zero_run_lem c) h l g ∙ sym d)

  -- demand 3: direct, delayed, the start value
  pub calls_direct : EachRead (λ h l n. T.delayed l ≡ false → Output T h (T.writer l) (had T h l) n) [] (untimed es) ns
  calls_direct = each_then _ (λ h l n g d. due_direct T h l n d)

  pub calls_delayed : EachRead (λ h l n. T.delayed l ≡ true → 2 ≤ had T h l → Gave (T.writer l) h (pred (had T h l)) n) [] (untimed es) ns
  calls_delayed = each_then _ (λ h l n g d. due_delayed T h l n d)

  pub calls_start_value : EachRead (λ h l n. T.delayed l ≡ true → had T h l < 2 → n ≡ T.start_value l) [] (untimed es) ns
  calls_start_value = each_then _ (λ h l n g d. due_start T h l n d)

  -- demand 3: no output of an unfinished run
  pub calls_finished : EachRead (λ h l n. run_of (T.delayed l) (had T h l) ≤ finishes h (T.writer l)) [] (untimed es) ns
  calls_finished = each_then _ (λ h l n g d. read_finished c h l g)
