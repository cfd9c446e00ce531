-- Whatever calls are made, one after the other, on the fresh state of a table: the state stays sound, its boxes are a run of the published protocol over the
-- accepted events, and each refusal and each number is what the table and the history say.
-- Assumes nothing.
use mathlib.Core.Path.{◌≡◌, refl, sym, ap, subst, ◌∙◌}
use mathlib.Core.Logic.{◌≢◌, inl, inr}
use mathlib.Core.Bool.{Bool, true, false}
use mathlib.Core.List.{List, [], ◌∷◌}
use Prim.Native.Nat.{ℕ}
use borrow.Author.Tests.{ne_eqb, eq-eqb}
use lib.Dec.{eqb}
use lib.ListN.{length}
use Rattle.lists.proofs.Bools.{and_both}
use Rattle.protocol.specs.Event.{Event, arrival, start, read, finish}
use Rattle.protocol.specs.Table.{Table}
use Rattle.protocol.specs.Published.{Lowest, Step, number, numbers}
use Rattle.protocol.specs.Published as published
use Rattle.protocol_deadlines.specs.Deadline.{ByDeadline}
use Rattle.protocol_deadlines.specs.Timed.{timed, untimed, PossibleAt, AllPossibleAt, judged_at}
use Rattle.protocol_deadlines.proofs.Timed.{judged_possible_at}
use Rattle.protocol_state.specs.Records.{Task, Link, link_of, ahead_of}
use Rattle.protocol_state.specs.Saved.{Size, Saved, table, boxes}
use Rattle.protocol_state.specs.Rules.{judged_table}
use Rattle.protocol_state.specs.Judge.{judged_on_at}
use Rattle.protocol_state.specs.Next.{next_at, value_of}
use Rattle.protocol_state.specs.Sound.{is_sound}
use Rattle.protocol_state.specs.Fresh.{undated, Policed, judged_lists, fresh_of}
use Rattle.protocol_state.specs.Give.{reply, note, Call, call_policy, call_tick, call_event, Progress, begin, sound_for, give, called, after_call, replay}
use Rattle.protocol_state.specs.Reached.{Reached}
use Rattle.protocol_state.proofs.Rules.{room}
use Rattle.protocol_state.proofs.Sound.{says_sound}
use Rattle.protocol_state.proofs.Keeps.{table_same, policy_same, next_shape, next_sound}
use Rattle.protocol_state.proofs.Give.{Ways, give_ways, give_refusal, judged_parts, own_policy, call_tick_lem}
use Rattle.protocol_state.proofs.Steps.{step, number_read_lem}
use Rattle.protocol_state.proofs.Phases.{agrees_next, ticks_next, judged_at_tick}
use Rattle.protocol_state.proofs.Freshes as freshes

module _ {ahead : ℕ → ℕ → Bool} {size : Size} {q₀ : Saved} {o : Progress} (r : Reached ahead size q₀ o) where
  -- the state passes the test, so 19 comes up only for the other policy
  pub reached_sound : is_sound ahead size o.state ≡ true
  reached_sound = says_sound ahead size o.state r.sound

  pub reached_for : (p : ℕ) → q₀.policy ≡ p → sound_for ahead size p o.state ≡ true
  reached_for p e = and_both reached_sound (eq-eqb o.state.policy p (r.policy ∙ e))

  -- an allowed event is a step of the published protocol
  pub reached_step : (x : ℕ) (e : Event ℕ) → judged_on_at ahead o.state x e ≡ 0
      → Step (table ahead q₀) (Lowest (table ahead q₀)) e (boxes o.state) (boxes (next_at ahead o.state x e))
  reached_step x e ok =
      subst (λ (T : Table ℕ). Step T (Lowest T) e (boxes o.state) (boxes (next_at ahead o.state x e))) r.same
      (step o.state r.shape r.sound x e (judged_parts ahead o.state x e ok).0)

  -- and an allowed read gives its number
  pub reached_number : (x l : ℕ) → judged_on_at ahead o.state x (read l) ≡ 0 → value_of o.state (read l) ≡ number (table ahead q₀) (boxes o.state) l
  reached_number x l ok =
      number_read_lem o.state r.shape r.sound l (judged_parts ahead o.state x (read l) ok).0 ∙ ap (λ (T : Table ℕ). number T (boxes o.state) l) r.same

  -- the numbers of a run that is one event longer
  noted : (x : ℕ) (e : Event ℕ) → judged_on_at ahead o.state x e ≡ 0 →
      (t : Step (table ahead q₀) (Lowest (table ahead q₀)) e (boxes o.state) (boxes (next_at ahead o.state x e)))
      → note e (value_of o.state e) o.numbers ≡ numbers (table ahead q₀) (published.next e r.run t)
  unfolding numbers
  noted x (arrival m) ok t = r.read
  noted x (start u) ok t = r.read
  noted x (read l) ok t = rw (reached_number x l ok, r.read)
  noted x (finish u v) ok t = r.read

  module _ (order : ByDeadline (table ahead q₀)) where
    -- 12 to 16 and 21 to 23, as the state judges them, are what the table and the history say; under fixed priorities at tick 0
    pub judged_history : (x : ℕ) → (q₀.policy ≡ 0 → x ≡ 0) → (e : Event ℕ) → judged_on_at ahead o.state x e ≡ judged_at (table ahead q₀) o.history x e
    judged_history x none e =
        judged_at_tick o.state r.sound (subst (λ (T : Table ℕ). ByDeadline T) (sym r.same) order) o.history r.agrees r.ticks r.shape x (λ z. none (sym r.policy ∙ z)) e
        ∙ ap (λ (T : Table ℕ). judged_at T o.history x e) r.same

    -- the refusal of the next event is what the table and the history say
    pub reached_refusal : (p : ℕ) → q₀.policy ≡ p → (x : ℕ) → (q₀.policy ≡ 0 → x ≡ 0) → (e : Event ℕ) → (give ahead size p o.state x e).refusal ≡ judged_at (table ahead q₀) o.history x e
    reached_refusal p i x none e = give_refusal ahead size p o.state x e (reached_for p i) ∙ judged_history x none e

    -- where it is allowed, and under fixed priorities at tick 0, what it makes is reached
    pub reached_done : (x : ℕ) (e : Event ℕ) → (q₀.policy ≡ 0 → x ≡ 0) → judged_on_at ahead o.state x e ≡ 0
        → Reached ahead size q₀ (record { state = next_at ahead o.state x e; history = timed x e ∷ o.history; numbers = note e (value_of o.state e) o.numbers })
    unfolding AllPossibleAt untimed
    reached_done x e none ok =
        let j = judged_parts ahead o.state x e ok in
        let p : PossibleAt (table ahead q₀) o.history x e = judged_possible_at (table ahead q₀) o.history x e (sym (judged_history x none e) ∙ ok) in
        let t = reached_step x e ok in
        record {
          shape = next_shape ahead r.shape x e;
          sound = next_sound r.shape r.sound x j.1 e j.0;
          same = table_same ahead o.state x e ∙ r.same;
          policy = policy_same ahead o.state x e ∙ r.policy;
          agrees = agrees_next r.shape r.sound (untimed o.history) r.agrees x e j.0;
          ticks = ticks_next r.shape r.sound o.history r.agrees r.ticks x (λ z. none (sym r.policy ∙ z)) e j.0;
          possible = (p, r.possible);
          run = published.next e r.run t;
          read = noted x e ok t;
        }

-- an event that is done: its state, and it joins the history
pub after_done : (ahead : ℕ → ℕ → Bool) (size : Size) (o : Progress) (c : Call) (q : Saved) (v : ℕ) → called ahead size o.state c ≡ reply q 0 v
    → after_call ahead size o c ≡ record { state = q; history = timed (call_tick c) (call_event c) ∷ o.history; numbers = note (call_event c) v o.numbers }
unfolding after_call
after_done ahead size o c q v i = rw i

after_refused : (ahead : ℕ → ℕ → Bool) (size : Size) (o : Progress) (c : Call) → (called ahead size o.state c).refusal ≢ 0 → after_call ahead size o c ≡ o
unfolding after_call
after_refused ahead size o c n =
    let z : eqb (called ahead size o.state c).refusal 0 ≡ false = ne_eqb _ 0 n in
    rw z

-- one call more
pub reached_after : {ahead : ℕ → ℕ → Bool} {size : Size} {q₀ : Saved} {o : Progress} → ByDeadline (table ahead q₀) → Reached ahead size q₀ o → (c : Call)
    → Reached ahead size q₀ (after_call ahead size o c)
reached_after {ahead} {size} {q₀} {o} order r c = go (give_ways ahead size (call_policy c) o.state (call_tick c) (call_event c)) where
  go : Ways (sound_for ahead size (call_policy c) o.state) (judged_on_at ahead o.state (call_tick c) (call_event c)) o.state (next_at ahead o.state (call_tick c) (call_event c))
      (value_of o.state (call_event c)) (called ahead size o.state c) → Reached ahead size q₀ (after_call ahead size o c)
  go (inr w) = rw (after_refused ahead size o c w.1) r
  go (inl w) =
      let own = own_policy ahead size (call_policy c) o.state (call_tick c) (call_event c) w.0 in
      rw (after_done ahead size o c (next_at ahead o.state (call_tick c) (call_event c)) (value_of o.state (call_event c)) w.2)
      (reached_done r order (call_tick c) (call_event c) (λ z. call_tick_lem c (sym own ∙ r.policy ∙ z)) w.1)

-- any number of calls more
reached_replay : {ahead : ℕ → ℕ → Bool} {size : Size} {q₀ : Saved} → ByDeadline (table ahead q₀) → (cs : List Call) {o : Progress} → Reached ahead size q₀ o
    → Reached ahead size q₀ (replay ahead size o cs)
unfolding replay
reached_replay order [] r = r
reached_replay order (c ∷ cs) r = reached_replay order cs (reached_after order r c)

-- the fresh state of a table that earns no refusal, before any event
pub reached_fresh : (ahead : ℕ → ℕ → Bool) (size : Size) (p : ℕ) (ts : List Task) (ls : List Link) → judged_table ahead (length ts) (link_of ls) size (length ls) ≡ 0
    → Policed p ts → undated p ts ≡ false → Reached ahead size (fresh_of size p ts ls) (begin (fresh_of size p ts ls))
unfolding numbers AllPossibleAt untimed fresh_of
reached_fresh ahead size p ts ls ok policed none = record {
  shape = freshes.fresh_shape size p ts ls;
  sound = freshes.fresh_sound size p ts ls ahead ok policed none;
  same = refl;
  policy = refl;
  agrees = freshes.fresh_agrees size p ts ls;
  ticks = freshes.fresh_ticks size p ts ls;
  possible = tt;
  run = published.fresh (freshes.fresh_boxes_lem size p ts ls ahead);
  read = refl;
}

-- and whatever calls are made on it
pub reached : (size : Size) (p : ℕ) (ts : List Task) (ls : List Link) → judged_lists size p ts ls ≡ 0 → Policed p ts → (cs : List Call)
    → Reached (ahead_of ts) size (fresh_of size p ts ls) (replay (ahead_of ts) size (begin (fresh_of size p ts ls)) cs)
reached size p ts ls ok policed cs =
    let j = freshes.judged_dated (judged_table (ahead_of ts) (length ts) (link_of ls) size (length ls)) (undated p ts) ok in
    reached_replay (freshes.fresh_order size p ts ls (room (ahead_of ts) (length ts) (link_of ls) size (length ls) j.0).0) cs
    (reached_fresh (ahead_of ts) size p ts ls j.0 policed j.1)
