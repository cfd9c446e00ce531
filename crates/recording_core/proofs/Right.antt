-- What holds of the state, the counts and the list after each accepted event of a recording; and an event is accepted exactly when it could happen and there is room.
-- Assumes nothing.
use mathlib.Core.Path.{◌≡◌, refl, ap, sym, subst, ◌∙◌}
use mathlib.Core.Bool.{Bool, true, false, cond}
use mathlib.Core.List.{List, [], ◌∷◌}
use Prim.Native.Nat.{ℕ, ◌^◌, ◌≤◌, ◌<◌}
use native.Mathlib.Omega.{arith}
use borrow.Author.Tests.{eqb-true, eqb-false, eq-eqb, leb-false, lt-leb}
use lib.Dec.{eqb, leb}
use lib.ListN.{length, length-set}
use Rattle.lists.proofs.Bools.{cond_zero}
use Rattle.protocol.specs.Given.{values}
use Rattle.protocol.specs.Event.{Event, arrival, start, read, finish}
use Rattle.protocol.specs.Table.{Table}
use Rattle.protocol.specs.History.{Counts, reads, past}
use Rattle.protocol.specs.ZeroTime.{dues, ideals}
use Rattle.protocol_deadlines.specs.Deadline.{ahead_by, ByDeadline}
use Rattle.protocol_deadlines.specs.Timed.{Timed, timed, untimed, earliest_at, PossibleAt, AllPossibleAt, judged_at}
use Rattle.protocol_deadlines.proofs.Timed.{judged_possible_at, possible_judged_at}
use Rattle.protocol_state.specs.Records.{Task, Link, link_of, ahead_of}
use Rattle.protocol_state.specs.Saved.{Size, Saved, ahead_in, table}
use Rattle.protocol_state.specs.Judge.{judged_on_at}
use Rattle.protocol_state.specs.Next.{next_at, value_of}
use Rattle.protocol_state.specs.Rules.{judged_table}
use Rattle.protocol_state.specs.Fresh.{undated, Policed, fresh_of, judged_lists}
use Rattle.protocol_state.specs.Give.{Progress, note}
use Rattle.protocol_state.specs.Reached.{Reached}
use Rattle.protocol_state.proofs.Rules as rules
use Rattle.protocol_state.proofs.Freshes.{judged_dated, fresh_ahead}
use Rattle.protocol_state.proofs.History.{judged_history, reached_done, reached_fresh}
use Rattle.protocol_state.proofs.Numbers.{reached_ideals, reached_count}
use Rattle.byte_format.specs.Number.{number_of}
use Rattle.byte_format.specs.Format.{got, FitEach}
use Rattle.byte_format.specs.Play.{Allowed, finally}
use Rattle.byte_format.proofs.Kinded.{record_got}
use Rattle.recording_format.specs.RecordingKind.{RecordingKind}
use Rattle.recording_format.specs.Event.{EventFits, event_kinds, event_at, events}
use Rattle.recording_format.proofs.EventKinds.{byte_of, events_told}
use Rattle.recording_format.proofs.TaskRules.{Dates}
use Rattle.recording_core.specs.Playing.{Playing, no_counts, full, no_room, listed_by, judged_in, stepped_in}
use Rattle.recording_core.specs.Promise.{placed, refused_by}
use Rattle.recording_core.specs.Right.{Right}
use Rattle.recording_core.proofs.Counting.{counts_none, counts_next}

-- under fixed priorities the events have tick 0
unfoldable pub Still : ℕ → List (Timed ℕ) → Type 0
Still p [] = Unit {0}
Still p (timed x e ∷ es) = (p ≡ 0 → x ≡ 0) × Still p es

-- for there a tick has no bytes
module _ (kind : RecordingKind) (dates : Dates kind) where
  pub no_bytes : (x : ℕ) → x < 256 ^ kind.tick_width → kind.policy ≡ 0 → x ≡ 0
  no_bytes x w z = let v : x < 256 ^ 0 = rw (dates.unticked z) at w in omega arith

  tick_fits : (x : ℕ) (e : Event ℕ) → EventFits kind (timed x e) → kind.policy ≡ 0 → x ≡ 0
  unfolding EventFits
  tick_fits x (arrival m) f = no_bytes x f.0
  tick_fits x (start t) f = no_bytes x f.0
  tick_fits x (read l) f = no_bytes x f.0
  tick_fits x (finish t v) f = no_bytes x f.0

  pub fits_still : (es : List (Timed ℕ)) → FitEach (events kind) es → Still kind.policy es
  unfolding FitEach Still
  fits_still [] f = tt
  fits_still (timed x e ∷ es) f = (tick_fits x e f.0, fits_still es f.1)

  -- nor has an event that is read there
  pub read_still : (s : List ℕ) (p : ℕ) (e : Timed ℕ) (n : ℕ) → event_at kind s p ≡ got e n → Still kind.policy (e ∷ [])
  unfolding Still number_of
  read_still s p e n u =
      subst (λ (x : Timed ℕ). Still kind.policy (x ∷ [])) (record_got (event_kinds kind) byte_of (events_told kind) s p e n u).1 (λ z. rw (dates.unticked z), tt)

-- the order of a state's own tasks is the one by its deadlines
pub own_order : (q : Saved) → ByDeadline (table (ahead_in q) q)
own_order q u t = refl

-- the lent list keeps its length
pub length_placed : (vs out : List ℕ) → length (placed vs out) ≡ length out
unfolding placed
length_placed [] out = refl
length_placed (v ∷ vs) out = rw length-set (length_placed vs out)

-- reads never become fewer
pub reads_past : (H es : List (Timed ℕ)) → reads (untimed H) ≤ reads (untimed (past H es))
unfolding past reads untimed
reads_past H [] = omega arith
reads_past H (timed x (arrival m) ∷ es) = reads_past (timed x (arrival m) ∷ H) es
reads_past H (timed x (start u) ∷ es) = reads_past (timed x (start u) ∷ H) es
reads_past H (timed x (read l) ∷ es) = omega (arith, reads_past (timed x (read l) ∷ H) es)
reads_past H (timed x (finish u v) ∷ es) = reads_past (timed x (finish u v) ∷ H) es

-- of events that could happen, the first ones could
past_possible : (T : Table ℕ) (H es : List (Timed ℕ)) → AllPossibleAt T (past H es) → AllPossibleAt T H
unfolding AllPossibleAt past
past_possible T H [] p = p
past_possible T H (timed x e ∷ es) p = (past_possible T (timed x e ∷ H) es p).1

-- a refusal of the core, or else one for want of room
pub both_zero : (j r : ℕ) → cond (eqb j 0) r j ≡ 0 → (j ≡ 0) × (r ≡ 0)
both_zero j r e = go (eqb j 0) refl e
  where
    go : (b : Bool) → eqb j 0 ≡ b → cond b r j ≡ 0 → (j ≡ 0) × (r ≡ 0)
    go true i z = (eqb-true j 0 i, z)
    go false i z = absurd (eqb-false j 0 i z)

-- room for the number that an event may read
room_left : (e : Event ℕ) (h : List (Event ℕ)) (out : List ℕ) → reads h ≤ length out → no_room e (full out (reads h)) ≡ 0 → reads (e ∷ h) ≤ length out
unfolding reads
room_left (arrival m) h out r z = r
room_left (start u) h out r z = r
room_left (read k) h out r z = let x = leb-false (length out) (reads h) (cond_zero (leb (length out) (reads h)) 18 0 (λ y. omega arith) z).0 in omega arith
room_left (finish u v) h out r z = r

-- and the other way round
pub room_enough_lem : (e : Event ℕ) (h : List (Event ℕ)) (out : List ℕ) → reads (e ∷ h) ≤ length out → no_room e (full out (reads h)) ≡ 0
unfolding reads
room_enough_lem (arrival m) h out r = refl
room_enough_lem (start u) h out r = refl
room_enough_lem (read k) h out r = rw (lt-leb (length out) (reads h) (omega arith))
room_enough_lem (finish u v) h out r = refl

module _ {size : Size} {q₀ : Saved} {out : List ℕ} {H : List (Timed ℕ)} {q : Playing} (R : Right size q₀ out H q) where
  abbrev T : Table ℕ
  T = table (ahead_in q₀) q₀

  abbrev h : List (Event ℕ)
  h = untimed H

  reads_is : q.counts.reads ≡ reads h
  reads_is = ap (λ (c : Counts). c.reads) R.counts

  list_length : length q.list ≡ length out
  list_length = ap length R.list ∙ length_placed (ideals T h) out

  -- the order of the state's own tasks is that of the one it came from
  same_order : ahead_in q.state ≡ ahead_in q₀
  same_order = ap (λ (T : Table ℕ). ahead_by T.deadline) R.reached.same

  -- what the state says of an event, at tick 0 under fixed priorities, is what the table and the history say
  own_judged : (x : ℕ) → (q₀.policy ≡ 0 → x ≡ 0) → (e : Event ℕ) → judged_on_at (ahead_in q.state) q.state x e ≡ judged_at T H x e
  own_judged x none e = ap (λ (ahead : ℕ → ℕ → Bool). judged_on_at ahead q.state x e) same_order ∙ judged_history R.reached (own_order q₀) x none e

  own_next : (x : ℕ) (e : Event ℕ) → next_at (ahead_in q.state) q.state x e ≡ next_at (ahead_in q₀) q.state x e
  own_next x e = ap (λ (ahead : ℕ → ℕ → Bool). next_at ahead q.state x e) same_order

  -- the refusal of an event is what the table and the history alone say
  pub refused_by_lem : (e : Timed ℕ) → Still q₀.policy (e ∷ []) → judged_in q e ≡ refused_by (table (ahead_in q₀) q₀) out H e
  unfolding judged_in Still
  refused_by_lem (timed x e) S = rw (own_judged x S.0 e, list_length, reads_is)

  -- an event at tick 0 under fixed priorities
  module _ (x : ℕ) (e : Event ℕ) (none : q₀.policy ≡ 0 → x ≡ 0) where
    refused_so : judged_in q (timed x e) ≡ refused_by (table (ahead_in q₀) q₀) out H (timed x e)
    unfolding Still
    refused_so = refused_by_lem (timed x e) (none, tt)

    -- it is accepted only if it could happen and there is room
    allowed_could : judged_in q (timed x e) ≡ 0 → PossibleAt T H x e × (reads (e ∷ h) ≤ length out)
    allowed_could z =
        let b = both_zero (judged_at T H x e) _ (sym refused_so ∙ z) in
        (judged_possible_at T H x e b.0, room_left e h out R.room b.1)

    -- and always if it could, and there is
    could_allowed : PossibleAt T H x e → reads (e ∷ h) ≤ length out → judged_in q (timed x e) ≡ 0
    could_allowed p r = refused_so ∙ rw (eq-eqb _ 0 (possible_judged_at T H x e p)) (room_enough_lem e h out r)

    -- one accepted event more
    module _ (z : judged_in q (timed x e) ≡ 0) where
      core_allows : judged_on_at (ahead_in q₀) q.state x e ≡ 0
      unfolding judged_in
      core_allows = ap (λ (ahead : ℕ → ℕ → Bool). judged_on_at ahead q.state x e) (sym same_order) ∙ (both_zero (judged_on_at (ahead_in q.state) q.state x e) _ z).0

      abbrev noted : Progress
      noted = record { state = next_at (ahead_in q₀) q.state x e; history = timed x e ∷ H; numbers = note e (value_of q.state e) (ideals T h) }

      noted_reached : Reached (ahead_in q₀) size q₀ noted
      noted_reached = reached_done R.reached (own_order q₀) x e none core_allows

      noted_ideals : note e (value_of q.state e) (ideals T h) ≡ ideals T (e ∷ h)
      unfolding untimed
      noted_ideals = reached_ideals (own_order q₀) noted_reached

      listed_next : (e : Event ℕ) (v : ℕ) → note e v (ideals T h) ≡ ideals T (e ∷ h) → listed_by q.list q.counts.reads e v ≡ placed (ideals T (e ∷ h)) out
      unfolding dues placed
      listed_next (arrival m) v i = R.list
      listed_next (start u) v i = R.list
      listed_next (read l) v i = rw (← i, R.list, reads_is, reached_count (own_order q₀) R.reached)
      listed_next (finish u y) v i = R.list

      right_next : Right size q₀ out (timed x e ∷ H) (stepped_in q (timed x e))
      unfolding stepped_in untimed
      right_next =
          let c = allowed_could z in
          let n : q.state.tasks ≡ q₀.tasks = ap (λ (t : Table ℕ). t.tasks) R.reached.same in
          record {
            reached = subst (λ (s : Saved). Reached (ahead_in q₀) size q₀ (record { state = s; history = timed x e ∷ H; numbers = ideals T (e ∷ h) })) (sym (own_next x e))
                (subst (λ (ns : List ℕ). Reached (ahead_in q₀) size q₀ (record { state = next_at (ahead_in q₀) q.state x e; history = timed x e ∷ H; numbers = ns })) noted_ideals noted_reached);
            counts = rw (n, R.counts) (counts_next T (earliest_at T H) h e c.0.possible);
            list = listed_next e (value_of q.state e) noted_ideals;
            room = c.1;
          }

module _ {size : Size} {q₀ : Saved} {out : List ℕ} where
  -- all of them
  pub right_finally : (es : List (Timed ℕ)) {H : List (Timed ℕ)} {q : Playing} → Still q₀.policy es → Right size q₀ out H q → Allowed judged_in stepped_in q es
      → Right size q₀ out (past H es) (finally stepped_in q es)
  unfolding Allowed past finally Still
  right_finally [] S R A = R
  right_finally (timed x e ∷ es) S R A = right_finally es S.1 (right_next R x e S.0 A.0) A.1

  -- events are accepted if they could happen, each in its turn, and there is room for their numbers
  pub happens_allowed : (es : List (Timed ℕ)) {H : List (Timed ℕ)} {q : Playing} → Still q₀.policy es → Right size q₀ out H q → AllPossibleAt (table (ahead_in q₀) q₀) (past H es)
      → reads (untimed (past H es)) ≤ length out → Allowed judged_in stepped_in q es
  unfolding Allowed AllPossibleAt past untimed reads Still
  happens_allowed [] S R A r = tt
  happens_allowed (timed x e ∷ es) {H} S R A r =
      let m : reads (e ∷ untimed H) ≤ reads (untimed (past (timed x e ∷ H) es)) = reads_past (timed x e ∷ H) es in
      let z = could_allowed R x e S.0 (past_possible (table (ahead_in q₀) q₀) (timed x e ∷ H) es A).0 (omega arith) in
      (z, happens_allowed es S.1 (right_next R x e S.0 z) A r)

module _ (size : Size) (p : ℕ) (ts : List Task) (ls : List Link) (ok : judged_lists size p ts ls ≡ 0) where
  judged : (judged_table (ahead_of ts) (length ts) (link_of ls) size (length ls) ≡ 0) × (undated p ts ≡ false)
  judged = judged_dated (judged_table (ahead_of ts) (length ts) (link_of ls) size (length ls)) (undated p ts) ok

  -- the order of the fresh state is that of the table
  pub own_ahead : ahead_in (fresh_of size p ts ls) ≡ ahead_of ts
  own_ahead = fresh_ahead size p ts ls (rules.room (ahead_of ts) (length ts) (link_of ls) size (length ls) judged.0).0

  -- the fresh state of a table that earns no refusal
  pub right_fresh : Policed p ts → (out : List ℕ) → Right size (fresh_of size p ts ls) out [] (record { state = fresh_of size p ts ls; counts = no_counts; list = out })
  unfolding dues values placed reads untimed
  right_fresh policed out = record {
    reached = subst (λ (ahead : ℕ → ℕ → Bool). Reached ahead size (fresh_of size p ts ls) (record { state = fresh_of size p ts ls; history = []; numbers = [] })) (sym own_ahead)
        (reached_fresh (ahead_of ts) size p ts ls judged.0 policed judged.1);
    counts = sym (counts_none (table (ahead_in (fresh_of size p ts ls)) (fresh_of size p ts ls)));
    list = refl;
    room = omega arith;
  }
