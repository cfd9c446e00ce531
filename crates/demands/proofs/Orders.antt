-- Events and numbers in the order in which they happen, and the protocol's histories, which have the last event first.
-- Assumes nothing.
use mathlib.Core.Path.{◌≡◌, refl, sym, ap, ◌∙◌}
use mathlib.Core.List.{List, [], ◌∷◌, ◌++◌, append_assoc}
use Prim.Native.Nat.{ℕ, zero, suc, ◌+◌, ◌≤◌, ◌<◌}
use native.Mathlib.Omega.{arith}
use lib.ListN.{length, length-append, drop, set}
use Rattle.protocol.specs.Event.{Event, arrival, start, read, finish}
use Rattle.protocol.specs.Table.{Table}
use Rattle.protocol.specs.History.{Goes, same, more, arrivals, reads, past}
use Rattle.protocol.specs.Schedule.{Policy, AllPossible}
use Rattle.protocol.specs.ZeroTime.{due, dues}
use Rattle.protocol.specs.Instant.{LogEntry, find, looked}
use Rattle.protocol_deadlines.specs.Timed.{Timed, timed, untimed, AllPossibleAt}
use Rattle.protocol_deadlines.specs.Answering.{ReadsNothing}
use Rattle.recording_core.specs.Promise.{placed}
use Rattle.demands.specs.Order.{Happen, EachRead, turned}

-- one event more at the end
pub past_snoc : {A : Type 0} (h es : List A) (e : A) → past h (es ++ (e ∷ [])) ≡ e ∷ past h es
unfolding past
past_snoc h [] e = refl
past_snoc h (x ∷ es) e = past_snoc (x ∷ h) es e

-- without the ticks, in either order
pub untimed_past : (H es : List (Timed ℕ)) → untimed (past H es) ≡ past (untimed H) (untimed es)
unfolding past untimed
untimed_past H [] = refl
untimed_past H (timed x e ∷ es) = untimed_past (timed x e ∷ H) es

pub untimed_snoc : (es : List (Timed ℕ)) (x : ℕ) (e : Event ℕ) → untimed (es ++ (timed x e ∷ [])) ≡ untimed es ++ (e ∷ [])
unfolding untimed
untimed_snoc [] x e = refl
untimed_snoc (timed y f ∷ es) x e = ap (λ (h : List (Event ℕ)). f ∷ h) (untimed_snoc es x e)

-- as many reads in either order
pub past_reads : (h es : List (Event ℕ)) → reads (past h es) ≡ reads es + reads h
unfolding past reads
past_reads h [] = omega arith
past_reads h (arrival m ∷ es) = past_reads (arrival m ∷ h) es
past_reads h (start t ∷ es) = past_reads (start t ∷ h) es
past_reads h (read l ∷ es) = omega (arith, past_reads (read l ∷ h) es)
past_reads h (finish t v ∷ es) = past_reads (finish t v ∷ h) es

-- each event could happen in its turn, in either order
module _ (T : Table ℕ) where
  pub happen_possible : (H es : List (Timed ℕ)) → AllPossibleAt T H → Happen T H es → AllPossibleAt T (past H es)
  unfolding past Happen AllPossibleAt
  happen_possible H [] P E = P
  happen_possible H (timed x e ∷ es) P E = happen_possible (timed x e ∷ H) es (E.0, P) E.1

  pub possible_happen : (H es : List (Timed ℕ)) → AllPossibleAt T (past H es) → Happen T H es × AllPossibleAt T H
  unfolding past Happen AllPossibleAt
  possible_happen H [] P = (tt, P)
  possible_happen H (timed x e ∷ es) P = let i = possible_happen (timed x e ∷ H) es P in ((i.1.0, i.0), i.1.1)

  -- the first of events that could happen
  pub part_possible : (may : Policy ℕ) {h H : List (Event ℕ)} → Goes h H → AllPossible T may H → AllPossible T may h
  unfolding AllPossible
  part_possible may same P = P
  part_possible may (more e g) P = part_possible may g P.1

-- what holds of each read, one event more at the end
module _ (Q : List (Event ℕ) → ℕ → ℕ → Type 0) where
  pub each_more : (h es : List (Event ℕ)) (ns : List ℕ) (e : Event ℕ) → ReadsNothing e → EachRead Q h es ns → EachRead Q h (es ++ (e ∷ [])) ns
  unfolding EachRead ReadsNothing
  each_more h [] ns (arrival m) n E = E
  each_more h [] ns (start t) n E = E
  each_more h [] ns (read l) n E = absurd n
  each_more h [] ns (finish t v) n E = E
  each_more h (arrival m ∷ es) ns e n E = each_more (arrival m ∷ h) es ns e n E
  each_more h (start t ∷ es) ns e n E = each_more (start t ∷ h) es ns e n E
  each_more h (read l ∷ es) [] e n E = absurd E
  each_more h (read l ∷ es) (x ∷ ns) e n E = (E.0, each_more (read l ∷ h) es ns e n E.1)
  each_more h (finish t v ∷ es) ns e n E = each_more (finish t v ∷ h) es ns e n E

  pub each_read : (h es : List (Event ℕ)) (ns : List ℕ) (l n : ℕ) → Q (past h es) l n → EachRead Q h es ns → EachRead Q h (es ++ (read l ∷ [])) (ns ++ (n ∷ []))
  unfolding EachRead past
  each_read h [] ns l n q E = rw E (q, refl)
  each_read h (arrival m ∷ es) ns l n q E = each_read (arrival m ∷ h) es ns l n q E
  each_read h (start t ∷ es) ns l n q E = each_read (start t ∷ h) es ns l n q E
  each_read h (read k ∷ es) [] l n q E = absurd E
  each_read h (read k ∷ es) (x ∷ ns) l n q E = (E.0, each_read (read k ∷ h) es ns l n q E.1)
  each_read h (finish t v ∷ es) ns l n q E = each_read (finish t v ∷ h) es ns l n q E

-- a history goes on with what follows
goes : (h es : List (Event ℕ)) → Goes h (past h es)
unfolding past
goes h [] = same
goes h (e ∷ es) = back (goes (e ∷ h) es)
  where
    back : {H : List (Event ℕ)} → Goes (e ∷ h) H → Goes h H
    back same = more e same
    back (more x g) = more x (back g)

-- what follows from it at each read
pub each_so : (Q R : List (Event ℕ) → ℕ → ℕ → Type 0) (h es : List (Event ℕ)) (ns : List ℕ)
    → ((x : List (Event ℕ)) (l n : ℕ) → Goes (read l ∷ x) (past h es) → Q x l n → R x l n) → EachRead Q h es ns → EachRead R h es ns
unfolding past EachRead
each_so Q R h [] ns law E = E
each_so Q R h (arrival m ∷ es) ns law E = each_so Q R (arrival m ∷ h) es ns law E
each_so Q R h (start t ∷ es) ns law E = each_so Q R (start t ∷ h) es ns law E
each_so Q R h (read l ∷ es) [] law E = absurd E
each_so Q R h (read l ∷ es) (n ∷ ns) law E = (law h l n (goes (read l ∷ h) es) E.0, each_so Q R (read l ∷ h) es ns law E.1)
each_so Q R h (finish t v ∷ es) ns law E = each_so Q R (finish t v ∷ h) es ns law E

-- what is looked up at all reads is looked up at each
module _ (T : Table ℕ) (log : List (LogEntry ℕ)) where
  onward : (e : Event ℕ) (H : List (Event ℕ)) → dues T (e ∷ H) ≡ looked T log (e ∷ H) → dues T H ≡ looked T log H
  unfolding dues looked
  onward (arrival m) H i = i
  onward (start t) H i = i
  onward (read l) H i = cc
  onward (finish t v) H i = i

  pub looked_each : {H : List (Event ℕ)} → dues T H ≡ looked T log H → (h : List (Event ℕ)) (l : ℕ) → Goes (read l ∷ h) H
      → find l (arrivals h (T.reader l)) log ≡ due T h l
  unfolding dues looked
  looked_each i h l same = cc
  looked_each i h l (more {H = H} e g) = looked_each (onward e H i) h l g

-- a number put after others
set_after : (v : ℕ) (xs ys : List ℕ) → set (xs ++ ys) (length xs) v ≡ xs ++ set ys 0 v
set_after v [] ys = refl
set_after v (x ∷ xs) ys = ap (λ (zs : List ℕ). x ∷ zs) (set_after v xs ys)

set_first : (v n : ℕ) (xs : List ℕ) → n < length xs → set (drop n xs) 0 v ≡ v ∷ drop (suc n) xs
set_first v n [] r = absurd (omega arith)
set_first v zero (x ∷ xs) r = refl
set_first v (suc n) (x ∷ xs) r = set_first v n xs (omega arith)

pub length_turned : (vs : List ℕ) → length (turned vs) ≡ length vs
unfolding turned
length_turned [] = refl
length_turned (v ∷ vs) = omega (arith, length-append (turned vs) (v ∷ []), length_turned vs)

-- the numbers at the first places of the lent list, and the untouched rest
pub placed_listed : (vs out : List ℕ) → length vs ≤ length out → placed vs out ≡ turned vs ++ drop (length vs) out
unfolding placed turned
placed_listed [] out r = refl
placed_listed (v ∷ vs) out r =
    ap (λ (xs : List ℕ). set xs (length vs) v) (placed_listed vs out (omega arith))
    ∙ ap (λ (n : ℕ). set (turned vs ++ drop (length vs) out) n v) (sym (length_turned vs))
    ∙ set_after v (turned vs) (drop (length vs) out)
    ∙ ap (λ (xs : List ℕ). turned vs ++ xs) (set_first v (length vs) out (omega arith))
    ∙ sym (append_assoc (turned vs) (v ∷ []) (drop (suc (length vs)) out))
