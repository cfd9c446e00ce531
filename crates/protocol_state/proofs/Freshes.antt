-- The fresh state of a table that earns no refusal is sound and fresh as the published protocol has it; what a table makes is always sound.
-- Assumes nothing.
use mathlib.Core.Path.{◌≡◌, refl, sym, ap, ◌∙◌}
use mathlib.Core.Bool.{Bool, true, false, cond, not, ◌&&◌}
use mathlib.Core.List.{List, [], ◌∷◌}
use Prim.Native.Nat.{ℕ, zero, suc, ◌*◌, ◌/◌, ◌≤◌, ◌<◌}
use native.Mathlib.Omega.{arith}
use native.Mathlib.Decide.{dec_le}
use borrow.Author.Tests.{lt-ltb, eqb-true, eqb-false, ne_eqb}
use lib.Dec.{eqb}
use lib.ListN.{length, replicate, length-replicate, get_or-eq_default}
use Rattle.lists.specs.Lists.{some}
use Rattle.lists.proofs.Bools.{and_not, cond_zero}
use Rattle.lists.proofs.Lists.{upto_at, length_upto, some_not, some_of_none}
use Rattle.protocol.specs.History.{arrivals, starts, finishes}
use Rattle.protocol.specs.Published.{Fresh}
use Rattle.protocol_deadlines.specs.Deadline.{ahead_by, ByDeadline}
use Rattle.protocol_deadlines.specs.Timed.{untimed, last, ticks}
use Rattle.protocol_state.specs.Records.{Task, no_task, deadline_of, first_tasks, Link, link_of, ahead_of}
use Rattle.protocol_state.specs.Saved.{Size, Saved, Shape, at, cell_of, positions, one_to, link_in, ahead_in, table, boxes}
use Rattle.protocol_state.specs.Rules.{fault, judged_table}
use Rattle.protocol_state.specs.Sound.{is_sound, Sound}
use Rattle.protocol_state.specs.Fresh.{column, filled, fresh_of, single, Made, undated, Policed, then_dates, judged_lists, made}
use Rattle.protocol_state.specs.Reached.{idle, Agrees, Ticks}
use Rattle.protocol_state.proofs.Places.{replicated, repeated, zeros, between, leading_same}
use Rattle.protocol_state.proofs.Records.{column_length, column_tasks, column_whole, first_tasks_length, first_task}
use Rattle.protocol_state.proofs.Rules as rules
use Rattle.protocol_state.proofs.Sound.{says_sound}

-- ---- tables that agree link by link
module _ (ahead : ℕ → ℕ → Bool) (T L : ℕ) (link link' : ℕ → Link) (same : (l : ℕ) → l < L → link l ≡ link' l) where
  pub fault_same : (l : ℕ) → l < L → fault ahead T link l ≡ fault ahead T link' l
  unfolding fault
  fault_same l h = rw (same l h) (rules.fault_agrees ahead T l (link' l) (λ j i. same j (omega arith)))

  -- so the tables earn one refusal
  judged_same : (size : Size) → judged_table ahead T link size L ≡ judged_table ahead T link' size L
  unfolding judged_table
  judged_same size = rw (leading_same (fault ahead T link) (fault ahead T link') L fault_same)

-- a table is judged by its first links alone, and more of them than the room are refused unseen
pub judged_agrees : (ahead : ℕ → ℕ → Bool) (size : Size) (T L : ℕ) (link link' : ℕ → Link) → (L ≤ size.links → (l : ℕ) → l < L → link l ≡ link' l)
    → judged_table ahead T link size L ≡ judged_table ahead T link' size L
unfolding judged_table
judged_agrees ahead size T L link link' same = go (dec_le L size.links) where
  go : Dec (L ≤ size.links) → judged_table ahead T link size L ≡ judged_table ahead T link' size L
  go (yes h) = judged_same ahead T L link link' (same h) size
  go (no h) = rw (lt-ltb size.links L (omega arith))

-- ---- lists of a fresh state
filled_length : (size : ℕ) (D : List ℕ) → length (filled size D) ≡ size * 10
filled_length size D = length_upto (λ i x. at D (i / 10)) (size * 10) (replicate (size * 10) 0) ∙ length-replicate {A = ℕ} (size * 10) 0

-- each position of each task holds its default
filled_at : (size : ℕ) (D : List ℕ) → length D ≡ size → (t p : ℕ) → (1 ≤ p) × (p ≤ 10) → at (filled size D) (cell_of t p) ≡ at D t
filled_at size D e t p h = go (dec_le size t) where
  go : Dec (size ≤ t) → at (filled size D) (cell_of t p) ≡ at D t
  go (yes l) = get_or-eq_default (filled size D) 0 (omega (arith, filled_length size D)) ∙ sym (get_or-eq_default D 0 (omega arith))
  go (no l) =
      let d : cell_of t p / 10 ≡ t = omega (arith, h.0, h.1) in
      upto_at (λ i x. at D (i / 10)) (size * 10) (replicate (size * 10) 0) (cell_of t p) 0 (omega (arith, h.0, h.1)) (omega (arith, h.0, h.1, length-replicate {A = ℕ} (size * 10) 0))
      ∙ ap (at D) d

-- a table that earns no refusal: 24 among them
pub judged_dated : (r : ℕ) (none : Bool) → then_dates r none ≡ 0 → (r ≡ 0) × (none ≡ false)
judged_dated r none z =
    let a = cond_zero (eqb r 2) 2 _ (λ y. omega arith) z in
    let b = cond_zero none 24 r (λ y. omega arith) a.1 in
    (b.1, b.0)

-- no relative deadline is 0, unless the policy is that of fixed priorities
pub dated_each : (p : ℕ) (ts : List Task) → undated p ts ≡ false → p ≡ 1 → (t : ℕ) → t < length ts → 1 ≤ deadline_of ts t
dated_each p ts e one t l =
    let n : some (λ t. eqb (deadline_of ts t) 0) (length ts) ≡ false = and_not (not (eqb p 0)) _ e (rw one) in
    omega (arith, eqb-false (deadline_of ts t) 0 (some_not (λ t. eqb (deadline_of ts t) 0) (length ts) t n l))

-- and back
pub each_dated : (p : ℕ) (ts : List Task) → p ≤ 1 → (p ≡ 1 → (t : ℕ) → t < length ts → 1 ≤ deadline_of ts t) → undated p ts ≡ false
each_dated p ts few h = go (eqb p 0) refl
  where
    go : (b : Bool) → eqb p 0 ≡ b → (not b && some (λ t. eqb (deadline_of ts t) 0) (length ts)) ≡ false
    go true e = refl
    go false e =
        let one : p ≡ 1 = omega (arith, eqb-false p 0 e) in
        some_of_none (λ t. eqb (deadline_of ts t) 0) (length ts) (λ t l. ne_eqb (deadline_of ts t) 0 (λ z. omega (arith, h one t l)))

module _ (size : Size) (p : ℕ) (ts : List Task) (ls : List Link) where
  abbrev ds : List ℕ
  ds = column size.tasks (λ (t : Task). t.default) ts

  abbrev fresh : Saved
  fresh = fresh_of size p ts ls

  -- the fresh state has its shape
  pub fresh_shape : Shape size (fresh_of size p ts ls)
  unfolding fresh_of
  fresh_shape = record {
    defaults = column_length size.tasks (λ (t : Task). t.default) ts;
    phase = length-replicate {A = ℕ} size.tasks 0;
    newest = length-replicate {A = ℕ} size.tasks _;
    previous = length-replicate {A = ℕ} size.tasks _;
    seen = length-replicate {A = ℕ} size.tasks 0;
    cells = filled_length size.tasks ds;
    writer = column_length size.links (λ (x : Link). x.writer) ls;
    reader = column_length size.links (λ (x : Link). x.reader) ls;
    kind = column_length size.links (λ (x : Link). x.kind) ls;
    start_value = column_length size.links (λ (x : Link). x.start_value) ls;
    pointer = length-replicate {A = ℕ} size.links 0;
    mark = length-replicate {A = ℕ} size.links 0;
    deadline = column_length size.tasks (λ (t : Task). t.deadline) ts;
    since = length-replicate {A = ℕ} size.tasks 0;
  }

  -- its deadlines are those of the table
  pub fresh_deadline : length ts ≤ size.tasks → (t : ℕ) → at (fresh_of size p ts ls).deadline t ≡ deadline_of ts t
  unfolding fresh_of
  fresh_deadline h t = column_tasks size.tasks (λ (t : Task). t.deadline) refl ts h t

  -- so is its order
  pub fresh_ahead : length ts ≤ size.tasks → ahead_in (fresh_of size p ts ls) ≡ ahead_of ts
  fresh_ahead h = λ i. ahead_by (λ t. fresh_deadline h t i)

  -- which is the order by its deadlines
  pub fresh_order : length ts ≤ size.tasks → ByDeadline (table (ahead_of ts) (fresh_of size p ts ls))
  fresh_order h u t = λ i. sym (fresh_ahead h) i u t

  -- no tick has come
  pub fresh_ticks : Ticks [] (fresh_of size p ts ls)
  unfolding fresh_of last ticks
  fresh_ticks = record { last = refl; since = λ t e. zeros size.tasks t }

  -- nothing has happened, and every task is idle
  pub fresh_agrees : Agrees (untimed []) (fresh_of size p ts ls)
  unfolding fresh_of untimed arrivals starts finishes
  fresh_agrees t = rw (zeros size.tasks t) idle

  -- its boxes are fresh
  pub fresh_boxes_lem : (ahead : ℕ → ℕ → Bool) → Fresh (table ahead (fresh_of size p ts ls)) (boxes (fresh_of size p ts ls))
  unfolding fresh_of
  fresh_boxes_lem ahead = record {
    newest = repeated size.tasks 1;
    previous = repeated size.tasks 1;
    seen = zeros size.tasks;
    pointer = zeros size.links;
    mark = λ l. rw (zeros size.links l);
    cell = λ t p. cell t p (one_to positions p) refl;
  }
    where
      cell : (t p : ℕ) (b : Bool) → one_to positions p ≡ b → cond b (at (filled size.tasks ds) (cell_of t p)) (at ds t) ≡ at ds t
      cell t p true e = filled_at size.tasks ds (column_length size.tasks (λ (t : Task). t.default) ts) t p (between 10 p e)
      cell t p false e = refl

  -- its links are those of the table
  pub fresh_link : length ls ≤ size.links → (l : ℕ) → link_in (fresh_of size p ts ls) l ≡ link_of ls l
  unfolding fresh_of
  fresh_link h l = λ i. record {
    writer = column_whole size.links (λ (x : Link). x.writer) refl ls h l i;
    reader = column_whole size.links (λ (x : Link). x.reader) refl ls h l i;
    kind = column_whole size.links (λ (x : Link). x.kind) refl ls h l i;
    start_value = column_whole size.links (λ (x : Link). x.start_value) refl ls h l i;
  }

  module _ (ahead : ℕ → ℕ → Bool) (ok : judged_table ahead (length ts) (link_of ls) size (length ls) ≡ 0) where
    fits : (length ts ≤ size.tasks) × (length ls ≤ size.links)
    fits = rules.room ahead (length ts) (link_of ls) size (length ls) ok

    -- the fresh state of a table that earns no refusal is sound
    pub fresh_sound : Policed p ts → undated p ts ≡ false → Sound ahead size (fresh_of size p ts ls)
    unfolding fresh_of
    fresh_sound policed none = record {
      rules = rules.judged_keeps ahead (length ts) (link_in (fresh_of size p ts ls)) size (length ls)
          (judged_same ahead (length ts) (length ls) (link_in (fresh_of size p ts ls)) (link_of ls) (λ l h. fresh_link fits.1 l) size ∙ ok);
      phase = λ t l. omega (arith, zeros size.tasks t);
      newest = λ t l. omega (arith, replicated size.tasks 1 t (omega (arith, fits.0)));
      previous = λ t l. omega (arith, replicated size.tasks 1 t (omega (arith, fits.0)));
      pointer = λ l h. omega (arith, zeros size.links l);
      present = λ l h n. absurd (n (zeros size.tasks (at (column size.links (λ (x : Link). x.reader) ls) l)));
      absent = λ l h a z. zeros size.links l;
      seen = λ t l. omega (arith, zeros size.tasks t);
      unseen = λ t l z. zeros size.tasks t;
      mark = λ l h. omega (arith, zeros size.links l);
      held = λ l h e. absurd (omega (arith, zeros size.links l));
      early = λ l h d p a. absurd (omega (arith, zeros size.links l));
      times = record {
        either = policed.either;
        none_later = λ t l. omega (arith, zeros size.tasks t);
        idle = λ t l z. zeros size.tasks t;
        small = omega arith;
        dated = λ one t l. rw (fresh_deadline fits.0 t) (dated_each p ts none one t l);
        undated = λ z t l. fresh_deadline fits.0 t ∙ policed.fixed z t;
        unclocked = λ z. refl;
      };
    }

-- under fixed priorities no task has a deadline, and any tasks may come under earliest deadline first
pub single_policed : Policed 0 (no_task ∷ [])
single_policed = record { either = omega arith; fixed = λ z t. one t }
  where
    one : (t : ℕ) → deadline_of (no_task ∷ []) t ≡ 0
    one zero = refl
    one (suc t) = refl

pub dated_policed : (ts : List Task) → Policed 1 ts
dated_policed ts = record { either = omega arith; fixed = λ z. absurd (omega arith) }

-- the tables that are handed over without deadlines
pub plain_policed : (T : ℕ) (D : List ℕ) → Policed 0 (first_tasks T D [])
plain_policed T D = record { either = omega arith; fixed = λ z t. none t }
  where
    none : (t : ℕ) → deadline_of (first_tasks T D []) t ≡ 0
    none t = go (dec_le T t)
      where
        go : Dec (T ≤ t) → deadline_of (first_tasks T D []) t ≡ 0
        go (yes h) = ap (λ (k : Task). k.deadline) (get_or-eq_default (first_tasks T D []) no_task (omega (arith, first_tasks_length T D [])))
        go (no h) = ap (λ (k : Task). k.deadline) (first_task T D [] t (omega arith))

-- what a table makes, by whether it earns no refusal
abbrev makes : Size → ℕ → List Task → List Link → Bool → Made
makes size p ts ls b = cond b (record { refusal = 0; state = fresh_of size p ts ls }) (record { refusal = judged_lists size p ts ls; state = single size })

-- it is sound, whether it earns a refusal or not
pub made_sound : (size : Size) → 1 ≤ size.tasks → (p : ℕ) (ts : List Task) (ls : List Link) → Policed p ts → is_sound (ahead_in (made size p ts ls).state) size (made size p ts ls).state ≡ true
unfolding made
made_sound size room p ts ls policed = go (eqb (judged_lists size p ts ls) 0) refl where
  single_judged : judged_table (ahead_of (no_task ∷ [])) 1 (link_of []) size 0 ≡ 0
  single_judged = rules.no_refusal (ahead_of (no_task ∷ [])) 1 (link_of []) size 0 (omega arith) room (omega arith) (λ l h. absurd (omega arith))

  go : (b : Bool) → eqb (judged_lists size p ts ls) 0 ≡ b → is_sound (ahead_in (makes size p ts ls b).state) size (makes size p ts ls b).state ≡ true
  go true e =
      let j = judged_dated (judged_table (ahead_of ts) (length ts) (link_of ls) size (length ls)) (undated p ts) (eqb-true _ 0 e) in
      rw (fresh_ahead size p ts ls (rules.room (ahead_of ts) (length ts) (link_of ls) size (length ls) j.0).0)
      (says_sound (ahead_of ts) size (fresh_of size p ts ls) (fresh_sound size p ts ls (ahead_of ts) j.0 policed j.1))
  go false e =
      rw (fresh_ahead size 0 (no_task ∷ []) [] room)
      (says_sound (ahead_of (no_task ∷ [])) size (single size) (fresh_sound size 0 (no_task ∷ []) [] (ahead_of (no_task ∷ [])) single_judged single_policed refl))

-- it has its shape
pub made_shape : (size : Size) (p : ℕ) (ts : List Task) (ls : List Link) → Shape size (made size p ts ls).state
unfolding made
made_shape size p ts ls = go (eqb (judged_lists size p ts ls) 0) where
  go : (b : Bool) → Shape size (makes size p ts ls b).state
  go true = fresh_shape size p ts ls
  go false = fresh_shape size 0 (no_task ∷ []) []

-- and where it earns none, the table is judged 0 and the state is its fresh one
pub made_fresh : (size : Size) (p : ℕ) (ts : List Task) (ls : List Link) → (made size p ts ls).refusal ≡ 0
    → (judged_lists size p ts ls ≡ 0) × ((made size p ts ls).state ≡ fresh_of size p ts ls)
unfolding made
made_fresh size p ts ls z = go (eqb (judged_lists size p ts ls) 0) refl z where
  go : (b : Bool) → eqb (judged_lists size p ts ls) 0 ≡ b → (makes size p ts ls b).refusal ≡ 0 → (judged_lists size p ts ls ≡ 0) × ((makes size p ts ls b).state ≡ fresh_of size p ts ls)
  go true e i = (eqb-true _ 0 e, refl)
  go false e i = absurd (eqb-false _ 0 e i)
