-- A text read line by line.
-- Assumes nothing.
use mathlib.Core.Path.{◌≡◌, refl, sym, ap, ◌∙◌}
use mathlib.Core.Bool.{Bool, false, cond, or-false}
use mathlib.Core.List.{List, [], ◌∷◌, ◌++◌, append-nil, append_assoc}
use Prim.Native.Nat.{ℕ, ◌+◌, ◌≤◌}
use native.Mathlib.Numerals.{add-one}
use native.Mathlib.Omega.{arith}
use borrow.Author.Tests.{eq-eqb, ne_eqb}
use lib.Dec.{eqb}
use lib.ListN.{length, take, drop, length-append}
use Rattle.recording_text.specs.declared.Read.{Read}
use Rattle.recording_text.specs.declared.Kept.{Kept}
use Rattle.recording_text.specs.declared.Unread.{Unread}
use Rattle.recording_text_fields.proofs.Faults.{some_fault, one_fault}
use Rattle.std.proofs.Common.{Option, None, Result, Ok, Err}
use Rattle.std.specs.Option.{is_some}
use Rattle.recording_text_line.specs.declared.record.Record.{Record}
use Rattle.recording_text_line.specs.Line.{Says, nothing, sort, text_says}
use Rattle.recording_text_line.specs.Told.{record_said}
use Rattle.recording_text.specs.Text.{fault_in, known_after, readable, text_fault, over, readable_of, tasks_kept, links_kept, events_kept, tasks_of, links_of, events_of, fault_of, told, Answer, answer_of, answer_at, read_of, takes, and_record, put_at, none_kept, kind_number, kind_after}
use Rattle.recording_text.proofs.Stores.{Held, held_none, held_other, held_more}
use Rattle.recording_text.proofs.Known.{Told, told_none, told_same, known_more, told_more}

-- lines that can be read, in front of others: after them the kind is known, or not
pub record Good (done : List Says) (known : Bool) : Type 0 where
  pub first : (ss : List Says) → readable false (done ++ ss) ≡ done ++ readable known ss
  pub fault : (ss : List Says) → text_fault false (done ++ ss) ≡ text_fault known ss

pub good_none : Good [] false
good_none = record { first = λ ss. refl; fault = λ ss. refl }

pub good_more : {done : List Says} {known : Bool} → Good done known → (s : Says) → fault_in known s ≡ 0 → Good (done ++ (s ∷ [])) (known_after known s)
unfolding readable text_fault
good_more {done} {known} g s e =
    let z = eq-eqb (fault_in known s) 0 e in
    record {
      first = λ ss. ap (readable false) (append_assoc done (s ∷ []) ss) ∙ g.first (s ∷ ss) ∙ rw z (sym (append_assoc done (s ∷ []) (readable (known_after known s) ss)));
      fault = λ ss. ap (text_fault false) (append_assoc done (s ∷ []) ss) ∙ g.fault (s ∷ ss) ∙ rw z;
    }

-- the first lines are read, and can be, and the others are left; the kind is told, and the records are stored
pub record Reading (text : List ℕ) (left : List Says) (line : ℕ) (kind : Option ℕ) (tasks tasks' links links' events events' : List ℕ) (task link event : Kept) : Type 0 where
  pub done : List Says
  pub split : text_says text ≡ done ++ left
  pub many : length done ≡ line
  pub good : Good done (is_some kind)
  pub told : Told done kind
  pub its_tasks : Held 1 tasks_kept done tasks tasks' task
  pub its_links : Held 2 links_kept done links links' link
  pub its_events : Held 3 events_kept done events events' event

pub reading_none : (text : List ℕ) {left : List Says} → left ≡ text_says text → (tasks links events : List ℕ) → Reading text left 0 None tasks tasks links links events events none_kept none_kept none_kept
reading_none text e tasks links events =
    record {
      done = [];
      split = sym e;
      many = refl;
      good = good_none;
      told = told_none;
      its_tasks = held_none 1 tasks_kept tasks refl;
      its_links = held_none 2 links_kept links refl;
      its_events = held_none 3 events_kept events refl;
    }

module _
    {text : List ℕ} {left : List Says} {line : ℕ} {kind : Option ℕ} {tasks tasks' links links' events events' : List ℕ} {task link event : Kept}
    (b : Reading text left line kind tasks tasks' links links' events events' task link event) where
  pub reading_few : line + length left ≡ length (text_says text)
  reading_few = omega (arith, length-append b.done left, ap length b.split, b.many)

  -- a line more
  module _ {s : Says} {rest : List Says} (n : left ≡ s ∷ rest) where
    from_here : text_says text ≡ b.done ++ (s ∷ rest)
    from_here = b.split ∙ ap (λ (ss : List Says). b.done ++ ss) n

    -- that can be read, and says nothing, or a record
    module _ (z : fault_in (is_some kind) s ≡ 0) where
      split_on : text_says text ≡ (b.done ++ (s ∷ [])) ++ rest
      split_on = from_here ∙ sym (append_assoc b.done (s ∷ []) rest)

      many_on : length (b.done ++ (s ∷ [])) ≡ line + 1
      many_on = omega (arith, length-append b.done (s ∷ []), b.many)

      pub reading_skip : nothing ≡ s → Reading text rest (line + 1) kind tasks tasks' links links' events events' task link event
      unfolding sort
      reading_skip e =
          let o : sort s.letter ≡ 0 = rw (← e) in
          record {
            done = b.done ++ (s ∷ []);
            split = split_on;
            many = many_on;
            good = let k : known_after (is_some kind) s ≡ is_some kind = rw (o, or-false (is_some kind)) in rw k at (good_more b.good s z);
            told = told_same b.told s (rw o);
            its_tasks = held_other 1 tasks_kept b.done tasks b.its_tasks s (rw o);
            its_links = held_other 2 links_kept b.done links b.its_links s (rw o);
            its_events = held_other 3 events_kept b.done events b.its_events s (rw o);
          }

      module _ (r : Record) (e : record_said r ≡ s) (v : length (take r.size r.numbers) ≡ r.size) where
        pub reading_on :
            {next : Option ℕ} {tasks'' links'' events'' : List ℕ} {task' link' event' : Kept} → next ≡ kind_after kind r →
            task' ≡ cond (takes r 1 tasks_kept task) (and_record r task) task → tasks'' ≡ cond (takes r 1 tasks_kept task) (put_at tasks' task.numbers r) tasks' →
            link' ≡ cond (takes r 2 links_kept link) (and_record r link) link → links'' ≡ cond (takes r 2 links_kept link) (put_at links' link.numbers r) links' →
            event' ≡ cond (takes r 3 events_kept event) (and_record r event) event → events'' ≡ cond (takes r 3 events_kept event) (put_at events' event.numbers r) events' →
            Reading text rest (line + 1) next tasks tasks'' links links'' events events'' task' link' event'
        reading_on k t t' l l' y y' =
            let w : fault_in (is_some kind) (record_said r) ≡ 0 = rw (← e) at z in
            record {
              done = b.done ++ (record_said r ∷ []);
              split = rw (← e) at split_on;
              many = rw (← e) at many_on;
              good = let g = known_more b.told r w k in rw g (good_more b.good (record_said r) w);
              told = told_more b.told r w k;
              its_tasks = held_more 1 tasks_kept b.done tasks b.its_tasks r v t t';
              its_links = held_more 2 links_kept b.done links b.its_links r v l l';
              its_events = held_more 3 events_kept b.done events b.its_events r v y y';
            }

    -- that cannot be read
    pub reading_stops : {f : ℕ} → fault_in (is_some kind) s ≡ f → (f ≡ 0 → ⊥) → (readable_of text ≡ b.done) × (fault_of text ≡ f)
    unfolding readable text_fault
    reading_stops f z =
        let k = ne_eqb (fault_in (is_some kind) s) 0 (λ q. z (sym f ∙ q)) in
        (ap (readable false) from_here ∙ b.good.first (s ∷ rest) ∙ rw (k, append-nil b.done), ap (text_fault false) from_here ∙ b.good.fault (s ∷ rest) ∙ rw k f)

  -- no line more
  pub reading_ends : left ≡ [] → (readable_of text ≡ b.done) × (fault_of text ≡ cond (is_some kind) 0 6)
  unfolding readable text_fault
  reading_ends n =
      let s : text_says text ≡ b.done ++ [] = b.split ∙ ap (λ (ss : List Says). b.done ++ ss) n in
      (ap (readable false) s ∙ b.good.first [] ∙ append-nil b.done, ap (text_fault false) s ∙ b.good.fault [])

  -- the answer, and the lists
  module _ {f : ℕ} (x : (readable_of text ≡ b.done) × (fault_of text ≡ f)) where
    pub answered : {n : ℕ} → n ≡ cond (eqb f 0) 0 (line + 1) → answer_of f n (kind_number kind) task.numbers link.numbers event.numbers ≡ read_of text
    unfolding read_of
    answered e = rw (x.1, x.0, e, b.told.number, b.its_tasks.numbers, b.its_links.numbers, b.its_events.numbers, b.many, add-one line)

    pub tasks_held : tasks' ≡ over (tasks_of text) tasks
    tasks_held = b.its_tasks.list ∙ rw x.0

    pub links_held : links' ≡ over (links_of text) links
    links_held = b.its_links.list ∙ rw x.0

    pub events_held : events' ≡ over (events_of text) events
    events_held = b.its_events.list ∙ rw x.0

-- numbers at the start of a list are no more than the list has
over_within : (ns old : List ℕ) {n : ℕ} {out : List ℕ} → n ≡ length ns → out ≡ over ns old → n ≤ length out
unfolding over
over_within ns old e f = omega (arith, ap length f, length-append ns (drop (length ns) old))

-- so are those that are stored of a text, as the answer counts them
module _ (text : List ℕ) (r : Read) (e : answer_at 0 0 r ≡ read_of text) (old : List ℕ) {out : List ℕ} where
  pub tasks_within : out ≡ over (tasks_of text) old → r.tasks ≤ length out
  unfolding read_of
  tasks_within = over_within (tasks_of text) old (ap (λ (x : Answer). x.tasks) e)

  pub links_within : out ≡ over (links_of text) old → r.links ≤ length out
  unfolding read_of
  links_within = over_within (links_of text) old (ap (λ (x : Answer). x.links) e)

  pub events_within : out ≡ over (events_of text) old → r.events ≤ length out
  unfolding read_of
  events_within = over_within (events_of text) old (ap (λ (x : Answer). x.events) e)

-- the code's answer is fixed by what it tells
read_from : Answer → Read
read_from a = record { kind = a.kind; tasks = a.tasks; links = a.links; events = a.events }

pub one_read : (a b : Result Read Unread) → told a ≡ told b → a ≡ b
unfolding read_from
one_read (Ok r) (Ok q) e = ap (λ (x : Answer). Ok (read_from x)) e
one_read (Ok r) (Err u) e = absurd (some_fault u.fault (sym (ap (λ (x : Answer). x.fault) e)))
one_read (Err u) (Ok r) e = absurd (some_fault u.fault (ap (λ (x : Answer). x.fault) e))
one_read (Err u) (Err v) e =
    let f = one_fault u.fault v.fault (ap (λ (x : Answer). x.fault) e) in
    λ i. Err (record { fault = f i; line = (e i).line; read = read_from (e i) })
