-- Faults in the table of a recording: in words, and as the reader finds them.
-- Assumes nothing.
use mathlib.Core.Path.{◌≡◌, refl, sym, ap, subst, ◌∙◌}
use mathlib.Core.Logic.{◌≢◌, ◌⊎◌, inl, inr}
use mathlib.Core.Bool.{Bool, true, false, cond, not, ◌&&◌, ◌||◌}
use mathlib.Core.List.{List, [], ◌++◌}
use Prim.Native.Nat.{ℕ, ◌+◌, ◌-◌, ◌^◌, ◌≤◌, ◌<◌}
use native.Mathlib.Omega.{arith}
use borrow.Author.Tests.{eqb-true, eqb-false, eq-eqb, ne_eqb, ltb-true, lt-ltb, leb-true, leb-false, not-true}
use lib.Dec.{eqb, ltb, leb}
use lib.ListN.{length, get_or}
use Rattle.lists.proofs.Bools.{and_left, and_right}
use Rattle.protocol_state.specs.Records.{Task, link_of, ahead_of}
use Rattle.protocol_state.specs.Saved.{state_room}
use Rattle.protocol_state.specs.Fresh.{judged_lists}
use Rattle.protocol_state.proofs.Rules.{no_fault}
use Rattle.protocol_state.proofs.Freshes.{dated_each, each_dated}
use Rattle.byte_format.specs.Number.{bytes_of, number_at, Wide, Bytes}
use Rattle.byte_format.specs.Stands.{Stands}
use Rattle.byte_format.specs.Format.{Got, got, stop, FitEach, encodes, encode_section}
use Rattle.byte_format.specs.Play.{Allowed, verdict, refusal_of}
use Rattle.byte_format.specs.Section.{count_at, Faulty}
use Rattle.byte_format.proofs.Numbers.{number_one, number_wide}
use Rattle.byte_format.proofs.Counts.{count_missing, count_limited, count_above}
use Rattle.byte_format.proofs.Sized.{sized_reads, sized_ends}
use Rattle.byte_format.proofs.Standing.{stands_join, stands_first, stands_left}
use Rattle.recording_format.specs.Task.{tasks, task_size, task_there, task_fault, and_task}
use Rattle.recording_format.specs.Link.{Link, links, link_at, and_link, link_fault}
use Rattle.recording_format.specs.RecordingKind.{RecordingKind, any_kind, base_recording, wide_recording, dated_recording, which_kind, kind_in, first_limit, task_limit, link_limit, event_limit}
use Rattle.recording_format.specs.declared.WhichKind.{WhichKind}
use Rattle.recording_format.specs.declared.WhichKind.TheVariants as kinds
use Rattle.recording_format.specs.Recording.{encode_first, task_place, tasks_end, first_at, task_count_at, link_count_at, event_count_at}
use Rattle.recording_format.specs.Outcome.{Begins, TasksTo, TableTo, RecordingOutcome, first_byte, task_count, task_record, link_count, link_record, event_count}
use Rattle.recording_format.proofs.AllKinds.{kind_room, kind_counts, kind_dates, kind_begun}
use Rattle.recording_format.proofs.Sizes.{tasks_within, within_tasks, links_within, within_links, tasks_fit, links_fit}
use Rattle.recording_format.proofs.TaskRules.{allowed_dated, dated_allowed}
use Rattle.recording_format.proofs.LinkRules.{no_fault_allowed, allowed_judged}
use Rattle.recording_format.proofs.Onward.{in_order_lem}
use Rattle.recording_core.specs.Playing.{core_of}
use Rattle.demands.specs.Station.{AllDated, Keeps}
use Rattle.demands.specs.Refusals.{Earns, LinkBreaks}
use Rattle.demands.specs.Recordings.{TasksBegun, LinksBegun, TableFault, no_first, other_first, cut_task_count, bad_task_count, cut_task, bad_task, cut_link_count, bad_link_count, cut_link, bad_link, cut_event_count, bad_event_count}
use Rattle.demands.proofs.Earned.{earns_one}
use Rattle.demands.proofs.Links.{either, or_second, link_earned}
use Rattle.demands.proofs.Replays.{keeps_of}

-- why a count is refused: a byte of it is missing, or it is above its limit
pub data CountFault (w : ℕ) (limit : ℕ → ℕ) (s : List ℕ) (p : ℕ) : ℕ → Type 0 where
  cut : length s < p + w → CountFault w limit s p 1
  above : p + w ≤ length s → limit (number_at w s p) ≢ 0 → CountFault w limit s p (limit (number_at w s p))

module _ (w : ℕ) (limit : ℕ → ℕ) (s : List ℕ) (p : ℕ) where
  -- the number of a stop
  stopped : {A : Type 0} {r q : ℕ} → ◌≡◌ {A = Got A} (stop r) (stop q) → r ≡ q
  stopped e = cc

  count_stops : {r : ℕ} → p ≤ length s → CountFault w limit s p r → count_at w limit s p ≡ stop r
  count_stops h (cut l) = count_missing w limit s p refl (omega arith)
  count_stops h (above l n) = count_above w limit s p l refl n

  stops_count : {r : ℕ} → p ≤ length s → count_at w limit s p ≡ stop r → CountFault w limit s p r
  stops_count {r} h e = go (leb (p + w) (length s)) refl
    where
      held : p + w ≤ length s → (b : Bool) → eqb (limit (number_at w s p)) 0 ≡ b → CountFault w limit s p r
      held l true i =
          let g : count_at w limit s p ≡ got (number_at w s p) (p + w) = count_limited w limit s p refl (omega arith) ∙ rw i in
          let z : ◌≡◌ {A = Got ℕ} (got (number_at w s p) (p + w)) (stop r) = sym g ∙ e in
          let y : ◌≡◌ {A = ℕ} 0 1 = cc in absurd (omega arith)
      held l false i =
          let n : limit (number_at w s p) ≢ 0 = λ z. (let y : true ≡ false = sym (eq-eqb _ 0 z) ∙ i in let o : ◌≡◌ {A = ℕ} 0 1 = cc in omega arith) in
          subst (λ (k : ℕ). CountFault w limit s p k) (stopped (sym (count_stops h (above l n)) ∙ e)) (above l n)

      go : (b : Bool) → leb (p + w) (length s) ≡ b → CountFault w limit s p r
      go true i = held (leb-true _ _ i) (eqb (limit (number_at w s p)) 0) refl
      go false i =
          let l = leb-false (p + w) (length s) i in
          subst (λ (k : ℕ). CountFault w limit s p k) (stopped (sym (count_stops h (cut l)) ∙ e)) (cut l)

-- the first byte, where it is that of no kind
first_other : {n b : ℕ} → n ≡ b → b ≢ base_recording.first → b ≢ wide_recording.first → b ≢ dated_recording.first → first_limit (any_kind (which_kind b)) n ≡ 2
first_other {n} {b} e base wide dated = rw (ne_eqb b wide_recording.first wide, ne_eqb b dated_recording.first dated, ne_eqb n base_recording.first (λ z. base (sym e ∙ z)))

-- that of a kind is allowed
first_known : (which : WhichKind) → first_limit (any_kind (which_kind (any_kind which).first)) (any_kind which).first ≡ 0
first_known kinds.Base = refl
first_known kinds.Wide = refl
first_known kinds.Dated = refl

-- so where it is refused, it is that of none
first_over : {n b : ℕ} → n ≡ b → first_limit (any_kind (which_kind b)) n ≢ 0
    → (first_limit (any_kind (which_kind b)) n ≡ 2) × ((b ≢ base_recording.first) × (b ≢ wide_recording.first) × (b ≢ dated_recording.first))
first_over {n} {b} e ne = (first_other e (other kinds.Base) (other kinds.Wide) (other kinds.Dated), (other kinds.Base, other kinds.Wide, other kinds.Dated))
  where
    other : (which : WhichKind) → b ≢ (any_kind which).first
    other which z = ne (ap (first_limit (any_kind (which_kind b))) e ∙ subst (λ (m : ℕ). first_limit (any_kind (which_kind m)) m ≡ 0) (sym z) (first_known which))

-- and the three of the counts
module _ (kind : RecordingKind) where
  task_over : (n : ℕ) → task_limit kind n ≢ 0 → (task_limit kind n ≡ 2) × ((n ≡ 0) ⊎ (kind.tasks < n))
  task_over n ne = go (eqb n 0 || ltb kind.tasks n) refl ne
    where
      side : (eqb n 0 ≡ true) ⊎ (ltb kind.tasks n ≡ true) → (n ≡ 0) ⊎ (kind.tasks < n)
      side (inl e) = inl (eqb-true n 0 e)
      side (inr e) = inr (ltb-true kind.tasks n e)

      go : (b : Bool) → (eqb n 0 || ltb kind.tasks n) ≡ b → cond {A = ℕ} b 2 0 ≢ 0 → (cond {A = ℕ} b 2 0 ≡ 2) × ((n ≡ 0) ⊎ (kind.tasks < n))
      go true e m = (refl, side (either (eqb n 0) (ltb kind.tasks n) e))
      go false e m = absurd (m refl)

  over_tasks : (n : ℕ) → (n ≡ 0) ⊎ (kind.tasks < n) → task_limit kind n ≡ 2
  over_tasks n (inl e) = rw (eq-eqb n 0 e)
  over_tasks n (inr h) = rw (or_second (eqb n 0) (lt-ltb kind.tasks n h))

-- a limit that is one number
over_one : (most k n : ℕ) → cond {A = ℕ} (ltb most n) k 0 ≢ 0 → (cond {A = ℕ} (ltb most n) k 0 ≡ k) × (most < n)
over_one most k n ne = go (ltb most n) refl ne
  where
    go : (b : Bool) → ltb most n ≡ b → cond {A = ℕ} b k 0 ≢ 0 → (cond {A = ℕ} b k 0 ≡ k) × (most < n)
    go true e m = (refl, ltb-true most n e)
    go false e m = absurd (m refl)

-- ---- a task without a date, as the reader judges it
module _ (which : WhichKind) where
  task_undated : (q : List Task) (t : Task) → Wide (any_kind which).deadline_width t.deadline → task_fault (any_kind which) q t ≢ 0
      → (task_fault (any_kind which) q t ≡ 24) × (((any_kind which).policy ≡ 1) × (t.deadline ≡ 0))
  task_undated q t fits ne = go (not (eqb w 0) && (eqb d 0 || leb (256 ^ w) d)) refl ne
    where
      w : ℕ
      w = (any_kind which).deadline_width

      d : ℕ
      d = t.deadline

      side : (eqb d 0 ≡ true) ⊎ (leb (256 ^ w) d ≡ true) → d ≡ 0
      side (inl e) = eqb-true d 0 e
      side (inr e) = absurd (omega (arith, leb-true (256 ^ w) d e, fits))

      ruled : w ≢ 0 → (any_kind which).policy ≡ 1
      ruled n = let m : (any_kind which).policy ≢ 0 = λ z. n ((kind_dates which).none z) in omega (arith, m, (kind_dates which).either)

      go : (b : Bool) → (not (eqb w 0) && (eqb d 0 || leb (256 ^ w) d)) ≡ b → cond {A = ℕ} b 24 0 ≢ 0
          → (cond {A = ℕ} b 24 0 ≡ 24) × (((any_kind which).policy ≡ 1) × (d ≡ 0))
      go true e m = (refl, (ruled (eqb-false w 0 (not-true (eqb w 0) (and_left (not (eqb w 0)) _ e))), side (either (eqb d 0) (leb (256 ^ w) d) (and_right (not (eqb w 0)) _ e))))
      go false e m = absurd (m refl)

  undated_task : (q : List Task) (t : Task) → (any_kind which).policy ≡ 1 → t.deadline ≡ 0 → task_fault (any_kind which) q t ≡ 24
  undated_task q t one e = rw (ne_eqb (any_kind which).deadline_width 0 (λ z. omega (arith, (kind_dates which).some z)), eq-eqb t.deadline 0 e)

-- ---- a table that keeps the rules, as the reader judges it
module _ (which : WhichKind) (ds : List Task) (ls : List Link) where
  pub allowed_fine : task_limit (any_kind which) (length ds) ≡ 0 → Allowed (task_fault (any_kind which)) and_task [] ds → link_limit (any_kind which) (length ls) ≡ 0
      → Allowed (link_fault (ahead_of ds) (length ds)) and_link [] ls → judged_lists state_room (any_kind which).policy ds ls ≡ 0
  allowed_fine t d h a =
      rw (
        allowed_judged (ahead_of ds) (length ds) (any_kind which) state_room (kind_room which) ls t h a,
        allowed_dated (any_kind which) (kind_dates which) ds d,
      )

  pub allowed_keeps : task_limit (any_kind which) (length ds) ≡ 0 → Allowed (task_fault (any_kind which)) and_task [] ds → length ls ≤ (any_kind which).links
      → Allowed (link_fault (ahead_of ds) (length ds)) and_link [] ls → Keeps (any_kind which).policy ds ls
  allowed_keeps t d h a = keeps_of (any_kind which).policy ds ls (allowed_fine t d (within_links (any_kind which) (length ls) h) a)

pub keeps_allowed : {p : ℕ} (ds : List Task) (ls : List Link) → Keeps p ds ls → Allowed (link_fault (ahead_of ds) (length ds)) and_link [] ls
keeps_allowed ds ls k = no_fault_allowed (ahead_of ds) (length ds) ls (λ l h. no_fault (ahead_of ds) (length ds) (link_of ls) l (k.rules l h))

module _ (which : WhichKind) (s : List ℕ) where
  -- ---- what stands at the beginning
  -- dates, in words and as the reader judges them
  dates_of : (ds : List Task) → Allowed (task_fault (any_kind which)) and_task [] ds → AllDated (any_kind which).policy ds
  dates_of ds a = dated_each (any_kind which).policy ds (allowed_dated (any_kind which) (kind_dates which) ds a)

  of_dates : (ds : List Task) → FitEach (tasks (any_kind which)) ds → AllDated (any_kind which).policy ds → Allowed (task_fault (any_kind which)) and_task [] ds
  of_dates ds f d = dated_allowed (any_kind which) (kind_dates which) [] ds f (each_dated (any_kind which).policy ds (kind_dates which).either d)

  tasks_begun : {ds : List Task} {p : ℕ} → TasksTo (any_kind which) s ds p → TasksBegun which s (length ds) ds p
  tasks_begun {ds} t = record { few = tasks_within (any_kind which) (length ds) t.whole.kept.few; dates = dates_of ds t.whole.kept.allowed; fits = t.whole.kept.fits; bytes = stands_join t.first t.whole.bytes }

  begun_tasks : {ds : List Task} {p : ℕ} → TasksBegun which s (length ds) ds p → TasksTo (any_kind which) s ds p
  begun_tasks {ds} b =
      let few = within_tasks (any_kind which) (length ds) b.few.0 b.few.1 in
      record {
        first = stands_first (encode_first (any_kind which)) _ b.bytes;
        whole = record {
          kept = record { counted = tasks_fit (any_kind which) (length ds) (kind_counts which) few; few = few; fits = b.fits; allowed = of_dates ds b.fits b.dates };
          bytes = stands_left (encode_first (any_kind which)) _ b.bytes;
        };
      }

  -- all tasks of the links that are begun
  links_tasks : {ds : List Task} {L p : ℕ} {ls : List Link} (b : LinksBegun which s ds L ls p) → TasksTo (any_kind which) s ds (tasks_end (any_kind which) ds)
  links_tasks {ds} b =
      let first = stands_first (encode_first (any_kind which)) _ b.bytes in
      begun_tasks (record {
        few = (b.keeps.tasks.0, b.few_tasks);
        dates = b.keeps.dates;
        fits = b.fits.0;
        bytes = stands_join first (stands_first (encode_section (tasks (any_kind which)) ds) _ (stands_left (encode_first (any_kind which)) _ b.bytes));
      })

  -- and the links after them
  links_from : {ds : List Task} {L p : ℕ} {ls : List Link} (b : LinksBegun which s ds L ls p) → Stands s (tasks_end (any_kind which) ds) (bytes_of (any_kind which).link_count_width L ++ encodes (links (any_kind which)) ls) p
  links_from {ds} b = stands_left (encode_section (tasks (any_kind which)) ds) _ (stands_left (encode_first (any_kind which)) _ b.bytes)

  pub table_begun : {ds : List Task} {ls : List Link} {p : ℕ} → TableTo (any_kind which) s ds ls p → LinksBegun which s ds (length ls) ls p
  table_begun {ds} {ls} t = record {
    few_tasks = (tasks_within (any_kind which) (length ds) t.tasked.whole.kept.few).1;
    few = links_within (any_kind which) (length ls) t.linked.kept.few;
    keeps = allowed_keeps which ds ls t.tasked.whole.kept.few t.tasked.whole.kept.allowed (links_within (any_kind which) (length ls) t.linked.kept.few) t.linked.kept.allowed;
    fits = (t.tasked.whole.kept.fits, t.linked.kept.fits);
    bytes = stands_join t.tasked.first (stands_join t.tasked.whole.bytes t.linked.bytes);
  }

  pub begun_table : {ds : List Task} {ls : List Link} {p : ℕ} → LinksBegun which s ds (length ls) ls p → TableTo (any_kind which) s ds ls p
  begun_table {ds} {ls} b =
      let few = within_links (any_kind which) (length ls) b.few in
      record {
        place = tasks_end (any_kind which) ds;
        tasked = links_tasks b;
        linked = record {
          kept = record { counted = links_fit (any_kind which) (length ls) (kind_counts which) few; few = few; fits = b.fits.1; allowed = keeps_allowed ds ls b.keeps };
          bytes = links_from b;
        };
      }

  -- ---- from what the reader finds to the words
  -- the number of a fault as it is given
  given : {r k p : ℕ} → k ≡ r → TableFault s k p → TableFault s r p
  given {p = p} e f = subst (λ (n : ℕ). TableFault s n p) e f

  pub task_count_fault : {r : ℕ} → Begins (any_kind which) s → task_count_at (any_kind which) s task_place ≡ stop r → TableFault s r task_place
  task_count_fault x e = go (stops_count 1 (task_limit (any_kind which)) s task_place x.within e)
    where
      go : {r : ℕ} → CountFault 1 (task_limit (any_kind which)) s task_place r → TableFault s r task_place
      go (cut h) = cut_task_count which x (omega arith)
      go (above h n) = let o = task_over (any_kind which) (number_at (any_kind which).task_count_width s task_place) n in given (sym o.0) (bad_task_count which x (omega arith) o.1)

  -- a task record is cut, or has no date
  pub task_fault_lem : {ds : List Task} {r p : ℕ} → r ≢ 0 → Bytes s → Begins (any_kind which) s
      → Faulty (tasks (any_kind which)) (task_limit (any_kind which)) (task_fault (any_kind which)) and_task s [] task_place ds r p → TableFault s r p
  task_fault_lem {ds} {r} {p} n small x f = go (leb (task_size (any_kind which)) (length s - p)) refl f.fault
    where
      begun : TasksBegun which s f.total ds p
      begun = record {
        few = tasks_within (any_kind which) f.total f.few;
        dates = dates_of ds f.played.allowed;
        fits = f.played.fits;
        bytes = stands_join x (stands_join f.count f.played.bytes);
      }

      go : (b : Bool) → leb (task_size (any_kind which)) (length s - p) ≡ b
          → r ≡ refusal_of (cond b (got (task_there (any_kind which) s p) (p + task_size (any_kind which))) (stop 1)) (task_fault (any_kind which) ds) → TableFault s r p
      go true i z =
          let w = task_undated which ds (task_there (any_kind which) s p) (number_wide (any_kind which).deadline_width s (p + (any_kind which).value_width) small) (λ y. n (z ∙ y)) in
          given (sym (z ∙ w.0)) (bad_task which begun f.more (omega (arith, leb-true (task_size (any_kind which)) (length s - p) i)) w.1.0 w.1.1)
      go false i z = given (sym z) (cut_task which begun f.more (omega (arith, leb-false (task_size (any_kind which)) (length s - p) i, begun.bytes.within)))

  pub link_count_fault : {ds : List Task} {r p : ℕ} → TasksTo (any_kind which) s ds p → link_count_at (any_kind which) s p ≡ stop r → TableFault s r p
  link_count_fault {ds} {r} {p} t e = go (stops_count 1 (link_limit (any_kind which)) s p t.whole.bytes.within e)
    where
      go : {r : ℕ} → CountFault 1 (link_limit (any_kind which)) s p r → TableFault s r p
      go (cut h) = cut_link_count which (tasks_begun t) (omega (arith, t.whole.bytes.within))
      go (above h n) = let o = over_one (any_kind which).links 3 (number_at (any_kind which).link_count_width s p) n in given (sym o.0) (bad_link_count which (tasks_begun t) (omega arith) o.1)

  -- a link record is cut, or breaks a rule
  pub link_fault_lem : {ds : List Task} {m : ℕ} {ls : List Link} {r p : ℕ} → r ≢ 0 → TasksTo (any_kind which) s ds m
      → Faulty (links (any_kind which)) (link_limit (any_kind which)) (link_fault (ahead_of ds) (length ds)) and_link s [] m ls r p → TableFault s r p
  link_fault_lem {ds} {m} {ls} {r} {p} n t f = go (leb 7 (length s - p)) refl (rw (in_order_lem [] ls) at f.fault)
    where
      few : f.total ≤ (any_kind which).links
      few = links_within (any_kind which) f.total f.few

      begun : LinksBegun which s ds f.total ls p
      begun = record {
        few_tasks = (tasks_within (any_kind which) (length ds) t.whole.kept.few).1;
        few = few;
        keeps = allowed_keeps which ds ls t.whole.kept.few t.whole.kept.allowed (omega (arith, few, f.more)) f.played.allowed;
        fits = (t.whole.kept.fits, f.played.fits);
        bytes = stands_join t.first (stands_join t.whole.bytes (stands_join f.count f.played.bytes));
      }

      go : (b : Bool) → leb 7 (length s - p) ≡ b → r ≡ refusal_of (cond b (got (link_at s p) (p + 7)) (stop 1)) (link_fault (ahead_of ds) (length ds) ls) → TableFault s r p
      go true i z =
          bad_link which begun f.more (omega (arith, leb-true 7 (length s - p) i))
          (subst (λ (k : ℕ). Earns (LinkBreaks ds ls (link_at s p)) k) (sym z) (link_earned ds ls (link_at s p))) n
      go false i z = given (sym z) (cut_link which begun f.more (omega (arith, leb-false 7 (length s - p) i, begun.bytes.within)))

  pub event_count_fault : {ds : List Task} {ls : List Link} {r p : ℕ} → TableTo (any_kind which) s ds ls p → event_count_at (any_kind which) s p ≡ stop r → TableFault s r p
  event_count_fault {ds} {ls} {r} {p} t e = go (stops_count 2 (event_limit (any_kind which)) s p t.linked.bytes.within e)
    where
      go : {r : ℕ} → CountFault 2 (event_limit (any_kind which)) s p r → TableFault s r p
      go (cut h) = cut_event_count which (table_begun t) h
      go (above h n) = let o = over_one (any_kind which).events 10 (number_at (any_kind which).event_count_width s p) n in given (sym o.0) (bad_event_count which (table_begun t) h o.1)

  -- ---- and back
  task_faulty : {T p : ℕ} {ds : List Task} → TasksBegun which s T ds p → length ds < T → (r : ℕ) → r ≡ refusal_of ((tasks (any_kind which)).read s p) (task_fault (any_kind which) ds)
      → Faulty (tasks (any_kind which)) (task_limit (any_kind which)) (task_fault (any_kind which)) and_task s [] task_place ds r p
  task_faulty {T} {p} {ds} b more r e =
      let few = within_tasks (any_kind which) T b.few.0 b.few.1 in
      let from : Stands s task_place (bytes_of (any_kind which).task_count_width T ++ encodes (tasks (any_kind which)) ds) p = stands_left (encode_first (any_kind which)) _ b.bytes in
      record {
        total = T;
        counted = tasks_fit (any_kind which) T (kind_counts which) few;
        few = few;
        first = task_place + length (bytes_of (any_kind which).task_count_width T);
        count = stands_first (bytes_of (any_kind which).task_count_width T) _ from;
        played = record { fits = b.fits; allowed = of_dates ds b.fits b.dates; bytes = stands_left (bytes_of (any_kind which).task_count_width T) _ from };
        more = more;
        fault = e;
      }

  link_faulty : {ds : List Task} {L p : ℕ} {ls : List Link} → LinksBegun which s ds L ls p → length ls < L → (r : ℕ) → r ≡ refusal_of ((links (any_kind which)).read s p) (link_fault (ahead_of ds) (length ds) ls)
      → Faulty (links (any_kind which)) (link_limit (any_kind which)) (link_fault (ahead_of ds) (length ds)) and_link s [] (tasks_end (any_kind which) ds) ls r p
  link_faulty {ds} {L} {p} {ls} b more r e =
      let few = within_links (any_kind which) L b.few in
      let from : Stands s (tasks_end (any_kind which) ds) (bytes_of (any_kind which).link_count_width L ++ encodes (links (any_kind which)) ls) p = links_from b in
      record {
        total = L;
        counted = links_fit (any_kind which) L (kind_counts which) few;
        few = few;
        first = tasks_end (any_kind which) ds + length (bytes_of (any_kind which).link_count_width L);
        count = stands_first (bytes_of (any_kind which).link_count_width L) _ from;
        played = record { fits = b.fits.1; allowed = keeps_allowed ds ls b.keeps; bytes = stands_left (bytes_of (any_kind which).link_count_width L) _ from };
        more = more;
        fault = rw (in_order_lem [] ls) e;
      }

-- ---- the first byte, and back
module _ (s : List ℕ) where
  pub first_fault_lem : {r : ℕ} → first_at (kind_in s) s ≡ stop r → TableFault s r 0
  first_fault_lem e = go (stops_count 1 (first_limit (kind_in s)) s 0 (omega arith) e)
    where
      go : {r : ℕ} → CountFault 1 (first_limit (kind_in s)) s 0 r → TableFault s r 0
      go (cut h) = no_first (omega arith)
      go (above h n) =
          let o = first_over {n = number_at 1 s 0} {b = get_or s 0 0} (number_one s 0) n in
          subst (λ (k : ℕ). TableFault s k 0) (sym o.0) (other_first (omega arith) o.1.0 o.1.1 o.1.2)

  -- ---- what the reader finds where such a fault lies
  module _ (out : List ℕ) where
    abbrev Found : RecordingKind → ℕ → ℕ → Type 0
    Found kind r p = RecordingOutcome kind (core_of state_room kind.policy out) s (verdict r p (core_of state_room kind.policy out).single)

    -- a fault behind the first byte of a kind, by the kind that the bytes say
    said_so : (which : WhichKind) {r p : ℕ} → Begins (any_kind which) s → Found (any_kind which) r p → Found (kind_in s) r p
    said_so which {r} {p} x o = subst (λ (w : WhichKind). Found (any_kind w) r p) (sym (kind_begun which s x)) o

    first_of_links : (which : WhichKind) {ds : List Task} {L p : ℕ} {ls : List Link} → LinksBegun which s ds L ls p → Begins (any_kind which) s
    first_of_links which b = stands_first (encode_first (any_kind which)) _ b.bytes

    first_of_tasks : (which : WhichKind) {T p : ℕ} {ds : List Task} → TasksBegun which s T ds p → Begins (any_kind which) s
    first_of_tasks which b = stands_first (encode_first (any_kind which)) _ b.bytes

    pub fault_found : {r p : ℕ} → TableFault s r p → Found (kind_in s) r p
    fault_found (no_first z) = first_byte 1 (λ y. omega arith) (count_stops 1 (first_limit (kind_in s)) s 0 (omega arith) (cut (omega arith))) refl
    fault_found (other_first h o w d) =
        let two : first_limit (kind_in s) (number_at 1 s 0) ≡ 2 = first_other {n = number_at 1 s 0} {b = get_or s 0 0} (number_one s 0) o w d in
        first_byte 2 (λ y. omega arith) (count_above 1 (first_limit (kind_in s)) s 0 (omega arith) two (λ y. omega arith)) refl
    fault_found (cut_task_count which x z) =
        said_so which x (task_count 1 (λ y. omega arith) x (count_stops 1 (task_limit (any_kind which)) s task_place x.within (cut (omega arith))) refl)
    fault_found (bad_task_count which x h o) =
        said_so which x
        (task_count 2 (λ y. omega arith) x
        (count_above 1 (task_limit (any_kind which)) s task_place (omega arith) (over_tasks (any_kind which) (number_at (any_kind which).task_count_width s task_place) o) (λ y. omega arith)) refl)
    fault_found (cut_task which {T} {p} {ds} b more h) =
        said_so which (first_of_tasks which b)
        (task_record ds 1 p (λ y. omega arith) (first_of_tasks which b)
        (task_faulty which s b more 1
        (sym (ap (λ (y : Got Task). refusal_of y (task_fault (any_kind which) ds)) (sized_ends (task_size (any_kind which)) (task_there (any_kind which) s p) s p b.bytes.within h)))) refl)
    fault_found (bad_task which {T} {p} {ds} b more h one z) =
        said_so which (first_of_tasks which b)
        (task_record ds 24 p (λ y. omega arith) (first_of_tasks which b)
        (task_faulty which s b more 24
        (sym (ap (λ (y : Got Task). refusal_of y (task_fault (any_kind which) ds)) (sized_reads (task_size (any_kind which)) (task_there (any_kind which) s p) s p h)
        ∙ undated_task which ds (task_there (any_kind which) s p) one z))) refl)
    fault_found (cut_link_count which {p} {ds} b z) =
        said_so which (first_of_tasks which b)
        (link_count ds 1 p (λ y. omega arith) (begun_tasks which s b) (count_stops 1 (link_limit (any_kind which)) s p b.bytes.within (cut (omega arith))) refl)
    fault_found (bad_link_count which {p} {ds} b h o) =
        let three : link_limit (any_kind which) (number_at (any_kind which).link_count_width s p) ≡ 3 = rw (lt-ltb (any_kind which).links (number_at (any_kind which).link_count_width s p) o) in
        said_so which (first_of_tasks which b)
        (link_count ds 3 p (λ y. omega arith) (begun_tasks which s b) (count_above 1 (link_limit (any_kind which)) s p (omega arith) three (λ y. omega arith)) refl)
    fault_found (cut_link which {L} {p} {ds} {ls} b more h) =
        said_so which (first_of_links which b)
        (link_record ds (tasks_end (any_kind which) ds) ls 1 p (λ y. omega arith) (links_tasks which s b)
        (link_faulty which s b more 1 (sym (ap (λ (y : Got Link). refusal_of y (link_fault (ahead_of ds) (length ds) ls)) (sized_ends 7 (link_at s p) s p b.bytes.within h)))) refl)
    fault_found (bad_link which {L} {p} {r} {ds} {ls} b more h g n) =
        said_so which (first_of_links which b)
        (link_record ds (tasks_end (any_kind which) ds) ls r p n (links_tasks which s b)
        (link_faulty which s b more r
        (earns_one g (link_earned ds ls (link_at s p)) ∙ sym (ap (λ (y : Got Link). refusal_of y (link_fault (ahead_of ds) (length ds) ls)) (sized_reads 7 (link_at s p) s p h)))) refl)
    fault_found (cut_event_count which {p} {ds} {ls} b h) =
        said_so which (first_of_links which b)
        (event_count ds ls 1 p (λ y. omega arith) (begun_table which s b) (count_stops 2 (event_limit (any_kind which)) s p b.bytes.within (cut h)) refl)
    fault_found (bad_event_count which {p} {ds} {ls} b h o) =
        let ten : event_limit (any_kind which) (number_at (any_kind which).event_count_width s p) ≡ 10 = rw (lt-ltb (any_kind which).events (number_at (any_kind which).event_count_width s p) o) in
        said_so which (first_of_links which b)
        (event_count ds ls 10 p (λ y. omega arith) (begun_table which s b) (count_above 2 (event_limit (any_kind which)) s p h ten (λ y. omega arith)) refl)
