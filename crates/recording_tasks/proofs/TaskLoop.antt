-- The section of the tasks after its count, and the loop over its records.
-- Assumes nothing.
use mathlib.Core.Path.{◌≡◌, refl, sym, ap, subst, ◌∙◌}
use mathlib.Core.Logic.{◌≢◌}
use mathlib.Core.List.{List, [], ◌∷◌}
use Prim.Native.Nat.{ℕ, ◌+◌, ◌-◌, ◌≤◌, ◌<◌}
use native.Mathlib.Nat.{sub-zero}
use native.Mathlib.Omega.{arith}
use lib.ListN.{length, length-append}
use Rattle.protocol_state.specs.Records.{Task}
use Rattle.byte_format.specs.Number.{number_at}
use Rattle.byte_format.specs.Format.{got, stop}
use Rattle.byte_format.specs.Play.{Verdict, verdict, play}
use Rattle.byte_format.proofs.Plays.{play_on, play_refused, play_stop, play_end}
use Rattle.byte_format.proofs.Sections.{section_counted, section_refused}
use Rattle.byte_format.proofs.Sized.{too_few, enough_for}
use Rattle.recording_format.specs.declared.WhichKind.{WhichKind}
use Rattle.recording_format.specs.RecordingKind.{any_kind, task_limit}
use Rattle.recording_format.specs.Recording.{task_place, task_count_at}
use Rattle.recording_format.specs.Task.{task_size, task_there, tasks, task_fault, and_task}
use Rattle.mailbox_layout.specs.Layout.{default_region, deadline_region, cut_values, cut_times}
use Rattle.mailbox_layout.specs.Fresh.{with_number}
use Rattle.mailbox_layout.proofs.Tables.{task_put, deadline_put}
use Rattle.std.specs.Prelude.{Result, Ok, Err}
use Rattle.refusals.specs.Numbers.{number, told}
use Rattle.refusals.specs.declared.Refusal.{Refusal}
use Rattle.refusals.specs.declared.Refusal.TheVariants.{Ends}
use Rattle.refusals.specs.declared.Refused.{Refused}
use Rattle.refusals.proofs.Numbers.{number_not_0}
use Rattle.recording_head.specs.Sections.{placed_after}
use Rattle.recording_head.specs.declared.Section.{Section}
use Rattle.recording_head.specs.declared.Stopped.{Stopped}
use Rattle.recording_head.proofs.Stops.{placed_after_ok, placed_after_err}
use Rattle.recording_tasks.specs.Tasks.{tasks_played, tasks_at, date_fault, HasTasks, NoTasks, HoldsTasks}

-- what an answer holds, an equal one holds
tasks_so : {k : ℕ} {y z : Verdict (List Task)} {t : Result Section Stopped} {v x : List ℕ} → HoldsTasks k y t v x → y ≡ z → HoldsTasks k z t v x
tasks_so {k} {t = t} {v} {x} h e = subst (λ (y : Verdict (List Task)). HoldsTasks k y t v x) e h

-- the section after its count
pub tasks_counted :
    (which : WhichKind) (s : List ℕ) {n q : ℕ} {t : Result Section Stopped} {v x : List ℕ} → task_count_at (any_kind which) s task_place ≡ got n q →
    HoldsTasks (any_kind which).policy (tasks_played which n s q) t v x → HoldsTasks (any_kind which).policy (tasks_at which s) t v x
tasks_counted which s e h = tasks_so h (sym (section_counted (tasks (any_kind which)) (task_limit (any_kind which)) (task_fault (any_kind which)) and_task [] [] s task_place e))

-- or without one
pub tasks_lost :
    (which : WhichKind) (s : List ℕ) {why : Refusal} {v x : List ℕ} → task_count_at (any_kind which) s task_place ≡ stop (number why) → NoTasks (any_kind which).policy v x →
    HoldsTasks (any_kind which).policy (tasks_at which s) (Err (record { refused = record { refusal = why; place = task_place }; count = 0 })) v x
tasks_lost which s e h =
    tasks_so (record { answer = record { refused = record { refusal = refl; place = refl }; count = refl }; tasks = h })
    (sym (section_refused (tasks (any_kind which)) (task_limit (any_kind which)) (task_fault (any_kind which)) and_task [] [] s task_place e))

-- at turn i of n: i tasks are read, up to p, and the others are left
pub record TasksTurn (which : WhichKind) (n : ℕ) (s : List ℕ) (from : ℕ) (v x : List ℕ) (p i : ℕ) : Type 0 where
  pub read : List Task
  pub few : i ≤ n
  pub count : i ≡ length read
  pub held : HasTasks (any_kind which).policy read v x
  pub left : tasks_played which n s from ≡ play (tasks (any_kind which)) (task_fault (any_kind which)) and_task (n - i) read s p

-- before the first
pub tasks_first :
    (which : WhichKind) (n : ℕ) (s : List ℕ) (from : ℕ) {v x : List ℕ} → NoTasks (any_kind which).policy v x → TasksTurn which n s from v x from 0
tasks_first which n s from e = record { read = []; few = omega arith; count = refl; held = e; left = rw sub-zero }

module _ {which : WhichKind} {n : ℕ} {s : List ℕ} {from : ℕ} {v x : List ℕ} {p i : ℕ} (t : TasksTurn which n s from v x p i) where
  -- a refusal at this place, after the tasks before it
  refuses :
      (r : Stopped) → r.refused.place ≡ p → r.count ≡ i → verdict (number r.refused.refusal) p t.read ≡ tasks_played which n s from →
      HoldsTasks (any_kind which).policy (tasks_played which n s from) (Err r) v x
  refuses r a c e = tasks_so (record { answer = record { refused = record { refusal = refl; place = a }; count = c ∙ t.count }; tasks = t.held }) e

  -- no record is left
  pub tasks_end_lem : i ≡ n → HoldsTasks (any_kind which).policy (tasks_played which n s from) (Ok (record { place = p; count = n })) v x
  tasks_end_lem h =
      tasks_so (record { answer = record { none = refl; place = refl; count = sym h ∙ t.count }; tasks = t.held })
      (play_end (tasks (any_kind which)) (task_fault (any_kind which)) and_task t.read s p i n t.left (omega arith))

  module _ {k m : ℕ} (h : i < n) (z : k ≡ task_size (any_kind which)) (e : m ≡ length s - p) where
    -- the next record is cut
    pub tasks_cut :
        {r : Refused} → m < k → r ≡ record { refusal = Ends; place = p } →
        HoldsTasks (any_kind which).policy (tasks_played which n s from) (Err (record { refused = r; count = i })) v x
    tasks_cut {r} g u =
        refuses (record { refused = r; count = i }) (ap (λ (x : Refused). x.place) u) refl
        (ap (λ (x : Refused). verdict (number x.refusal) p t.read) u
        ∙ play_stop (tasks (any_kind which)) (task_fault (any_kind which)) and_task t.read s p i n t.left 1 h
        (too_few (task_size (any_kind which)) (task_there (any_kind which) s p) s p e (rw z at g)))

    -- it is read
    is_read : k ≤ m → (tasks (any_kind which)).read s p ≡ got (task_there (any_kind which) s p) (p + task_size (any_kind which))
    is_read g = enough_for (task_size (any_kind which)) (task_there (any_kind which) s p) s p e (rw z at g)

    -- with what is judged of it
    module _ {d : ℕ} (f : Result (Unit {0}) Refusal) (g : k ≤ m) (y : d ≡ number_at (any_kind which).deadline_width s (p + 4)) (j : told f ≡ date_fault which d) where
      fault : told f ≡ task_fault (any_kind which) t.read (task_there (any_kind which) s p)
      fault = j ∙ ap (date_fault which) y

      -- it is at fault
      pub tasks_refused : {r : Stopped} → placed_after f p i ≡ Err r → HoldsTasks (any_kind which).policy (tasks_played which n s from) (Err r) v x
      tasks_refused {r} o =
          let stopped = placed_after_err f p i o in
          let is : number r.refused.refusal ≡ task_fault (any_kind which) t.read (task_there (any_kind which) s p) = ap told (sym stopped.why) ∙ fault in
          refuses r stopped.place stopped.count
          (ap (λ (q : ℕ). verdict q p t.read) is
          ∙ play_refused (tasks (any_kind which)) (task_fault (any_kind which)) and_task t.read s p i n t.left (task_there (any_kind which) s p) _ h (is_read g) (λ u. number_not_0 r.refused.refusal (is ∙ u)))

      -- it is taken
      pub tasks_on :
          {b : ℕ} {v' x' : List ℕ} {u : Unit {0}} → placed_after f p i ≡ Ok u → b ≡ number_at 4 s p → cut_values v' ≡ with_number default_region i b (cut_values v) →
          cut_times x' ≡ with_number deadline_region i d (cut_times x) → TasksTurn which n s from v' x' (p + k) (i + 1)
      tasks_on o b put dated = record {
        read = and_task t.read (task_there (any_kind which) s p);
        few = omega arith;
        count = ap (λ (q : ℕ). q + 1) t.count ∙ sym (length-append t.read (task_there (any_kind which) s p ∷ []));
        held = record {
          values = task_put t.read (task_there (any_kind which) s p) t.held.values t.count (rw b at put);
          times = deadline_put (any_kind which).policy t.read (task_there (any_kind which) s p) t.held.times t.count (rw y at dated);
        };
        left = rw z
            (play_on (tasks (any_kind which)) (task_fault (any_kind which)) and_task t.read s p i n t.left (task_there (any_kind which) s p) _ h (is_read g) (sym fault ∙ ap told (placed_after_ok f p i o)));
      }
