-- The table that a fresh saved state holds is the station that was handed over, whole.
-- Assumes nothing.
use mathlib.Core.Path.{◌≡◌, refl, sym, ap, subst, fun_ext, ◌∙◌}
use mathlib.Core.Bool.{Bool}
use mathlib.Core.List.{List, [], map}
use Prim.Native.Nat.{ℕ, ◌≤◌}
use native.Mathlib.Decide.{ℕ_discrete}
use native.Mathlib.Omega.{arith}
use lib.Dec.{eqb}
use lib.ListN.{length, get_or-map}
use lib.Seq.{ext_get_or}
use Rattle.protocol_state.specs.Records.{Task, no_task, task_of, deadline_of, task_from, Link, no_link, link_of, writers, readers, kinds, start_values, link_from, first_tasks, first_links, ahead_of}
use Rattle.protocol_state.specs.Saved.{state_room, at, ahead_in, table}
use Rattle.protocol_state.specs.Fresh.{fresh_of, Policed}
use Rattle.protocol_state.proofs.Records.{first_tasks_length, first_task, first_links_length, first_link, column_tasks, column_whole}
use Rattle.protocol_state.proofs.Freshes.{fresh_ahead, plain_policed, dated_policed}
use Rattle.demands.specs.Station.{station, HandedOver, without, with}

-- the table of a fresh state is that of its lists, whatever the policy
pub fresh_station : (p : ℕ) (ds : List Task) (ls : List Link) → length ds ≤ state_room.tasks → length ls ≤ state_room.links → table (ahead_of ds) (fresh_of state_room p ds ls) ≡ station ds ls
unfolding fresh_of
fresh_station p ds ls few least = λ i. record {
  tasks = length ds;
  links = length ls;
  default = fun_ext (λ t. column_tasks state_room.tasks (λ (x : Task). x.default) refl ds few t) i;
  deadline = fun_ext (λ t. column_tasks state_room.tasks (λ (x : Task). x.deadline) refl ds few t) i;
  start_value = fun_ext (λ l. column_whole state_room.links (λ (x : Link). x.start_value) refl ls least l) i;
  writer = fun_ext (λ l. column_whole state_room.links (λ (x : Link). x.writer) refl ls least l) i;
  reader = fun_ext (λ l. column_whole state_room.links (λ (x : Link). x.reader) refl ls least l) i;
  delayed = λ l. eqb (column_whole state_room.links (λ (x : Link). x.kind) refl ls least l i) 1;
  ahead = ahead_of ds;
}

-- by the order of the state's own tasks too
pub own_station : (p : ℕ) (ds : List Task) (ls : List Link) → length ds ≤ state_room.tasks → length ls ≤ state_room.links
    → table (ahead_in (fresh_of state_room p ds ls)) (fresh_of state_room p ds ls) ≡ station ds ls
own_station p ds ls few least =
    ap (λ (ahead : ℕ → ℕ → Bool). table ahead (fresh_of state_room p ds ls)) (fresh_ahead state_room p ds ls few) ∙ fresh_station p ds ls few least

-- tasks that are handed over may come under the policy that they are handed over for
pub handed_policed : {p : ℕ} {X : List ℕ} → HandedOver p X → (n : ℕ) (D : List ℕ) → Policed p (first_tasks n D X)
handed_policed without n D = plain_policed n D
handed_policed (with X) n D = dated_policed (first_tasks n D X)

-- lists handed over as arrays are these lists
pub first_tasks_own : (ds : List Task) (X : List ℕ) → ((t : ℕ) → at X t ≡ deadline_of ds t) → first_tasks (length ds) (map (λ (x : Task). x.default) ds) X ≡ ds
first_tasks_own ds X same =
    ext_get_or no_task (first_tasks (length ds) D X) ds (first_tasks_length (length ds) D X)
    (λ t h. first_task (length ds) D X t (omega (arith, first_tasks_length (length ds) D X)) ∙ own t)
  where
    D : List ℕ
    D = map (λ (x : Task). x.default) ds

    own : (t : ℕ) → task_from (map (λ (x : Task). x.default) ds) X t ≡ task_of ds t
    own t = λ i. record { default = get_or-map (λ (x : Task). x.default) ds t no_task i; deadline = same t i }

-- so tasks that may come under a policy can be handed over for it
pub record Handed (p : ℕ) (ds : List Task) : Type 0 where
  pub D : List ℕ
  pub X : List ℕ
  pub over : HandedOver p X
  pub own : first_tasks (length ds) D X ≡ ds

pub handed : (p : ℕ) (ds : List Task) → Policed p ds → Handed p ds
handed p ds policed = go (ℕ_discrete p 0)
  where
    go : Dec (p ≡ 0) → Handed p ds
    go (yes z) = subst (λ (k : ℕ). Handed k ds) (sym z)
        (record { D = map (λ (x : Task). x.default) ds; X = []; over = without; own = first_tasks_own ds [] (λ t. sym (policed.fixed z t)) })
    go (no n) =
        let one : p ≡ 1 = omega (arith, policed.either, n) in
        let X : List ℕ = map (λ (x : Task). x.deadline) ds in
        subst (λ (k : ℕ). Handed k ds) (sym one)
        (record { D = map (λ (x : Task). x.default) ds; X = X; over = with X; own = first_tasks_own ds X (λ t. get_or-map (λ (x : Task). x.deadline) ds t no_task) })

pub first_links_own : (ls : List Link) → first_links (length ls) (writers ls) (readers ls) (kinds ls) (start_values ls) ≡ ls
first_links_own ls =
    ext_get_or no_link (first_links (length ls) (writers ls) (readers ls) (kinds ls) (start_values ls)) ls first_length
    (λ l h. first_link (length ls) (writers ls) (readers ls) (kinds ls) (start_values ls) l (omega (arith, first_length)) ∙ own l)
  where
    first_length : length (first_links (length ls) (writers ls) (readers ls) (kinds ls) (start_values ls)) ≡ length ls
    first_length = first_links_length (length ls) (writers ls) (readers ls) (kinds ls) (start_values ls)

    own : (l : ℕ) → link_from (writers ls) (readers ls) (kinds ls) (start_values ls) l ≡ link_of ls l
    own l = λ i. record {
      writer = get_or-map (λ (x : Link). x.writer) ls l no_link i;
      reader = get_or-map (λ (x : Link). x.reader) ls l no_link i;
      kind = get_or-map (λ (x : Link). x.kind) ls l no_link i;
      start_value = get_or-map (λ (x : Link). x.start_value) ls l no_link i;
    }
