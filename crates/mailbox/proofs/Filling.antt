-- The arrays of a table, turn by turn.
-- Assumes nothing.
use mathlib.Core.Path.{◌≡◌, refl, sym, ap, ◌∙◌}
use mathlib.Core.List.{List, [], ◌∷◌}
use Prim.Native.Nat.{ℕ, zero, suc, ◌+◌, ◌≤◌}
use native.Mathlib.Omega.{arith}
use lib.ListN.{set, replicate}
use lib.Seq.{set-get_or}
use Rattle.lists.proofs.Lists.{at_bound}
use Rattle.protocol.specs.Instant.{upward}
use Rattle.protocol_state.specs.Records.{Task, Link, link_from, task_from, first_tasks, first_links}
use Rattle.protocol_state.specs.Saved.{at, state_room}
use Rattle.protocol_state.specs.Fresh.{column}
use Rattle.protocol_state.proofs.Records.{column_tasks, first_tasks_length, first_tasks_more, first_links_length, first_links_more}
use Rattle.mailbox_layout.specs.Layout.{default_region, deadline_region}
use Rattle.mailbox_layout.specs.Fresh.{fresh_control, fresh_values, link_put, start_put, empty_values, fresh_times, with_number}
use Rattle.mailbox_layout.proofs.Tables.{link_put_lem, start_put_lem, task_put, deadline_put}

-- the first links of the arrays W, R, K and B
module _ (W R K B : List ℕ) where
  pub links_more : (l : ℕ) {c c' : List (List ℕ)} → c ≡ fresh_control (first_links l W R K B) → c' ≡ link_put c l (link_from W R K B l) →
      c' ≡ fresh_control (first_links (l + 1) W R K B)
  links_more l e p = link_put_lem (first_links l W R K B) _ e (sym (first_links_length l W R K B)) p ∙ ap fresh_control (sym (first_links_more l W R K B))

  pub starts_more : (ts : List Task) (l : ℕ) {v v' : List (List ℕ)} → v ≡ fresh_values ts (first_links l W R K B) → v' ≡ start_put v l (link_from W R K B l) →
      v' ≡ fresh_values ts (first_links (l + 1) W R K B)
  starts_more ts l e p = start_put_lem ts (first_links l W R K B) _ e (sym (first_links_length l W R K B)) p ∙ ap (fresh_values ts) (sym (first_links_more l W R K B))

  pub links_end : (f : List Link → List (List ℕ)) (i n : ℕ) {c : List (List ℕ)} → c ≡ f (first_links i W R K B) → i ≤ n → n ≤ i → c ≡ f (first_links n W R K B)
  links_end f = at_bound (λ (k : ℕ). f (first_links k W R K B))

-- the first tasks of the arrays D and X
module _ (D X : List ℕ) where
  pub tasks_more : (t : ℕ) {v v' : List (List ℕ)} → v ≡ empty_values (first_tasks t D X) → v' ≡ with_number default_region t (at D t) v → v' ≡ empty_values (first_tasks (t + 1) D X)
  tasks_more t e p = task_put (first_tasks t D X) (task_from D X t) e (sym (first_tasks_length t D X)) p ∙ ap empty_values (sym (first_tasks_more t D X))

  pub tasks_end_lem : (i n : ℕ) {v : List (List ℕ)} → v ≡ empty_values (first_tasks i D X) → i ≤ n → n ≤ i → v ≡ empty_values (first_tasks n D X)
  tasks_end_lem = at_bound (λ (k : ℕ). empty_values (first_tasks k D X))

  -- and their relative deadlines
  pub deadlines_more : (p t : ℕ) {x x' : List (List ℕ)} → x ≡ fresh_times p (first_tasks t D X) → x' ≡ with_number deadline_region t (at X t) x → x' ≡ fresh_times p (first_tasks (t + 1) D X)
  deadlines_more p t e i = deadline_put p (first_tasks t D X) (task_from D X t) e (sym (first_tasks_length t D X)) i ∙ ap (fresh_times p) (sym (first_tasks_more t D X))

  pub deadlines_end : (p i n : ℕ) {x : List (List ℕ)} → x ≡ fresh_times p (first_tasks i D X) → i ≤ n → n ≤ i → x ≡ fresh_times p (first_tasks n D X)
  deadlines_end p = at_bound (λ (k : ℕ). fresh_times p (first_tasks k D X))

no_firsts : (p : ℕ) (D : List ℕ) → fresh_times p [] ≡ fresh_times p (first_tasks 0 D [])
unfolding upward
no_firsts p D = refl

-- the first tasks of an array without relative deadlines have none
pub no_dates : (p : ℕ) (D : List ℕ) (n : ℕ) → fresh_times p [] ≡ fresh_times p (first_tasks n D [])
no_dates p D zero = no_firsts p D
no_dates p D (suc n) =
    deadlines_more D [] p n (no_dates p D n) (ap (λ (xs : List ℕ). xs ∷ replicate {A = ℕ} state_room.tasks 0 ∷ (0 ∷ []) ∷ (p ∷ []) ∷ []) (sym (stays n)))
    ∙ ap (λ (k : ℕ). fresh_times p (first_tasks k D [])) {x = n + 1} {y = suc n} (omega arith)
  where
    stays : (t : ℕ) → set (column state_room.tasks (λ (k : Task). k.deadline) []) t 0 ≡ column state_room.tasks (λ (k : Task). k.deadline) []
    stays t = ap (set (column state_room.tasks (λ (k : Task). k.deadline) []) t) (sym (column_tasks state_room.tasks (λ (k : Task). k.deadline) refl [] (omega arith) t)) ∙ set-get_or _ t 0
