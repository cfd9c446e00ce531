-- The tasks and the links of a table in the arrays of a fresh state: one more is put behind them, and each link is the one that was put.
-- Assumes nothing.
use mathlib.Core.Path.{◌≡◌, refl, sym, ap, ◌∙◌}
use mathlib.Core.List.{List, [], ◌∷◌, ◌++◌, map, map-append}
use Prim.Native.Nat.{ℕ, ◌+◌, ◌*◌, ◌≤◌}
use lib.ListN.{length, length-map, length-append, set, replicate, get_or-append}
use lib.Seq.{get_or-append_seam}
use Rattle.lists.specs.Lists.{upto}
use Rattle.lists.proofs.Lists.{upto_more}
use Rattle.protocol_deadlines.specs.Deadline.{ahead_by}
use Rattle.protocol_state.specs.Records.{Task, deadline_of, Link, link_of, ahead_of}
use Rattle.protocol_state.specs.Saved.{Saved, state_room, at, positions, link_in}
use Rattle.protocol_state.specs.Fresh.{copied, column, fresh_of}
use Rattle.protocol_state.proofs.Records.{copied_same, column_tasks}
use Rattle.protocol_state.proofs.Freshes.{fresh_link}
use Rattle.regions.specs.Regions.{regions, region}
use Rattle.mailbox_layout.specs.Layout.{default_region, cell_region, deadline_region, policy_region, value_size, time_size, cut, cut_values, cut_times, defaults_in, cells_in, deadline_in, link_held, ahead_among, fields_of, state_of}
use Rattle.mailbox_layout.specs.Fresh.{fresh_control, link_put, start_put, empty_values, fresh_values, fresh_times, with_number, each_default}

-- a list copied to its room, and one number more behind it
copied_more : (size : ℕ) (xs : List ℕ) (v : ℕ) → set (copied size (length xs) xs) (length xs) v ≡ copied size (length xs + 1) (xs ++ (v ∷ []))
copied_more size xs v =
    upto_more (λ i x. at (xs ++ (v ∷ [])) i) (length xs) (replicate size 0) 0
    (copied_same size (length xs) xs (xs ++ (v ∷ [])) (λ i h. sym (get_or-append xs (v ∷ []) 0 i h)))
    (sym (get_or-append_seam xs v [] 0))

-- one field of records that stand in a region
field_more : {A : Type 0} (size : ℕ) (f : A → ℕ) (xs : List A) (x : A) →
    set (column size f xs) (length xs) (f x) ≡ column size f (xs ++ (x ∷ []))
field_more {A} size f xs x =
    ap (λ (n : ℕ). set (copied size n (map f xs)) n (f x)) (sym (length-map xs f))
    ∙ copied_more size (map f xs) (f x)
    ∙ ap (λ (n : ℕ). copied size n (map f xs ++ (f x ∷ []))) (ap (λ (n : ℕ). n + 1) (length-map xs f) ∙ sym (length-append xs (x ∷ [])))
    ∙ ap (λ (ys : List ℕ). copied size (length (xs ++ (x ∷ []))) ys) (sym (map-append f xs (x ∷ [])))

-- the task d put behind the tasks ts
pub task_put : (ts : List Task) (d : Task) {t : ℕ} {rs rs' : List (List ℕ)} → rs ≡ empty_values ts → t ≡ length ts → rs' ≡ with_number default_region t d.default rs →
    rs' ≡ empty_values (ts ++ (d ∷ []))
task_put ts d {t} e n p =
    p ∙ ap (with_number default_region t d.default) e ∙ ap (λ (i : ℕ). with_number default_region i d.default (empty_values ts)) n
    ∙ ap (λ (ys : List ℕ). ys ∷ replicate {A = ℕ} state_room.links 0 ∷ replicate {A = ℕ} (state_room.tasks * positions) 0 ∷ []) (field_more state_room.tasks (λ (k : Task). k.default) ts d)

-- and its relative deadline
pub deadline_put : (p : ℕ) (ts : List Task) (d : Task) {t : ℕ} {rs rs' : List (List ℕ)} → rs ≡ fresh_times p ts → t ≡ length ts → rs' ≡ with_number deadline_region t d.deadline rs →
    rs' ≡ fresh_times p (ts ++ (d ∷ []))
deadline_put p ts d {t} e n i =
    i ∙ ap (with_number deadline_region t d.deadline) e ∙ ap (λ (k : ℕ). with_number deadline_region k d.deadline (fresh_times p ts)) n
    ∙ ap (λ (ys : List ℕ). ys ∷ replicate {A = ℕ} state_room.tasks 0 ∷ (0 ∷ []) ∷ (p ∷ []) ∷ []) (field_more state_room.tasks (λ (k : Task). k.deadline) ts d)

-- no task yet
pub no_deadlines : (p : ℕ) {rs : List (List ℕ)} → rs ≡ with_number policy_region 0 p (cut_times (replicate time_size 0)) → rs ≡ fresh_times p []
unfolding regions upto
no_deadlines p e = e

pub no_tasks : cut_values (replicate value_size 0) ≡ empty_values []
unfolding regions upto
no_tasks = refl

-- the positions filled
pub values_filled : (ts : List Task) (v : List ℕ) {rs : List (List ℕ)} → cut_values v ≡ empty_values ts →
    rs ≡ set (cut_values v) cell_region (each_default (defaults_in v) (cells_in v)) → rs ≡ fresh_values ts []
unfolding upto
values_filled ts v e p = p ∙ ap (λ (b : List (List ℕ)). set b cell_region (each_default (region b default_region) (region b cell_region))) e

-- the link k put behind the links ls
pub link_put_lem : (ls : List Link) (k : Link) {l : ℕ} {rs rs' : List (List ℕ)} → rs ≡ fresh_control ls → l ≡ length ls → rs' ≡ link_put rs l k → rs' ≡ fresh_control (ls ++ (k ∷ []))
link_put_lem ls k {l} e n p =
    p ∙ ap (λ (b : List (List ℕ)). link_put b l k) e ∙ ap (λ (i : ℕ). link_put (fresh_control ls) i k) n
    ∙ rw (
      field_more state_room.links (λ (k : Link). k.writer) ls k,
      field_more state_room.links (λ (k : Link). k.reader) ls k,
      field_more state_room.links (λ (k : Link). k.kind) ls k,
    )

-- and its start value
pub start_put_lem : (ts : List Task) (ls : List Link) (k : Link) {l : ℕ} {rs rs' : List (List ℕ)} → rs ≡ fresh_values ts ls → l ≡ length ls → rs' ≡ start_put rs l k →
    rs' ≡ fresh_values ts (ls ++ (k ∷ []))
start_put_lem ts ls k {l} e n p =
    p ∙ ap (λ (b : List (List ℕ)). start_put b l k) e ∙ ap (λ (i : ℕ). start_put (fresh_values ts ls) i k) n
    ∙ rw (field_more state_room.links (λ (k : Link). k.start_value) ls k)

-- so many tasks and links with these arrays are the fresh state
pub fresh_state : (p : ℕ) (ts : List Task) (ls : List Link) (c v x : List ℕ) {T L : ℕ} → T ≡ length ts → L ≡ length ls → cut c ≡ fresh_control ls → cut_values v ≡ fresh_values ts ls →
    cut_times x ≡ fresh_times p ts → state_of T L c v x ≡ fresh_of state_room p ts ls
unfolding fresh_of
fresh_state p ts ls c v x t l e f g = λ i. fields_of (t i) (l i) (e i) (f i) (g i)

-- whose links are those that were put
pub link_held_lem : (ts : List Task) (ls : List Link) (c v : List ℕ) → cut c ≡ fresh_control ls → cut_values v ≡ fresh_values ts ls → length ls ≤ state_room.links → (l : ℕ)
    → link_held c v l ≡ link_of ls l
unfolding fresh_of
link_held_lem ts ls c v e f h l =
    let same : link_held c v l ≡ link_in (fresh_of state_room 0 ts ls) l = ap (λ (q : Saved). link_in q l) (λ i. fields_of (length ts) (length ls) (e i) (f i) (fresh_times 0 ts)) in
    same ∙ fresh_link state_room 0 ts ls h l

-- and whose order is that of the tasks
pub order_held : (p : ℕ) (ts : List Task) (x : List ℕ) → cut_times x ≡ fresh_times p ts → length ts ≤ state_room.tasks → ahead_among x ≡ ahead_of ts
order_held p ts x e h = λ i. ahead_by (λ t. one t i)
  where
    one : (t : ℕ) → at (deadline_in x) t ≡ deadline_of ts t
    one t = ap (λ (rs : List (List ℕ)). at (region rs deadline_region) t) e ∙ column_tasks state_room.tasks (λ (k : Task). k.deadline) refl ts h t
