-- Where the regions of the arrays begin and how wide they are, by their numbers, as the code computes it; and that they fill the arrays.
-- Assumes nothing.
use mathlib.Core.Path.{◌≡◌, refl, sym, ap, ◌∙◌}
use mathlib.Core.List.{List, [], ◌∷◌, ◌++◌}
use Prim.Native.Nat.{ℕ, ◌+◌, ◌-◌, ◌*◌, ◌≤◌, ◌<◌}
use native.Mathlib.Omega.{arith}
use lib.ListN.{take, drop, replicate}
use lib.Seq.{drop-drop}
use Rattle.protocol_state.specs.Saved.{state_room, positions}
use Rattle.regions.specs.Regions.{regions, start, width, extent}
use Rattle.regions.proofs.Regions.{start_even, width_even, start_after, width_after, start_past, width_past}
use Rattle.mailbox_layout.specs.Layout.{by_task, by_link, control_widths, value_widths, time_widths, control_size, value_size, time_size, cells_in}

by_links : List ℕ
by_links = replicate by_link state_room.links ++ []

pub control_extent : extent control_widths ≡ control_size
unfolding start
control_extent = refl

pub value_extent : extent value_widths ≡ value_size
unfolding start
value_extent = refl

pub time_extent : extent time_widths ≡ time_size
unfolding start
time_extent = refl

-- the regions of the control by task
module _ (k : ℕ) (h : k < by_task) where
  pub task_start : start control_widths k ≡ k * state_room.tasks
  unfolding by_links
  task_start = start_even state_room.tasks by_links by_task k h

  pub task_width_lem : width control_widths k ≡ state_room.tasks
  unfolding by_links
  task_width_lem = width_even state_room.tasks by_links by_task k h

-- region number j of those by link
module _ (j : ℕ) (h : j < by_link) where
  link_start_at : start control_widths (by_task + j) ≡ by_task * state_room.tasks + j * state_room.links
  unfolding by_links
  link_start_at =
      start_after state_room.tasks by_links by_task j ∙ ap (λ (i : ℕ). by_task * state_room.tasks + i) (start_even state_room.links [] by_link j h)

  link_width_at : width control_widths (by_task + j) ≡ state_room.links
  unfolding by_links
  link_width_at = width_after state_room.tasks by_links by_task j ∙ width_even state_room.links [] by_link j h

-- and by its own number
module _ (k : ℕ) (l : by_task ≤ k) (h : k < by_task + by_link) where
  pub link_start : start control_widths k ≡ by_task * state_room.tasks + (k - by_task) * state_room.links
  link_start =
      let e : by_task + (k - by_task) ≡ k = omega arith in
      ap (start control_widths) (sym e) ∙ link_start_at (k - by_task) (omega arith)

  pub link_width_lem : width control_widths k ≡ state_room.links
  link_width_lem =
      let e : by_task + (k - by_task) ≡ k = omega arith in
      ap (width control_widths) (sym e) ∙ link_width_at (k - by_task) (omega arith)

-- past them there is none
module _ (k : ℕ) (h : by_task + by_link ≤ k) where
  pub no_region_start : start control_widths k ≡ control_size
  no_region_start = start_past control_widths k h ∙ control_extent

  pub no_region_width : width control_widths k ≡ 0
  no_region_width = width_past control_widths k h

-- nor past those of the values
module _ (k : ℕ) (h : 3 ≤ k) where
  pub no_values_start : start value_widths k ≡ value_size
  no_values_start = start_past value_widths k h ∙ value_extent

  pub no_values_width : width value_widths k ≡ 0
  no_values_width = width_past value_widths k h

-- the regions of the times: by task,
module _ (k : ℕ) (h : k < 2) where
  pub time_start : start time_widths k ≡ k * state_room.tasks
  time_start = start_even state_room.tasks (1 ∷ 1 ∷ []) 2 k h

  pub time_width : width time_widths k ≡ state_room.tasks
  time_width = width_even state_room.tasks (1 ∷ 1 ∷ []) 2 k h

-- then a number each,
module _ (k : ℕ) (l : 2 ≤ k) (h : k < 4) where
  pub one_start : start time_widths k ≡ 2 * state_room.tasks + (k - 2)
  one_start =
      let e : 2 + (k - 2) ≡ k = omega arith in
      let z : (k - 2) * 1 ≡ k - 2 = omega arith in
      ap (start time_widths) (sym e) ∙ start_after state_room.tasks (1 ∷ 1 ∷ []) 2 (k - 2)
      ∙ ap (λ (n : ℕ). 2 * state_room.tasks + n) (start_even 1 [] 2 (k - 2) (omega arith) ∙ z)

  pub one_width : width time_widths k ≡ 1
  one_width =
      let e : 2 + (k - 2) ≡ k = omega arith in
      ap (width time_widths) (sym e) ∙ width_after state_room.tasks (1 ∷ 1 ∷ []) 2 (k - 2) ∙ width_even 1 [] 2 (k - 2) (omega arith)

-- and none past them
module _ (k : ℕ) (h : 4 ≤ k) where
  pub no_time_start : start time_widths k ≡ time_size
  no_time_start = start_past time_widths k h ∙ time_extent

  pub no_time_width : width time_widths k ≡ 0
  no_time_width = width_past time_widths k h

-- the cells are what follows the defaults and the start values
pub cells_part : (v : List ℕ) → take (state_room.tasks * positions) (drop (state_room.tasks + state_room.links) v) ≡ cells_in v
unfolding regions
cells_part v = ap (take (state_room.tasks * positions)) (sym (drop-drop state_room.links state_room.tasks v))
