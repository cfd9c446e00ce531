-- `mailbox_rules::table::fault_at` meets its contract: what the calls ensure of the link's four numbers.
-- Assumes nothing.
use mathlib.Core.Path.{◌∙◌}
use Prim.Native.Nat.{◌≤◌}
use native.Mathlib.Nat.{min-eq_left}
use native.Mathlib.Omega.{arith}
use Rattle.lists.specs.Lists.{some}
use Rattle.protocol_state.specs.Saved.{state_room}
use Rattle.protocol_state.specs.Rules.{same_pair, fault}
use Rattle.mailbox_layout.specs.Layout.{link_held}
use Rattle.mailbox_plan.proofs.Plans.{flag_says}
use Rattle.mailbox_rules.proofs.Judged.{fault_by_count}
use Rattle.mailbox_rules.proofs.table.fault_at.Goals as goal

pub returns : goal.returns
unfolding fault
returns c ahead ranks plan counted = let g = c in
    let n = g in
    let t = n in
    let v = t in
    let k = v in
    let r = k in
    let w = r in
    let a = w in
    let l : a.args.l ≤ state_room.links = omega (arith, a.requires) in
    let link = link_held a.args.control.now a.args.values.now in
    rw (
      n.count_at-count.ensures,
      t.has_pair-twice.ensures,
      min-eq_left l,
      w.control_at.ensures,
      r.control_at-2.ensures,
      k.control_at-3.ensures,
      v.entry_at.ensures,
    ) at (c.fault_of.ensures ahead ranks (g.goes_behind.ensures ∙ flag_says a.args.l plan (omega arith) ∙ rw (w.control_at.ensures, r.control_at-2.ensures)))
    ∙ fault_by_count ahead a.args.tasks (link a.args.l) (some (λ j. same_pair (link a.args.l) (link j)) a.args.l) (λ h. counted.count (link a.args.l).writer (omega (arith, h, a.requires)))
