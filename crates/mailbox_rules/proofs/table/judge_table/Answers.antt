-- `mailbox_rules::table::judge_table` meets its contract: way by way: the count of tasks, the count of links, the links.
-- Assumes nothing.
use mathlib.Core.Path.{refl}
use native.Mathlib.Nat.{min-eq_left}
use Rattle.mailbox_rules.proofs.Judged.{room_for, wrong_tasks, wrong_links, link_fault_lem}
use Rattle.mailbox_rules.proofs.table.judge_table.Goals as goal

pub returns-then-tasks : goal.returns-then-tasks
returns-then-tasks c = record {
  refusal = λ ahead ranks plan. wrong_tasks _ _ _ _ c.if-tasks.true;
  counts = λ two. absurd (two refl);
}

pub returns-then-links-gt-LINKS : goal.returns-then-links-gt-LINKS
returns-then-links-gt-LINKS c = record {
  refusal = λ ahead ranks plan. wrong_links _ _ _ _ c.if-tasks.false c.if-links-gt-LINKS.true;
  counts = λ two three. absurd (three refl);
}

pub first_fault-requires : goal.first_fault-requires
first_fault-requires c = (room_for _ c.if-tasks.false, c.if-links-gt-LINKS.false)

pub returns : goal.returns
returns c = let i = c in
    let fits = min-eq_left i.if-links-gt-LINKS.false in record {
      refusal = λ ahead ranks plan. link_fault_lem _ _ _ _ i.if-tasks.false i.if-links-gt-LINKS.false (c.first_fault.ensures ahead ranks (rw fits at plan)).0;
      counts = λ two three ahead ranks plan. (c.first_fault.ensures ahead ranks (rw fits at plan)).1;
    }
