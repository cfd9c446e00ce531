-- `mailbox_sound::is_sound` meets its contract: a table with a refusal, and one without, which has room.
-- Assumes nothing.
use mathlib.Core.Path.{sym, ◌∙◌}
use native.Mathlib.Nat.{min-eq_left}
use native.Mathlib.Omega.{arith}
use Rattle.protocol_state.specs.Saved.{state_room}
use Rattle.protocol_state.proofs.Rules.{judged_keeps}
use Rattle.mailbox_layout.specs.Layout.{ahead_among, link_held, state_of}
use Rattle.mailbox_rules.proofs.Front.{ranks_among}
use Rattle.mailbox_rules.proofs.Judged.{told_refused, told_passed}
use Rattle.mailbox_sound.proofs.Judged.{unsound, sound}
use Rattle.mailbox_sound.proofs.is_sound.Goals as goal

pub returns-then-is_err : goal.returns-then-is_err
returns-then-is_err c plan = let a = c.args in
    unsound (ahead_among a.times.now) (state_of a.tasks a.links a.control.now a.values.now a.times.now)
    (c.judge_table.ensures.refusal (ahead_among a.times.now) (ranks_among a.times.now) plan) (told_refused _ (sym c.is_err.ensures.value ∙ c.if-is_err.true))

pub returns : goal.returns
returns c plan = let t = c in
    let k = t in
    let i = k in
    let j = i in
    let a = j.args in
    let ahead = ahead_among a.times.now in
    let ranks = ranks_among a.times.now in
    let zero = told_passed _ (sym i.is_err.ensures.value ∙ i.if-is_err.false) in
    let judged = j.judge_table.ensures.refusal ahead ranks plan in
    let keeps = judged_keeps ahead a.tasks (link_held a.control.now a.values.now) state_room a.links (sym judged ∙ zero) in
    let all = rw (min-eq_left keeps.links) at plan in
    let counted = j.judge_table.ensures.counts (λ two. omega (arith, zero, two)) (λ three. omega (arith, zero, three)) ahead ranks plan in
    sound ahead (state_of a.tasks a.links a.control.now a.values.now a.times.now) judged zero
    (rw (k.entry_at-2.ensures, k.entry_at.ensures) at k.clock_is-clock_stands.ensures)
    (t.tasks_stand-each_task_stands.ensures keeps.tasks.1 ahead a.links counted a.tasks a.values.now)
    (c.links_stand-each_link_stands.ensures (λ l h. omega (arith, (keeps.each l h).writer, keeps.tasks.1)) ahead all counted a.tasks a.values.now a.times.now)
