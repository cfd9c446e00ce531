-- `mailbox_rules::links::readers_behind` meets its contract: after l turns `c` counts those of the first l links whose flag says so.
-- Assumes nothing.
use mathlib.Core.Path.{◌≡◌, refl, ◌∙◌}
use mathlib.Core.Bool.{Bool, true, false, cond, ◌&&◌}
use native.Mathlib.Omega.{arith}
use lib.Dec.{eqb}
use mir.Val.{bool_byte}
use Rattle.mailbox_layout.specs.Layout.{writer_in}
use Rattle.lists.proofs.Lists.{count_none, count_more, count_end, count_le}
use Rattle.lists.proofs.Bools.{cond_small}
use Rattle.protocol_state.specs.Saved.{at}
use Rattle.mailbox_rules.proofs.Flags.{flagged, flagged_behind}
use Rattle.mailbox_rules.proofs.links.readers_behind.Goals as goal

-- a test as a byte
byte_of : (b : Bool) → bool_byte b ≡ cond b 1 0
byte_of true = refl
byte_of false = refl

pub loop-l-init : goal.loop-l-init
loop-l-init c = count_none _

pub overflow_add-c : goal.overflow_add-c
overflow_add-c c = let a = c.args in
    let l = c.loop-l in
    omega (
      arith,
      count_le (flagged (at (writer_in a.control.now)) a.plan.now a.t) l.l,
      l.invariant,
      c.loop-l-test.true,
      c.few-l-end.ensures,
      c.from-c.ensures ∙ byte_of _,
      cond_small (eqb c.control_at.result a.t && c.goes_behind.result) {x = 1} {y = 0} {m = 1} (omega arith) (omega arith),
    )

pub loop-l-preserved : goal.loop-l-preserved
loop-l-preserved c = let a = c.args in
    count_more (flagged (at (writer_in a.control.now)) a.plan.now a.t) _ (rw (c.control_at.ensures, c.goes_behind.ensures) refl) c.loop-l.invariant (c.from-c.ensures ∙ byte_of _)

pub returns : goal.returns
returns c = let a = c.args in
    let e = count_end (flagged (at (writer_in a.control.now)) a.plan.now a.t) _ _ c.loop-l.invariant c.loop-l.auto.l-end c.loop-l-test.false in
    record {
      count = rw (← c.few-l-end.ensures) λ ahead p. c.from.ensures ∙ e ∙ flagged_behind a.t p;
      bound = omega (arith, count_le (flagged (at (writer_in a.control.now)) a.plan.now a.t) c.loop-l.l, c.loop-l.invariant, c.from.ensures, c.loop-l.auto.l-end, c.few-l-end.ensures);
    }
