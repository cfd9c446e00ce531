-- `settings::write::first_bad` meets its contract: a turn finds a bad setting, or one more that is good and such as a machine holds.
-- Assumes nothing.
use mathlib.Core.Path.{◌≡◌, sym, ◌∙◌}
use Prim.Native.Nat.{◌<◌}
use native.Mathlib.Omega.{arith}
use lib.ListN.{length, take}
use lib.Seq.{length-take-le}
use Rattle.lists.proofs.Search.{first_on, first_here, first_end}
use Rattle.settings.specs.Writing.{good_at, first_bad}
use Rattle.settings.proofs.Writing.{good_taken, held_taken, held_more}
use Rattle.settings.proofs.WriteAnswers.{all_good}
use Rattle.settings.proofs.write.first_bad.Goals as goal

pub returns-then-not-is_good : goal.returns-then-not-is_good
returns-then-not-is_good c =
    let l = c.loop-i in
    let ss = c.args.settings.now in
    let n = c.args.n in
    let h : l.i < n = omega (arith, c.loop-i-test.true, length-take-le n ss (omega arith)) in
    let g = good_taken ss n l.i _ c.told-settings c.requires h c.is_good.ensures.answer in
    (sym (l.invariant.0 ∙ first_here (good_at ss) l.i n h (sym g ∙ c.if-not-is_good.true)), h)

pub loop-i-preserved : goal.loop-i-preserved
loop-i-preserved c =
    let l = c.loop-i in
    let ss = c.args.settings.now in
    let n = c.args.n in
    let h : l.i < n = omega (arith, c.loop-i-test.true, length-take-le n ss (omega arith)) in
    let g = good_taken ss n l.i _ c.told-settings c.requires h c.is_good.ensures.answer in (
      l.invariant.0 ∙ first_on (good_at ss) l.i n h (sym g ∙ c.if-not-is_good.false),
      held_more ss l.i l.invariant.1 (held_taken ss n l.i _ c.told-settings c.requires h c.is_good.ensures.held),
    )

pub returns : goal.returns
returns c =
    let l = c.loop-i in
    let ss = c.args.settings.now in
    let n = c.args.n in
    let k : length (take n ss) ≡ n = length-take-le n ss (omega arith) in
    let e : l.i ≡ n = omega (arith, c.loop-i-test.false) in
    let b : n ≡ first_bad ss n = sym (l.invariant.0 ∙ first_end (good_at ss) l.i n (omega arith) ∙ e) in
    (b, (all_good ss n b (omega arith), record { many = c.told-settings; each = λ j h. l.invariant.1 j (omega arith) }))
