-- `settings::write::put_list` meets its contract: the count is put first, and each turn puts the next entry behind those before it.
-- Assumes nothing.
use mathlib.Core.Path.{◌≡◌, refl}
use Prim.Native.Nat.{◌<◌}
use native.Mathlib.Omega.{arith}
use borrow.Author.Rules.{rules}
use lib.ListN.{length, take}
use lib.Seq.{length-take-le}
use Rattle.settings.proofs.Writing.{count_first, entry_behind, all_behind}
use Rattle.settings.proofs.write.put_list.Goals as goal

pub loop-i-init : goal.loop-i-init
loop-i-init c =
    let a = c.args in
    (refl, (count_first a.settings.now c.told-settings a.n a.out.now (omega (arith, c.requires.1.0)) c.put_number.ensures).0)

pub loop-i-preserved : goal.loop-i-preserved
loop-i-preserved c =
    let l = c.loop-i in
    let a = c.args in
    let h : l.i < a.n = omega (arith, c.loop-i-test.true, length-take-le a.n a.settings.now (omega arith)) in (
      search rules,
      entry_behind a.settings.now c.told-settings a.n l.i _ _ c.requires.0 h (omega (arith, c.requires.1.0)) l.invariant.0 l.invariant.1 (c.requires.1.1 l.i h) c.put_entry.ensures,
    )

pub returns : goal.returns
returns c =
    let l = c.loop-i in
    let a = c.args in
    let k : length (take a.n a.settings.now) ≡ a.n = length-take-le a.n a.settings.now (omega arith) in
    let z : l.i ≡ a.n = omega (arith, c.loop-i-test.false) in
    all_behind a.settings.now c.told-settings a.n a.out.now _ c.requires.0 (count_first a.settings.now c.told-settings a.n a.out.now (omega (arith, c.requires.1.0)) c.put_number.ensures).1
    (rw z at l.invariant.1)
