-- `settings_lines::put_float` meets its contract: the start, the value and the end are the line, and all fit.
-- Assumes nothing.
use Rattle.settings_lines.specs.Lines.{value}
use Rattle.settings_lines.proofs.Whole.{setting_whole}
use Rattle.settings_lines.proofs.Lengths.{value_long, setting_fits}
use Rattle.settings_lines.proofs.put_float.Goals as goal

pub returns : goal.returns
returns c =
    let a = c.args in
    let v = value a.unit.now a.bits in
    let fits = setting_fits a.kind.now v a.place a.bits c.requires.0 (value_long a.unit.now a.bits c.requires.1) in
    setting_whole a.kind.now v a.place a.bits fits c.setting.ensures c.with_value-line.ensures c.put_bits.ensures
