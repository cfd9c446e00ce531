-- `settings_lines::put_count` meets its contract: the start, the number and the end are the line, and all fit.
-- Assumes nothing.
use native.Mathlib.Omega.{arith}
use Rattle.text_line.specs.Numeral.{number}
use Rattle.text_line.proofs.Lengths.{number_long}
use Rattle.settings_lines.specs.Words.{text_count}
use Rattle.settings_lines.proofs.Whole.{setting_whole}
use Rattle.settings_lines.proofs.Lengths.{setting_fits}
use Rattle.settings_lines.proofs.put_count.Goals as goal

pub returns : goal.returns
returns c =
    let a = c.args in
    let fits = setting_fits text_count (number a.n) a.number a.n (omega arith) (omega (arith, number_long a.n)) in
    setting_whole text_count (number a.n) a.number a.n fits c.setting.ensures c.number-line.ensures.shows c.put_bits.ensures
