-- `settings_lines::with_hex` meets its contract: what `io::hex` spelled are the 16 digits.
-- Assumes nothing.
use mathlib.Core.Path.{ap, ◌∙◌}
use Rattle.text_line.specs.Shown.{shown, joined}
use Rattle.settings_lines.proofs.Hexadecimal.{spelled}
use borrow.Author.Rules.{rules}
use Rattle.settings_lines.proofs.with_hex.Goals as goal

pub returns : goal.returns
returns c =
    let a = c.args in
    let h = c.hex-k in
    c.text.ensures.shows ∙ ap (joined (shown a.line)) (spelled a.n (search rules) h.ensures.len h.ensures.digits)
