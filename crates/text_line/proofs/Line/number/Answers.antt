-- `text_line::Line::number` meets its contract: a space, then what `io::decimal` spelled, which is the number's digits.
-- Assumes nothing.
use mathlib.Core.Path.{ap, ◌∙◌}
use mathlib.Core.List.{List, ◌++◌}
use Prim.Native.Nat.{ℕ}
use lib.ListN.{take}
use borrow.Author.Rules.{rules}
use Rattle.text_line.specs.Numeral.{space, number}
use Rattle.text_line.specs.Shown.{shown, joined}
use Rattle.text_line.proofs.Numerals.{spelled}
use Rattle.text_line.proofs.Pieces.{onto}
use Rattle.text_line.proofs.Line.number.Goals as goal

pub returns : goal.returns
unfolding number
returns c =
    let a = c.args in
    let d = c.decimal-k in
    let x = spelled a.n d.result d.new.out (search rules) d.ensures.len d.ensures.digits in
    let first = c.text.ensures in
    record {
      answer = c.text-2.ensures.answer ∙ rw (first.answer, x.1);
      shows = c.text-2.ensures.shows ∙ onto (shown a.self) space (take d.result d.new.out) first.shows
          ∙ ap (λ (z : List ℕ). joined (shown a.self) (space ++ z)) x.1;
    }
