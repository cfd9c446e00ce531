-- `text_line::Line::text` meets its contract: as much as has room is copied behind what is there.
-- Assumes nothing.
use Rattle.std.proofs.Common.{rules, arith, ◌≡◌, length}
use Rattle.std.proofs.lemmas.Grind.{common_steps}
use Rattle.text_line.proofs.Copies.{copied}
use Rattle.text_line.proofs.Line.text.Goals as goal

pub returns-clause-shows : goal.returns-clause-shows
returns-clause-shows c = let a = c.args in
    let l : length a.self.bytes ≡ 384 = search rules in
    copied a.self.bytes a.text.now a.self.size l c.min-at.ensures c.min-n.ensures (grind (arith, common_steps))
