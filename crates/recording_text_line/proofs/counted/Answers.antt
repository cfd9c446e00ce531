-- `recording_text_line::counted` meets its contract: there are as many numbers as are wanted, or the fault.
-- Assumes nothing.
use mathlib.Core.List.{[]}
use Rattle.std.proofs.lemmas.Result.{err_from_is_err_and}
use Rattle.recording_text_line.proofs.Letters.{some_counted, none_counted}
use Rattle.recording_text_line.proofs.counted.Goals as goal

pub returns-in_err-own : goal.returns-in_err-own
returns-in_err-own g c ns e = let p = err_from_is_err_and c.from_residual.result c.from_residual.ensures.1 in
    rw (p.1, p.2) (none_counted c.args.letter [] g.row.N ns c.exactly.result (c.exactly.ensures ns e) _ c.in_err-own.was)

pub returns : goal.returns
returns g c ns e = rw (c.of.ensures.letter, c.of.ensures.numbers) (some_counted c.args.letter [] g.row.N ns c.exactly.result (c.exactly.ensures ns e) _ c.in_ok-own.was)
