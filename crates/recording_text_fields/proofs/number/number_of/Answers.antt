-- `recording_text_fields::number::number_of` meets its contract: a byte that is no digit, or the number of the digits.
-- Assumes nothing.
use Rattle.std.proofs.Common.{◌≡◌, sym, ◌∙◌, true, ◌≤◌, ◌<◌, Ok, Err, get_or, arith}
use borrow.Author.Rules.{rules}
use borrow.Author.Tests.{leb-true}
use lib.Dec.{leb}
use Rattle.lists.proofs.Bools.{and_left, and_right}
use Rattle.recording_text_fields.specs.Numeral.{is_digit, field_number}
use Rattle.recording_text_fields.proofs.Numerals.{begun_none, begun_on, begun_bad, begun_large, begun_good}
use Rattle.recording_text_fields.proofs.number.number_of.Goals as goal

pub loop-digit-init : goal.loop-digit-init
loop-digit-init c = begun_none _

pub returns-then-not-is_digit : goal.returns-then-not-is_digit
returns-then-not-is_digit c = begun_bad c.loop-digit.invariant (omega arith) (sym c.is_digit.ensures ∙ c.if-not-is_digit.true)

pub grown-n-requires : goal.grown-n-requires
grown-n-requires c = let b = get_or c.args.field.now c.loop-digit.digit-index 0 in
    let d : is_digit b ≡ true = sym c.is_digit.ensures ∙ c.if-not-is_digit.false in
    (omega arith, (leb-true 48 b (and_left (leb 48 b) (leb b 57) d), leb-true b 57 (and_right (leb 48 b) (leb b 57) d)))

pub loop-digit-preserved : goal.loop-digit-preserved
loop-digit-preserved c = begun_on c.loop-digit.invariant (omega arith) (sym c.is_digit.ensures ∙ c.if-not-is_digit.false) c.grown-n.ensures

pub returns : goal.returns
returns c = let l = c.loop-digit in
    let good : l.n ≤ 4294967295 → Ok l.n ≡ field_number c.args.field.now = begun_good l.invariant (omega arith) in
    let large : 4294967295 < l.n → Err 3 ≡ field_number c.args.field.now = begun_large l.invariant (omega arith) in
    search rules
