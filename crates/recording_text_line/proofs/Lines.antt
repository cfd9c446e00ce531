-- A text has no more lines than bytes; what its lines say, one by one.
-- Assumes nothing.
use Rattle.std.proofs.Common.{◌≡◌, ap, ◌∙◌, Bool, false, Option, Result, List, [], ◌∷◌, ℕ, ◌+◌, ◌≤◌, ◌<◌, ◌^◌, length, drop, drop_of_length-le, arith}
use Rattle.recording_text_fields.specs.declared.fault.Fault.{Fault}
use Rattle.recording_text_fields.specs.Pieces.{pieces, separator, lines, between, Ends}
use Rattle.recording_text_fields.proofs.Splits.{pieces_few}
use Rattle.recording_text_line.specs.declared.record.Record.{Record}
use Rattle.recording_text_line.specs.declared.said.Said.{Said}
use Rattle.recording_text_line.specs.Line.{says, dated_after, all_say}
use Rattle.recording_text_line.specs.Told.{said_of}
use Rattle.recording_text_line.specs.Left.{said_left}

each_says : (dated : Bool) (ls : List (List ℕ)) → length (all_say dated ls) ≡ length ls
unfolding all_say
each_says dated [] = omega arith
each_says dated (l ∷ ls) = omega (arith, each_says (dated_after dated (says dated l)) ls)

pub lines_few : (s : Said) → length (said_left s) < 2 ^ 63
lines_few s =
    let ls = s.lines in
    omega (arith, each_says s.dated (pieces (separator ls.inner) ls.left.now), pieces_few (separator ls.inner) ls.left.now, ls.few)

-- a line more, from its place on
pub line_more :
    (s : List ℕ) {a e : ℕ} → Ends (separator false) s a e → (dated : Bool) (r : Result (Option Record) Fault) → said_of r ≡ says dated (between a e s) → {next : Bool} →
    next ≡ dated_after dated (said_of r) → all_say dated (lines (drop a s)) ≡ said_of r ∷ all_say next (lines (drop (e + 1) s))
unfolding all_say
line_more s w dated r q n = ap (all_say dated) w.split ∙ rw (← q, n)

-- past the end there is none
pub no_line : (s : List ℕ) (dated : Bool) (i : ℕ) → length s ≤ i → all_say dated (lines (drop i s)) ≡ []
unfolding all_say pieces
no_line s dated i h = rw (drop_of_length-le s h)
