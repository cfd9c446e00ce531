-- Every line fits its room.
-- Assumes nothing.
use mathlib.Core.List.{List, [], ◌∷◌}
use Prim.Native.Nat.{ℕ, ◌*◌, ◌≤◌}
use native.Mathlib.Nat.{le_refl}
use native.Mathlib.Omega.{arith}
use lib.Dec.{eqb}
use lib.ListN.{length, take, length-take}
use Rattle.lists.proofs.Bools.{cond_of}
use Rattle.text_line.specs.Numeral.{number}
use Rattle.text_line.proofs.Pieces.{joined_joined, begun, no_piece}
use Rattle.text_line.proofs.Lengths.{long, number_long, end, piece, word, numeral, fits}
use Rattle.recording_lines.specs.Words.{text_at, text_cells, text_counts, text_link, text_newest, text_pointer, text_previous, text_read, text_refused, text_since, text_task}
use Rattle.recording_lines.specs.declared.Task.{Task}
use Rattle.recording_lines.specs.Lines.{numbers, phase, had_word, since_word, pointer, mark, named, read_line, refused_line, counts_line, task_line, link_line}

-- each cell has at most 21 bytes
numbers_long : (ns : List ℕ) → length (numbers ns) ≤ 21 * length ns
unfolding numbers
numbers_long [] = omega arith
numbers_long (n ∷ ns) = omega (arith, long (number n) (numbers ns) (number_long n) (numbers_long ns))

-- of ten
cells_long : (cells : List ℕ) → length (numbers (take 10 cells)) ≤ 210
cells_long cells = omega (arith, numbers_long (take 10 cells), length-take 10 cells)

-- no longer than n
abbrev Short : ℕ → List ℕ → Type 0
Short n w = length w ≤ n

-- a pointer's word or number
pointer_long : (p : ℕ) → length (pointer p) ≤ 21
unfolding pointer
pointer_long p = cond_of (Short 21) (eqb p 0) (omega arith) (number_long p)

-- a phase's word
phase_long : (p : ℕ) → length (phase p) ≤ 8
unfolding phase
phase_long p = cond_of (Short 8) (eqb p 1) (omega arith) (cond_of (Short 8) (eqb p 2) (omega arith) (cond_of (Short 8) (eqb p 0) (omega arith) (omega arith)))

-- the words for arrivals seen
had_long : (a : ℕ) → length (had_word a) ≤ 12
unfolding had_word
had_long a = cond_of (Short 12) (eqb a 0) (omega arith) (cond_of (Short 12) (eqb a 1) (omega arith) (cond_of (Short 12) (eqb a 2) (omega arith) (omega arith)))

-- the word for an arrival tick, and the tick
since_long : (policy p tick : ℕ) → length (since_word policy p tick) ≤ 27
unfolding since_word
since_long policy p tick = cond_of (Short 27) (eqb policy 0) (omega arith) (cond_of (Short 27) (eqb p 0) (omega arith) (long text_since (number tick) (le_refl _) (number_long tick)))

-- the word for a mark
mark_long : (m : ℕ) → length (mark m) ≤ 13
unfolding mark
mark_long m = cond_of (Short 13) (eqb m 0) (omega arith) (cond_of (Short 13) (eqb m 1) (omega arith) (omega arith))

pub named_fits : (w : List ℕ) (n : ℕ) → length w ≤ 8 → length (named w n) ≤ 384
named_fits w n h = fits 384 (piece w h (numeral n end)) (omega arith)

pub read_fits : (l v : ℕ) → length (read_line l v) ≤ 384
read_fits l v = fits 384 (word text_read (numeral l (numeral v end))) (omega arith)

pub refused_fits : (r p : ℕ) → length (refused_line r p) ≤ 384
refused_fits r p = fits 384 (word text_refused (numeral r (word text_at (numeral p end)))) (omega arith)

pub counts_fit : (a s r f : ℕ) → length (counts_line a s r f) ≤ 384
counts_fit a s r f = fits 384 (word text_counts (numeral a (numeral s (numeral r (numeral f end))))) (omega arith)

pub link_fits : (l p m : ℕ) → length (link_line l p m) ≤ 384
link_fits l p m = fits 384 (word text_link (numeral l (word text_pointer (piece (pointer p) (pointer_long p) (piece (mark m) (mark_long m) end))))) (omega arith)

pub task_fits : (t : Task) (cells : List ℕ) → length (task_line t cells) ≤ 384
task_fits t cells =
    let since = piece (since_word t.policy t.phase t.since) (since_long t.policy t.phase t.since) end in
    let last = word text_cells (piece (numbers (take 10 cells)) (cells_long cells) (piece (had_word t.seen) (had_long t.seen) since)) in
    let places = word text_newest (numeral t.newest (word text_previous (numeral t.previous last))) in
    fits 384 (word text_task (numeral t.number (piece (phase t.phase) (phase_long t.phase) places))) (omega arith)

-- what the functions cite that put few pieces one after the other, all of which fit
pub ruleset pieces = (joined_joined, begun, no_piece, named_fits, read_fits, refused_fits)
