-- What stands in a line, and a lent buffer with a line.
-- Assumes nothing.
use Rattle.std.specs.Prelude.{◌≡◌, cond, List, [], ◌∷◌, ◌++◌, ℕ, ◌+◌, ◌-◌, min, leb, length, take, drop, replicate}
use Rattle.std.proofs.Math.Seq.{paste}
use Rattle.text_line.specs.declared.Line.{Line}

-- a line with nothing in it
abbrev pub empty_line : Line
empty_line = record { bytes = replicate 384 0; size = 0 }

-- how many bytes are there
abbrev pub filled : Line → ℕ
filled l = min l.size 384

-- for how many bytes of a text there is room behind them
abbrev pub room_for : Line → List ℕ → ℕ
room_for l text = min (384 - filled l) (length text)

-- a line with a text more: as much of it as has room goes behind what is there
abbrev pub with_text : Line → List ℕ → Line
with_text l text = record { bytes = paste l.bytes (filled l) text (room_for l text); size = filled l + room_for l text }

-- the bytes that are there
abbrev pub shown : Line → List ℕ
shown l = take l.size l.bytes

-- a line with one piece more: what no longer fits its room is cut off
unfoldable pub joined : List ℕ → List ℕ → List ℕ
joined line piece = take 384 (line ++ piece)

-- the line feed
abbrev pub feed : List ℕ
feed = 10 ∷ []

-- a line's pieces one after the other, then the line feed
abbrev pub line_of : List (List ℕ) → List ℕ
line_of [] = feed
line_of (p ∷ ps) = p ++ line_of ps

-- how much of a buffer a line takes: all of it, or none where there is no room
abbrev pub fit : ℕ → ℕ → ℕ
fit n room = cond (leb n room) n 0

-- the line is at the start of the buffer, and r its length; where it has no room, the buffer is as it was, and r is 0
pub record Put (line old : List ℕ) (r : ℕ) (new : List ℕ) : Type 0 where
  pub count : r ≡ fit (length line) (length old)
  pub bytes : new ≡ cond (leb (length line) (length old)) (line ++ drop (length line) old) old
