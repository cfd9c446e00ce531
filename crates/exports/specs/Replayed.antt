-- The answer to a whole recording, as the parts that a host lends.
-- Assumes nothing.
use Rattle.std.specs.Prelude.{◌≡◌, List, [], ◌∷◌, ℕ}
use Rattle.protocol.specs.History.{Counts}
use Rattle.protocol_state.specs.Saved.{Saved, state_room}
use Rattle.recording_format.specs.RecordingKind.{kind_in}
use Rattle.byte_format.specs.Play.{Verdict}
use Rattle.recording_format.specs.Recording.{recording}
use Rattle.recording_core.specs.Playing.{Playing, core_of}

-- the recording's reply to the bytes s, with the lent list `out`
abbrev pub host_reply : List ℕ → List ℕ → Verdict Playing
host_reply s out = recording (kind_in s) (core_of state_room (kind_in s).policy out) s

-- the four counts in their order
abbrev pub counts_in : Counts → List ℕ
counts_in c = c.arrivals ∷ (c.starts ∷ (c.reads ∷ (c.finishes ∷ [])))

-- the refusal r, the place m, the counts cs, the state q and the list out' are those of the reply
pub record Replayed (s out : List ℕ) (r m : ℕ) (cs : List ℕ) (q : Saved) (out' : List ℕ) : Type 0 where
  pub refusal : r ≡ (host_reply s out).refusal
  pub place : m ≡ (host_reply s out).place
  pub counts : cs ≡ counts_in (host_reply s out).state.counts
  pub state : q ≡ (host_reply s out).state.state
  pub list : out' ≡ (host_reply s out).state.list
