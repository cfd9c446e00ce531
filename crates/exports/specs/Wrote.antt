-- The answer to what is handed over to be written, as the parts that a host lends.
-- Assumes nothing.
use Rattle.std.specs.Prelude.{◌≡◌, List, ℕ, length}
use Rattle.recording_write.specs.Answers.{reply_to, buffer_to}

-- told a kind, for the numbers ds of the tasks, lw of the links and ew of the events: the refusal r and the place m are those of the reply, and the bytes
-- after it are those of the recording where it is written, else the bytes lent
pub record Wrote (told : ℕ) (ds lw ew old : List ℕ) (r m : ℕ) (new : List ℕ) : Type 0 where
  pub refusal : r ≡ (reply_to told ds lw ew (length old)).refusal
  pub place : m ≡ (reply_to told ds lw ew (length old)).place
  pub bytes : new ≡ buffer_to told ds lw ew old
