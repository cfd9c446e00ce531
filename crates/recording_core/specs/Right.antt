-- What holds of a replay after each accepted event: the state, the counts and the list are right.
-- Assumes nothing.
use Rattle.std.specs.Prelude.{◌≡◌, List, ℕ, ◌≤◌, length}
use Rattle.protocol.specs.History.{reads, counts}
use Rattle.protocol.specs.ZeroTime.{ideals}
use Rattle.protocol_deadlines.specs.Timed.{Timed, untimed}
use Rattle.protocol_state.specs.Saved.{Size, Saved, ahead_in, table}
use Rattle.protocol_state.specs.Reached.{Reached}
use Rattle.recording_core.specs.Playing.{Playing}
use Rattle.recording_core.specs.Promise.{placed}

-- what holds of the state q of a replay after the history H, from the fresh state q₀ on, with the lent list out: positions, pointers and
-- mailboxes are the published protocol's; the counts are those of the history; "the list's first entries hold the numbers read, the rest is untouched"
pub record Right (size : Size) (q₀ : Saved) (out : List ℕ) (H : List (Timed ℕ)) (q : Playing) : Type 0 where
  pub reached : Reached (ahead_in q₀) size q₀ (record { state = q.state; history = H; numbers = ideals (table (ahead_in q₀) q₀) (untimed H) })
  pub counts : q.counts ≡ counts (table (ahead_in q₀) q₀) (untimed H)
  pub list : q.list ≡ placed (ideals (table (ahead_in q₀) q₀) (untimed H)) out
  pub room : reads (untimed H) ≤ length out
