-- The output of a run, by the history alone.
-- Assumes nothing.
use Rattle.std.specs.Prelude.{List, ◌∷◌, ℕ, suc}
use Rattle.protocol.specs.Event.{Event, finish}
use Rattle.protocol.specs.Table.{Table}
use Rattle.protocol.specs.History.{finishes}

-- run number k of task w finished in the history h, with the value v
pub data Gave (w : ℕ) : List (Event ℕ) → ℕ → ℕ → Type 0 where
  last : (h : List (Event ℕ)) (v : ℕ) → Gave w (finish w v ∷ h) (suc (finishes h w)) v
  earlier : {h : List (Event ℕ)} {k v : ℕ} (e : Event ℕ) → Gave w h k v → Gave w (e ∷ h) k v

-- n is the output of task w's run number k (the run of its arrival number k), which has finished; "where there was none, the writer's default"
pub data Output (T : Table ℕ) (h : List (Event ℕ)) (w : ℕ) : ℕ → ℕ → Type 0 where
  none : Output T h w 0 (T.default w)
  output : {k n : ℕ} → Gave w h k n → Output T h w k n
