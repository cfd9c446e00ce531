-- What is answered of a float in decimal.
-- Assumes nothing.
use Rattle.std.specs.Prelude.{Option, Some, None, cond, ℕ}
use Rattle.settings_decimal.specs.declared.Decimal.{Decimal}
use Rattle.settings_decimal.specs.Decimal.{large, millionths, cut_off}

-- none where it is large, else its whole millionths and whether there is more
unfoldable pub decimal_of : ℕ → Option Decimal
decimal_of b = cond (large b) None (Some (record { millionths = millionths b; cut = cut_off b }))
