-- The line of a setting: by its kind, with the bits of its float or its count.
-- Assumes nothing.
use Rattle.std.specs.Prelude.{List, ℕ}
use Rattle.std.specs.Float.{binary64}
use Rattle.std.specs.Float.Ieee.{to_bits}
use Rattle.settings_entry.specs.declared.Setting.{Setting}
use Rattle.settings_entry.specs.declared.Setting.TheVariants.{Margin, Feed, Count}
use Rattle.settings_lines.specs.Lines.{margin_line, feed_line, count_line}

abbrev pub setting_line : ℕ → Setting → List ℕ
setting_line i (Margin x) = margin_line i (to_bits binary64 x)
setting_line i (Feed x) = feed_line i (to_bits binary64 x)
setting_line i (Count n) = count_line i n
