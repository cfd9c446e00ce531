-- The lines of refusals, computed from the definitions. The text has seven lines, the last with no line feed: a remark, the kind, a link, a task, an arrival,
-- a task, a finish.
-- Assumes nothing.
use mathlib.Core.Path.{◌≡◌, refl}
use mathlib.Core.List.{[], ◌∷◌}
use Rattle.recording_format.specs.declared.WhichKind.TheVariants.{Base, Wide, Dated}
use Rattle.recording_text_fields.specs.Pieces.{pieces, filled}
use Rattle.recording_text_fields.specs.Numeral.{all_digits, value_from, number_fault, first_fault, field_values, set_with}
use Rattle.recording_text_line.specs.Line.{sort, record_of, lettered, letter_says, event_says, tick_says, fields_say, all_say}
use Rattle.recording_text_place.specs.Place.{bytes_of, all_bytes, line_after, kind_or_task, refusal_line, line_of}

-- its link begins at 11 and its first event at 20; its second event at 23, where an arrival has 3 bytes
second_event : line_of Base (35 ∷ 10 ∷ 75 ∷ 32 ∷ 50 ∷ 53 ∷ 51 ∷ 10 ∷ 76 ∷ 32 ∷ 48 ∷ 32 ∷ 49 ∷ 32 ∷ 48 ∷ 32 ∷ 48 ∷ 10 ∷ 84 ∷ 32 ∷ 55 ∷ 10 ∷ 65 ∷ 32 ∷ 48 ∷ 32 ∷ 49 ∷ 10 ∷ 84 ∷ 32 ∷ 48 ∷ 10 ∷ 70 ∷ 32 ∷ 48 ∷ 32 ∷ 52 ∷ 50 ∷ []) 12 23 ≡ 7
unfolding pieces filled all_digits value_from number_fault first_fault field_values set_with sort record_of lettered letter_says event_says tick_says fields_say all_say bytes_of all_bytes line_after kind_or_task refusal_line
second_event = refl

-- and at 25, where it has 5
wide_event : line_of Wide (35 ∷ 10 ∷ 75 ∷ 32 ∷ 50 ∷ 53 ∷ 52 ∷ 10 ∷ 76 ∷ 32 ∷ 48 ∷ 32 ∷ 49 ∷ 32 ∷ 48 ∷ 32 ∷ 48 ∷ 10 ∷ 84 ∷ 32 ∷ 55 ∷ 10 ∷ 65 ∷ 32 ∷ 48 ∷ 32 ∷ 49 ∷ 10 ∷ 84 ∷ 32 ∷ 48 ∷ 10 ∷ 70 ∷ 32 ∷ 48 ∷ 32 ∷ 52 ∷ 50 ∷ []) 12 25 ≡ 7
unfolding pieces filled all_digits value_from number_fault first_fault field_values set_with sort record_of lettered letter_says event_says tick_says fields_say all_say bytes_of all_bytes line_after kind_or_task refusal_line
wide_event = refl

-- in a dated recording a task has 6 bytes and an arrival 9, so that the second event begins at 33
dated_event : line_of Dated (35 ∷ 10 ∷ 75 ∷ 32 ∷ 50 ∷ 53 ∷ 53 ∷ 10 ∷ 76 ∷ 32 ∷ 48 ∷ 32 ∷ 49 ∷ 32 ∷ 48 ∷ 32 ∷ 48 ∷ 10 ∷ 84 ∷ 32 ∷ 55 ∷ 32 ∷ 53 ∷ 48 ∷ 10 ∷ 53 ∷ 32 ∷ 65 ∷ 32 ∷ 48 ∷ 32 ∷ 49 ∷ 10 ∷ 84 ∷ 32 ∷ 48 ∷ 32 ∷ 57 ∷ 10 ∷ 56 ∷ 32 ∷ 70 ∷ 32 ∷ 48 ∷ 32 ∷ 52 ∷ 50 ∷ []) 23 33 ≡ 7
unfolding pieces filled all_digits value_from number_fault first_fault field_values set_with sort record_of lettered letter_says event_says tick_says fields_say all_say bytes_of all_bytes line_after kind_or_task refusal_line
dated_event = refl

-- and the second task at 8
its_task : line_of Dated (35 ∷ 10 ∷ 75 ∷ 32 ∷ 50 ∷ 53 ∷ 53 ∷ 10 ∷ 76 ∷ 32 ∷ 48 ∷ 32 ∷ 49 ∷ 32 ∷ 48 ∷ 32 ∷ 48 ∷ 10 ∷ 84 ∷ 32 ∷ 55 ∷ 32 ∷ 53 ∷ 48 ∷ 10 ∷ 53 ∷ 32 ∷ 65 ∷ 32 ∷ 48 ∷ 32 ∷ 49 ∷ 10 ∷ 84 ∷ 32 ∷ 48 ∷ 32 ∷ 57 ∷ 10 ∷ 56 ∷ 32 ∷ 70 ∷ 32 ∷ 48 ∷ 32 ∷ 52 ∷ 50 ∷ []) 24 8 ≡ 6
unfolding pieces filled all_digits value_from number_fault first_fault field_values set_with sort record_of lettered letter_says event_says tick_says fields_say all_say bytes_of all_bytes line_after kind_or_task refusal_line
its_task = refl

its_link : line_of Base (35 ∷ 10 ∷ 75 ∷ 32 ∷ 50 ∷ 53 ∷ 51 ∷ 10 ∷ 76 ∷ 32 ∷ 48 ∷ 32 ∷ 49 ∷ 32 ∷ 48 ∷ 32 ∷ 48 ∷ 10 ∷ 84 ∷ 32 ∷ 55 ∷ 10 ∷ 65 ∷ 32 ∷ 48 ∷ 32 ∷ 49 ∷ 10 ∷ 84 ∷ 32 ∷ 48 ∷ 10 ∷ 70 ∷ 32 ∷ 48 ∷ 32 ∷ 52 ∷ 50 ∷ []) 20 11 ≡ 3
unfolding pieces filled all_digits value_from number_fault first_fault field_values set_with sort record_of lettered letter_says event_says tick_says fields_say all_say bytes_of all_bytes line_after kind_or_task refusal_line
its_link = refl

-- 2 at 0 is the kind; elsewhere it is the seventeenth task, which is not there
unknown_kind : line_of Base (35 ∷ 10 ∷ 75 ∷ 32 ∷ 50 ∷ 53 ∷ 50 ∷ 10 ∷ 76 ∷ 32 ∷ 48 ∷ 32 ∷ 49 ∷ 32 ∷ 48 ∷ 32 ∷ 48 ∷ 10 ∷ 84 ∷ 32 ∷ 55 ∷ 10 ∷ 65 ∷ 32 ∷ 48 ∷ 32 ∷ 49 ∷ 10 ∷ 84 ∷ 32 ∷ 48 ∷ 10 ∷ 70 ∷ 32 ∷ 48 ∷ 32 ∷ 52 ∷ 50 ∷ []) 2 0 ≡ 2
unfolding pieces filled all_digits value_from number_fault first_fault field_values set_with sort record_of lettered letter_says event_says tick_says fields_say all_say bytes_of all_bytes line_after kind_or_task refusal_line
unknown_kind = refl

no_seventeenth : line_of Base (35 ∷ 10 ∷ 75 ∷ 32 ∷ 50 ∷ 53 ∷ 51 ∷ 10 ∷ 76 ∷ 32 ∷ 48 ∷ 32 ∷ 49 ∷ 32 ∷ 48 ∷ 32 ∷ 48 ∷ 10 ∷ 84 ∷ 32 ∷ 55 ∷ 10 ∷ 65 ∷ 32 ∷ 48 ∷ 32 ∷ 49 ∷ 10 ∷ 84 ∷ 32 ∷ 48 ∷ 10 ∷ 70 ∷ 32 ∷ 48 ∷ 32 ∷ 52 ∷ 50 ∷ []) 2 1 ≡ 8
unfolding pieces filled all_digits value_from number_fault first_fault field_values set_with sort record_of lettered letter_says event_says tick_says fields_say all_say bytes_of all_bytes line_after kind_or_task refusal_line
no_seventeenth = refl

-- `K 254` and 33 tasks: the last is the one past the limit; with the limit of the other kind it would be the seventeenth
thirty_third : line_of Wide (75 ∷ 32 ∷ 50 ∷ 53 ∷ 52 ∷ 10 ∷ 84 ∷ 32 ∷ 48 ∷ 10 ∷ 84 ∷ 32 ∷ 48 ∷ 10 ∷ 84 ∷ 32 ∷ 48 ∷ 10 ∷ 84 ∷ 32 ∷ 48 ∷ 10 ∷ 84 ∷ 32 ∷ 48 ∷ 10 ∷ 84 ∷ 32 ∷ 48 ∷ 10 ∷ 84 ∷ 32 ∷ 48 ∷ 10 ∷ 84 ∷ 32 ∷ 48 ∷ 10 ∷ 84 ∷ 32 ∷ 48 ∷ 10 ∷ 84 ∷ 32 ∷ 48 ∷ 10 ∷ 84 ∷ 32 ∷ 48 ∷ 10 ∷ 84 ∷ 32 ∷ 48 ∷ 10 ∷ 84 ∷ 32 ∷ 48 ∷ 10 ∷ 84 ∷ 32 ∷ 48 ∷ 10 ∷ 84 ∷ 32 ∷ 48 ∷ 10 ∷ 84 ∷ 32 ∷ 48 ∷ 10 ∷ 84 ∷ 32 ∷ 48 ∷ 10 ∷ 84 ∷ 32 ∷ 48 ∷ 10 ∷ 84 ∷ 32 ∷ 48 ∷ 10 ∷ 84 ∷ 32 ∷ 48 ∷ 10 ∷ 84 ∷ 32 ∷ 48 ∷ 10 ∷ 84 ∷ 32 ∷ 48 ∷ 10 ∷ 84 ∷ 32 ∷ 48 ∷ 10 ∷ 84 ∷ 32 ∷ 48 ∷ 10 ∷ 84 ∷ 32 ∷ 48 ∷ 10 ∷ 84 ∷ 32 ∷ 48 ∷ 10 ∷ 84 ∷ 32 ∷ 48 ∷ 10 ∷ 84 ∷ 32 ∷ 48 ∷ 10 ∷ 84 ∷ 32 ∷ 48 ∷ 10 ∷ 84 ∷ 32 ∷ 48 ∷ 10 ∷ 84 ∷ 32 ∷ 48 ∷ 10 ∷ 84 ∷ 32 ∷ 48 ∷ 10 ∷ 84 ∷ 32 ∷ 48 ∷ []) 2 1 ≡ 34
unfolding pieces filled all_digits value_from number_fault first_fault field_values set_with sort record_of lettered letter_says event_says tick_says fields_say all_say bytes_of all_bytes line_after kind_or_task refusal_line
thirty_third = refl

seventeenth : line_of Base (75 ∷ 32 ∷ 50 ∷ 53 ∷ 52 ∷ 10 ∷ 84 ∷ 32 ∷ 48 ∷ 10 ∷ 84 ∷ 32 ∷ 48 ∷ 10 ∷ 84 ∷ 32 ∷ 48 ∷ 10 ∷ 84 ∷ 32 ∷ 48 ∷ 10 ∷ 84 ∷ 32 ∷ 48 ∷ 10 ∷ 84 ∷ 32 ∷ 48 ∷ 10 ∷ 84 ∷ 32 ∷ 48 ∷ 10 ∷ 84 ∷ 32 ∷ 48 ∷ 10 ∷ 84 ∷ 32 ∷ 48 ∷ 10 ∷ 84 ∷ 32 ∷ 48 ∷ 10 ∷ 84 ∷ 32 ∷ 48 ∷ 10 ∷ 84 ∷ 32 ∷ 48 ∷ 10 ∷ 84 ∷ 32 ∷ 48 ∷ 10 ∷ 84 ∷ 32 ∷ 48 ∷ 10 ∷ 84 ∷ 32 ∷ 48 ∷ 10 ∷ 84 ∷ 32 ∷ 48 ∷ 10 ∷ 84 ∷ 32 ∷ 48 ∷ 10 ∷ 84 ∷ 32 ∷ 48 ∷ 10 ∷ 84 ∷ 32 ∷ 48 ∷ 10 ∷ 84 ∷ 32 ∷ 48 ∷ 10 ∷ 84 ∷ 32 ∷ 48 ∷ 10 ∷ 84 ∷ 32 ∷ 48 ∷ 10 ∷ 84 ∷ 32 ∷ 48 ∷ 10 ∷ 84 ∷ 32 ∷ 48 ∷ 10 ∷ 84 ∷ 32 ∷ 48 ∷ 10 ∷ 84 ∷ 32 ∷ 48 ∷ 10 ∷ 84 ∷ 32 ∷ 48 ∷ 10 ∷ 84 ∷ 32 ∷ 48 ∷ 10 ∷ 84 ∷ 32 ∷ 48 ∷ 10 ∷ 84 ∷ 32 ∷ 48 ∷ 10 ∷ 84 ∷ 32 ∷ 48 ∷ 10 ∷ 84 ∷ 32 ∷ 48 ∷ 10 ∷ 84 ∷ 32 ∷ 48 ∷ []) 2 1 ≡ 18
unfolding pieces filled all_digits value_from number_fault first_fault field_values set_with sort record_of lettered letter_says event_says tick_says fields_say all_say bytes_of all_bytes line_after kind_or_task refusal_line
seventeenth = refl

-- an empty text has no task
empty : line_of Base [] 2 1 ≡ 1
unfolding pieces filled all_digits value_from number_fault first_fault field_values set_with sort record_of lettered letter_says event_says tick_says fields_say all_say bytes_of all_bytes line_after kind_or_task refusal_line
empty = refl
