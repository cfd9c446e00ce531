-- What texts say, computed from the definitions.
-- Assumes nothing.
use mathlib.Core.Path.{◌≡◌, refl}
use mathlib.Core.List.{[], ◌∷◌}
use Rattle.recording_text_fields.specs.Pieces.{pieces, filled}
use Rattle.recording_text_fields.specs.Numeral.{all_digits, value_from, number_fault, first_fault, field_values, set_with}
use Rattle.recording_text_line.specs.Line.{sort, record_of, lettered, letter_says, event_says, tick_says, fields_say, all_say}
use Rattle.recording_text.specs.Text.{fault_in, readable, text_fault, records_of, joined, stored, answer_of, read_of, tasks_of, events_of}

-- a text of seven lines, the last with no line feed: a remark, the kind, tasks 7 and 0, one link, two events
whole : read_of (35 ∷ 10 ∷ 75 ∷ 32 ∷ 50 ∷ 53 ∷ 51 ∷ 10 ∷ 76 ∷ 32 ∷ 48 ∷ 32 ∷ 49 ∷ 32 ∷ 48 ∷ 32 ∷ 48 ∷ 10 ∷ 84 ∷ 32 ∷ 55 ∷ 10 ∷ 65 ∷ 32 ∷ 48 ∷ 32 ∷ 49 ∷ 10 ∷ 84 ∷ 32 ∷ 48 ∷ 10 ∷ 70 ∷ 32 ∷ 48 ∷ 32 ∷ 52 ∷ 50 ∷ []) ≡ answer_of 0 0 253 2 4 5
unfolding pieces filled all_digits value_from number_fault first_fault field_values set_with sort record_of lettered letter_says event_says tick_says fields_say all_say fault_in readable text_fault records_of joined stored read_of
whole = refl

numbers : events_of (35 ∷ 10 ∷ 75 ∷ 32 ∷ 50 ∷ 53 ∷ 51 ∷ 10 ∷ 76 ∷ 32 ∷ 48 ∷ 32 ∷ 49 ∷ 32 ∷ 48 ∷ 32 ∷ 48 ∷ 10 ∷ 84 ∷ 32 ∷ 55 ∷ 10 ∷ 65 ∷ 32 ∷ 48 ∷ 32 ∷ 49 ∷ 10 ∷ 84 ∷ 32 ∷ 48 ∷ 10 ∷ 70 ∷ 32 ∷ 48 ∷ 32 ∷ 52 ∷ 50 ∷ []) ≡ 1 ∷ 3 ∷ 4 ∷ 0 ∷ 42 ∷ []
unfolding pieces filled all_digits value_from number_fault first_fault field_values set_with sort record_of lettered letter_says event_says tick_says fields_say all_say fault_in readable text_fault records_of joined stored read_of
numbers = refl

-- the same of the other kind, with task 31 in the place of task 1
wide : read_of (35 ∷ 10 ∷ 75 ∷ 32 ∷ 50 ∷ 53 ∷ 52 ∷ 10 ∷ 76 ∷ 32 ∷ 48 ∷ 32 ∷ 49 ∷ 32 ∷ 48 ∷ 32 ∷ 48 ∷ 10 ∷ 84 ∷ 32 ∷ 55 ∷ 10 ∷ 65 ∷ 32 ∷ 48 ∷ 32 ∷ 51 ∷ 49 ∷ 10 ∷ 84 ∷ 32 ∷ 48 ∷ 10 ∷ 70 ∷ 32 ∷ 48 ∷ 32 ∷ 52 ∷ 50 ∷ []) ≡ answer_of 0 0 254 2 4 5
unfolding pieces filled all_digits value_from number_fault first_fault field_values set_with sort record_of lettered letter_says event_says tick_says fields_say all_say fault_in readable text_fault records_of joined stored read_of
wide = refl

wide_numbers : events_of (35 ∷ 10 ∷ 75 ∷ 32 ∷ 50 ∷ 53 ∷ 52 ∷ 10 ∷ 76 ∷ 32 ∷ 48 ∷ 32 ∷ 49 ∷ 32 ∷ 48 ∷ 32 ∷ 48 ∷ 10 ∷ 84 ∷ 32 ∷ 55 ∷ 10 ∷ 65 ∷ 32 ∷ 48 ∷ 32 ∷ 51 ∷ 49 ∷ 10 ∷ 84 ∷ 32 ∷ 48 ∷ 10 ∷ 70 ∷ 32 ∷ 48 ∷ 32 ∷ 52 ∷ 50 ∷ []) ≡ 1 ∷ 2147483649 ∷ 4 ∷ 0 ∷ 42 ∷ []
unfolding pieces filled all_digits value_from number_fault first_fault field_values set_with sort record_of lettered letter_says event_says tick_says fields_say all_say fault_in readable text_fault records_of joined stored read_of
wide_numbers = refl

-- the same of the dated kind, with deadlines 50 and 9 and ticks 5 and 8
dated : read_of (35 ∷ 10 ∷ 75 ∷ 32 ∷ 50 ∷ 53 ∷ 53 ∷ 10 ∷ 76 ∷ 32 ∷ 48 ∷ 32 ∷ 49 ∷ 32 ∷ 48 ∷ 32 ∷ 48 ∷ 10 ∷ 84 ∷ 32 ∷ 55 ∷ 32 ∷ 53 ∷ 48 ∷ 10 ∷ 53 ∷ 32 ∷ 65 ∷ 32 ∷ 48 ∷ 32 ∷ 49 ∷ 10 ∷ 84 ∷ 32 ∷ 48 ∷ 32 ∷ 57 ∷ 10 ∷ 56 ∷ 32 ∷ 70 ∷ 32 ∷ 48 ∷ 32 ∷ 52 ∷ 50 ∷ []) ≡ answer_of 0 0 255 4 4 7
unfolding pieces filled all_digits value_from number_fault first_fault field_values set_with sort record_of lettered letter_says event_says tick_says fields_say all_say fault_in readable text_fault records_of joined stored read_of
dated = refl

dated_tasks : tasks_of (35 ∷ 10 ∷ 75 ∷ 32 ∷ 50 ∷ 53 ∷ 53 ∷ 10 ∷ 76 ∷ 32 ∷ 48 ∷ 32 ∷ 49 ∷ 32 ∷ 48 ∷ 32 ∷ 48 ∷ 10 ∷ 84 ∷ 32 ∷ 55 ∷ 32 ∷ 53 ∷ 48 ∷ 10 ∷ 53 ∷ 32 ∷ 65 ∷ 32 ∷ 48 ∷ 32 ∷ 49 ∷ 10 ∷ 84 ∷ 32 ∷ 48 ∷ 32 ∷ 57 ∷ 10 ∷ 56 ∷ 32 ∷ 70 ∷ 32 ∷ 48 ∷ 32 ∷ 52 ∷ 50 ∷ []) ≡ 7 ∷ 50 ∷ 0 ∷ 9 ∷ []
unfolding pieces filled all_digits value_from number_fault first_fault field_values set_with sort record_of lettered letter_says event_says tick_says fields_say all_say fault_in readable text_fault records_of joined stored read_of
dated_tasks = refl

dated_events : events_of (35 ∷ 10 ∷ 75 ∷ 32 ∷ 50 ∷ 53 ∷ 53 ∷ 10 ∷ 76 ∷ 32 ∷ 48 ∷ 32 ∷ 49 ∷ 32 ∷ 48 ∷ 32 ∷ 48 ∷ 10 ∷ 84 ∷ 32 ∷ 55 ∷ 32 ∷ 53 ∷ 48 ∷ 10 ∷ 53 ∷ 32 ∷ 65 ∷ 32 ∷ 48 ∷ 32 ∷ 49 ∷ 10 ∷ 84 ∷ 32 ∷ 48 ∷ 32 ∷ 57 ∷ 10 ∷ 56 ∷ 32 ∷ 70 ∷ 32 ∷ 48 ∷ 32 ∷ 52 ∷ 50 ∷ []) ≡ 1 ∷ 5 ∷ 3 ∷ 4 ∷ 8 ∷ 0 ∷ 42 ∷ []
unfolding pieces filled all_digits value_from number_fault first_fault field_values set_with sort record_of lettered letter_says event_says tick_says fields_say all_say fault_in readable text_fault records_of joined stored read_of
dated_events = refl

-- `K 255`, `S 0`: an event without its tick
no_tick : read_of (75 ∷ 32 ∷ 50 ∷ 53 ∷ 53 ∷ 10 ∷ 83 ∷ 32 ∷ 48 ∷ []) ≡ answer_of 1 2 255 0 0 0
unfolding pieces filled all_digits value_from number_fault first_fault field_values set_with sort record_of lettered letter_says event_says tick_says fields_say all_say fault_in readable text_fault records_of joined stored read_of
no_tick = refl

-- `K 254`, `5 S 0`: a tick where there are none
plain_tick : read_of (75 ∷ 32 ∷ 50 ∷ 53 ∷ 52 ∷ 10 ∷ 53 ∷ 32 ∷ 83 ∷ 32 ∷ 48 ∷ []) ≡ answer_of 1 2 254 0 0 0
unfolding pieces filled all_digits value_from number_fault first_fault field_values set_with sort record_of lettered letter_says event_says tick_says fields_say all_say fault_in readable text_fault records_of joined stored read_of
plain_tick = refl

-- `T 7`, `K 253`: the first line that says something does not say the kind
no_kind_lem : read_of (84 ∷ 32 ∷ 55 ∷ 10 ∷ 75 ∷ 32 ∷ 50 ∷ 53 ∷ 51 ∷ []) ≡ answer_of 6 1 0 0 0 0
unfolding pieces filled all_digits value_from number_fault first_fault field_values set_with sort record_of lettered letter_says event_says tick_says fields_say all_say fault_in readable text_fault records_of joined stored read_of
no_kind_lem = refl

-- `K 253`, `T 7`, `K 253`: it is said again
two_kinds : read_of (75 ∷ 32 ∷ 50 ∷ 53 ∷ 51 ∷ 10 ∷ 84 ∷ 32 ∷ 55 ∷ 10 ∷ 75 ∷ 32 ∷ 50 ∷ 53 ∷ 51 ∷ []) ≡ answer_of 6 3 253 1 0 0
unfolding pieces filled all_digits value_from number_fault first_fault field_values set_with sort record_of lettered letter_says event_says tick_says fields_say all_say fault_in readable text_fault records_of joined stored read_of
two_kinds = refl

-- `T x`: a fault of the line itself comes first
own_fault : read_of (84 ∷ 32 ∷ 120 ∷ []) ≡ answer_of 2 1 0 0 0 0
unfolding pieces filled all_digits value_from number_fault first_fault field_values set_with sort record_of lettered letter_says event_says tick_says fields_say all_say fault_in readable text_fault records_of joined stored read_of
own_fault = refl

-- a remark and a blank line: the kind is missed at the line after the last
nothing_said : read_of (35 ∷ 10 ∷ 10 ∷ []) ≡ answer_of 6 3 0 0 0 0
unfolding pieces filled all_digits value_from number_fault first_fault field_values set_with sort record_of lettered letter_says event_says tick_says fields_say all_say fault_in readable text_fault records_of joined stored read_of
nothing_said = refl

empty : read_of [] ≡ answer_of 6 1 0 0 0 0
unfolding pieces filled all_digits value_from number_fault first_fault field_values set_with sort record_of lettered letter_says event_says tick_says fields_say all_say fault_in readable text_fault records_of joined stored read_of
empty = refl
