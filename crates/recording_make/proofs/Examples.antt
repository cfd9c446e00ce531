-- Texts and their recordings, computed from the definitions.
-- Assumes nothing.
use mathlib.Core.Path.{◌≡◌, refl}
use mathlib.Core.List.{[], ◌∷◌}
use Rattle.lists.specs.Lists.{some, count}
use Rattle.protocol_deadlines.specs.Deadline.{smaller, ahead_by}
use Rattle.protocol_state.specs.Fresh.{fresh_of}
use Rattle.protocol_state.specs.Decision.{decided}
use Rattle.protocol_state.specs.Judge.{judged_task, judged_on_at}
use Rattle.byte_format.specs.Number.{bytes_of}
use Rattle.byte_format.specs.Format.{encodes}
use Rattle.byte_format.specs.Kinded.{first_byte}
use Rattle.byte_format.specs.Handed.{at_most, weighed, weighed_section}
use Rattle.recording_format.specs.Link.{link_fault}
use Rattle.recording_format.specs.Writing.{table_weighed, recording_weighed, writing, buffer_after}
use Rattle.recording_text_fields.specs.Pieces.{pieces, filled}
use Rattle.recording_text_fields.specs.Numeral.{all_digits, value_from, number_fault, first_fault, field_values}
use Rattle.recording_text_line.specs.Line.{sort, record_of, lettered, letter_says, event_says, tick_says, fields_say, all_say}
use Rattle.recording_text.specs.Text.{fault_in, readable, text_fault, records_of, joined, stored, read_of}
use Rattle.recording_text_place.specs.Place.{bytes_of as record_bytes, all_bytes, line_after, kind_or_task, refusal_line}
use Rattle.recording_make.specs.Made.{line_told, made_of, buffer_of}

-- `K 253`, `T 7` in room for ten bytes: the nine of its recording, and the tenth as it was
one_task : buffer_of (75 ∷ 32 ∷ 50 ∷ 53 ∷ 51 ∷ 10 ∷ 84 ∷ 32 ∷ 55 ∷ []) (9 ∷ 9 ∷ 9 ∷ 9 ∷ 9 ∷ 9 ∷ 9 ∷ 9 ∷ 9 ∷ 9 ∷ []) ≡ 253 ∷ 1 ∷ 7 ∷ 0 ∷ 0 ∷ 0 ∷ 0 ∷ 0 ∷ 0 ∷ 9 ∷ []
unfolding pieces filled all_digits value_from number_fault first_fault field_values sort record_of lettered letter_says event_says tick_says fields_say all_say readable fault_in text_fault records_of joined stored read_of bytes_of encodes at_most weighed weighed_section table_weighed recording_weighed writing buffer_after buffer_of
one_task = refl

-- `K 254`, `T 7`: the first byte of the wide kind
wide_task : buffer_of (75 ∷ 32 ∷ 50 ∷ 53 ∷ 52 ∷ 10 ∷ 84 ∷ 32 ∷ 55 ∷ []) (9 ∷ 9 ∷ 9 ∷ 9 ∷ 9 ∷ 9 ∷ 9 ∷ 9 ∷ 9 ∷ 9 ∷ []) ≡ 254 ∷ 1 ∷ 7 ∷ 0 ∷ 0 ∷ 0 ∷ 0 ∷ 0 ∷ 0 ∷ 9 ∷ []
unfolding pieces filled all_digits value_from number_fault first_fault field_values sort record_of lettered letter_says event_says tick_says fields_say all_say readable fault_in text_fault records_of joined stored read_of bytes_of encodes at_most weighed weighed_section table_weighed recording_weighed writing buffer_after buffer_of
wide_task = refl

-- `K 255`, `T 7 9`: the relative deadline behind the default
dated_task : buffer_of (75 ∷ 32 ∷ 50 ∷ 53 ∷ 53 ∷ 10 ∷ 84 ∷ 32 ∷ 55 ∷ 32 ∷ 57 ∷ []) (9 ∷ 9 ∷ 9 ∷ 9 ∷ 9 ∷ 9 ∷ 9 ∷ 9 ∷ 9 ∷ 9 ∷ 9 ∷ 9 ∷ []) ≡ 255 ∷ 1 ∷ 7 ∷ 0 ∷ 0 ∷ 0 ∷ 9 ∷ 0 ∷ 0 ∷ 0 ∷ 0 ∷ 9 ∷ []
unfolding pieces filled all_digits value_from number_fault first_fault field_values sort record_of lettered letter_says event_says tick_says fields_say all_say readable fault_in text_fault records_of joined stored read_of bytes_of encodes at_most weighed weighed_section table_weighed recording_weighed writing buffer_after buffer_of
dated_task = refl

-- `K 252`, `T 7`: no kind, the line of the kind
no_kind_lem : made_of (75 ∷ 32 ∷ 50 ∷ 53 ∷ 50 ∷ 10 ∷ 84 ∷ 32 ∷ 55 ∷ []) 10 ≡ record { fault = 0; line = 1; refusal = 2; place = 0 }
unfolding pieces filled all_digits value_from number_fault first_fault field_values sort record_of lettered letter_says event_says tick_says fields_say all_say readable fault_in text_fault records_of joined stored read_of line_after kind_or_task refusal_line line_told made_of
no_kind_lem = refl

-- the answer to a text that is written
accepted : made_of (75 ∷ 32 ∷ 50 ∷ 53 ∷ 51 ∷ 10 ∷ 84 ∷ 32 ∷ 55 ∷ []) 10 ≡ record { fault = 0; line = 0; refusal = 0; place = 9 }
unfolding pieces filled all_digits value_from number_fault first_fault field_values sort record_of lettered letter_says event_says tick_says fields_say all_say readable fault_in text_fault records_of joined stored read_of bytes_of at_most weighed weighed_section table_weighed recording_weighed writing line_told made_of
accepted = refl

-- no room for its nine bytes: 18, and the line after the last
no_room_lem : made_of (75 ∷ 32 ∷ 50 ∷ 53 ∷ 51 ∷ 10 ∷ 84 ∷ 32 ∷ 55 ∷ []) 8 ≡ record { fault = 0; line = 3; refusal = 18; place = 9 }
unfolding pieces filled all_digits value_from number_fault first_fault field_values sort record_of lettered letter_says event_says tick_says fields_say all_say readable fault_in text_fault records_of joined stored read_of bytes_of at_most weighed weighed_section table_weighed recording_weighed writing refusal_line line_told made_of
no_room_lem = refl

-- `K 253`, `T 7`, `S 0`: a start of a task that is not waiting
refused : made_of (75 ∷ 32 ∷ 50 ∷ 53 ∷ 51 ∷ 10 ∷ 84 ∷ 32 ∷ 55 ∷ 10 ∷ 83 ∷ 32 ∷ 48 ∷ []) 99 ≡ record { fault = 0; line = 3; refusal = 14; place = 9 }
unfolding pieces filled all_digits value_from number_fault first_fault field_values sort record_of lettered letter_says event_says tick_says fields_say all_say readable fault_in text_fault records_of joined stored read_of bytes_of first_byte at_most weighed weighed_section table_weighed recording_weighed writing fresh_of judged_task judged_on_at decided record_bytes all_bytes line_after refusal_line line_told made_of
refused = refl

-- `K 253`, `T 7`, `T 0`, `L 0 1 0 5`: a direct link with a start value
plain : made_of (75 ∷ 32 ∷ 50 ∷ 53 ∷ 51 ∷ 10 ∷ 84 ∷ 32 ∷ 55 ∷ 10 ∷ 84 ∷ 32 ∷ 48 ∷ 10 ∷ 76 ∷ 32 ∷ 48 ∷ 32 ∷ 49 ∷ 32 ∷ 48 ∷ 32 ∷ 53 ∷ []) 99 ≡ record { fault = 0; line = 4; refusal = 20; place = 11 }
unfolding some count smaller ahead_by pieces filled all_digits value_from number_fault first_fault field_values sort record_of lettered letter_says event_says tick_says fields_say all_say readable fault_in text_fault records_of joined stored read_of bytes_of link_fault at_most weighed weighed_section table_weighed recording_weighed writing record_bytes all_bytes line_after refusal_line line_told made_of
plain = refl

-- `K 253`, `T 7`, `S x`: the task is not written
unreadable : made_of (75 ∷ 32 ∷ 50 ∷ 53 ∷ 51 ∷ 10 ∷ 84 ∷ 32 ∷ 55 ∷ 10 ∷ 83 ∷ 32 ∷ 120 ∷ []) 99 ≡ record { fault = 2; line = 3; refusal = 0; place = 0 }
unfolding pieces filled all_digits value_from number_fault first_fault field_values sort record_of lettered letter_says event_says tick_says fields_say all_say readable fault_in text_fault records_of joined stored read_of made_of
unreadable = refl

untouched : buffer_of (75 ∷ 32 ∷ 50 ∷ 53 ∷ 51 ∷ 10 ∷ 84 ∷ 32 ∷ 55 ∷ 10 ∷ 83 ∷ 32 ∷ 120 ∷ []) (9 ∷ 9 ∷ 9 ∷ 9 ∷ 9 ∷ 9 ∷ 9 ∷ 9 ∷ []) ≡ 9 ∷ 9 ∷ 9 ∷ 9 ∷ 9 ∷ 9 ∷ 9 ∷ 9 ∷ []
unfolding pieces filled all_digits value_from number_fault first_fault field_values sort record_of lettered letter_says event_says tick_says fields_say all_say readable fault_in text_fault records_of joined stored read_of buffer_of
untouched = refl

-- `K 255`, `T 7 9`, `T 7 65536`: a relative deadline too large for its bytes is refused as 0 would be
no_deadline : made_of (75 ∷ 32 ∷ 50 ∷ 53 ∷ 53 ∷ 10 ∷ 84 ∷ 32 ∷ 55 ∷ 32 ∷ 57 ∷ 10 ∷ 84 ∷ 32 ∷ 55 ∷ 32 ∷ 54 ∷ 53 ∷ 53 ∷ 51 ∷ 54 ∷ []) 99 ≡ record { fault = 0; line = 3; refusal = 24; place = 8 }
unfolding pieces filled all_digits value_from number_fault first_fault field_values sort record_of lettered letter_says event_says tick_says fields_say all_say readable fault_in text_fault records_of joined stored read_of bytes_of at_most weighed weighed_section table_weighed recording_weighed writing record_bytes all_bytes line_after refusal_line line_told made_of
no_deadline = refl

-- `K 255`, `T 7 9`, `4000000001 S 0`: a tick too large, before the 14 of a task that is not waiting
large_tick : made_of (75 ∷ 32 ∷ 50 ∷ 53 ∷ 53 ∷ 10 ∷ 84 ∷ 32 ∷ 55 ∷ 32 ∷ 57 ∷ 10 ∷ 52 ∷ 48 ∷ 48 ∷ 48 ∷ 48 ∷ 48 ∷ 48 ∷ 48 ∷ 48 ∷ 49 ∷ 32 ∷ 83 ∷ 32 ∷ 48 ∷ []) 99 ≡ record { fault = 0; line = 3; refusal = 22; place = 11 }
unfolding pieces filled all_digits value_from number_fault first_fault field_values sort record_of lettered letter_says event_says tick_says fields_say all_say readable fault_in text_fault records_of joined stored read_of bytes_of first_byte at_most weighed weighed_section table_weighed recording_weighed writing fresh_of judged_task judged_on_at decided record_bytes all_bytes line_after refusal_line line_told made_of
large_tick = refl
