-- What lines say, computed from the definitions.
-- Assumes nothing.
use mathlib.Core.Path.{◌≡◌, refl}
use mathlib.Core.Bool.{true, false}
use mathlib.Core.List.{[], ◌∷◌}
use Rattle.recording_text_fields.specs.Pieces.{pieces, filled}
use Rattle.recording_text_fields.specs.Numeral.{all_digits, value_from, number_fault, first_fault, field_values, set_with}
use Rattle.recording_text_line.specs.Line.{nothing, faulty, saying, sort, record_of, lettered, letter_says, event_says, tick_says, fields_say, says, all_say, text_says}

-- `F 1 101`, blanks around it and a carriage return at its end
finish : says false (32 ∷ 70 ∷ 9 ∷ 49 ∷ 32 ∷ 32 ∷ 49 ∷ 48 ∷ 49 ∷ 32 ∷ 13 ∷ []) ≡ saying 70 (4 ∷ 1 ∷ 101 ∷ [])
unfolding pieces filled all_digits value_from number_fault first_fault field_values set_with sort record_of lettered letter_says event_says tick_says fields_say
finish = refl

-- `A 0 1 2 3 1`: a task named twice is named once
arrival : says false (65 ∷ 32 ∷ 48 ∷ 32 ∷ 49 ∷ 32 ∷ 50 ∷ 32 ∷ 51 ∷ 32 ∷ 49 ∷ []) ≡ saying 65 (1 ∷ 15 ∷ [])
unfolding pieces filled all_digits value_from number_fault first_fault field_values set_with sort record_of lettered letter_says event_says tick_says fields_say
arrival = refl

-- `A 31`: the last task that a table can have
last_task : says false (65 ∷ 32 ∷ 51 ∷ 49 ∷ []) ≡ saying 65 (1 ∷ 2147483648 ∷ [])
unfolding pieces filled all_digits value_from number_fault first_fault field_values set_with sort record_of lettered letter_says event_says tick_says fields_say
last_task = refl

-- `A 32`: no table has it, so the set is handed over as the empty one
first_above : says false (65 ∷ 32 ∷ 51 ∷ 50 ∷ []) ≡ saying 65 (1 ∷ 0 ∷ [])
unfolding pieces filled all_digits value_from number_fault first_fault field_values set_with sort record_of lettered letter_says event_says tick_says fields_say
first_above = refl

-- `A 0 40`: so is a set with one such task
some_above_lem : says false (65 ∷ 32 ∷ 48 ∷ 32 ∷ 52 ∷ 48 ∷ []) ≡ saying 65 (1 ∷ 0 ∷ [])
unfolding pieces filled all_digits value_from number_fault first_fault field_values set_with sort record_of lettered letter_says event_says tick_says fields_say
some_above_lem = refl

-- `L 1 0 1 90`
link : says false (76 ∷ 32 ∷ 49 ∷ 32 ∷ 48 ∷ 32 ∷ 49 ∷ 32 ∷ 57 ∷ 48 ∷ []) ≡ saying 76 (1 ∷ 0 ∷ 1 ∷ 90 ∷ [])
unfolding pieces filled all_digits value_from number_fault first_fault field_values set_with sort record_of lettered letter_says event_says tick_says fields_say
link = refl

-- `L 1 2 0`: no start value
no_start : says false (76 ∷ 32 ∷ 49 ∷ 32 ∷ 50 ∷ 32 ∷ 48 ∷ []) ≡ faulty 4
unfolding pieces filled all_digits value_from number_fault first_fault field_values set_with sort record_of lettered letter_says event_says tick_says fields_say
no_start = refl

-- `K 254`
kind : says false (75 ∷ 32 ∷ 50 ∷ 53 ∷ 52 ∷ []) ≡ saying 75 (254 ∷ [])
unfolding pieces filled all_digits value_from number_fault first_fault field_values set_with sort record_of lettered letter_says event_says tick_says fields_say
kind = refl

-- `K 252`: which kinds there are, the writer says
kind_unknown : says false (75 ∷ 32 ∷ 50 ∷ 53 ∷ 50 ∷ []) ≡ saying 75 (252 ∷ [])
unfolding pieces filled all_digits value_from number_fault first_fault field_values set_with sort record_of lettered letter_says event_says tick_says fields_say
kind_unknown = refl

-- `K 253 254`
kinds : says false (75 ∷ 32 ∷ 50 ∷ 53 ∷ 51 ∷ 32 ∷ 50 ∷ 53 ∷ 52 ∷ []) ≡ faulty 5
unfolding pieces filled all_digits value_from number_fault first_fault field_values set_with sort record_of lettered letter_says event_says tick_says fields_say
kinds = refl

-- `# T`
remark : says false (35 ∷ 32 ∷ 84 ∷ []) ≡ nothing
unfolding pieces filled all_digits value_from number_fault first_fault field_values set_with sort record_of lettered letter_says event_says tick_says fields_say
remark = refl

-- `TT 1`: the first word is no letter
letters : says false (84 ∷ 84 ∷ 32 ∷ 49 ∷ []) ≡ faulty 1
unfolding pieces filled all_digits value_from number_fault first_fault field_values set_with sort record_of lettered letter_says event_says tick_says fields_say
letters = refl

-- `L 1 x 99999999999`: the first fault from the left
word : says false (76 ∷ 32 ∷ 49 ∷ 32 ∷ 120 ∷ 32 ∷ 57 ∷ 57 ∷ 57 ∷ 57 ∷ 57 ∷ 57 ∷ 57 ∷ 57 ∷ 57 ∷ 57 ∷ 57 ∷ []) ≡ faulty 2
unfolding pieces filled all_digits value_from number_fault first_fault field_values set_with sort record_of lettered letter_says event_says tick_says fields_say
word = refl

-- `T 4294967296 1`: a number too large before a number too many
large : says false (84 ∷ 32 ∷ 52 ∷ 50 ∷ 57 ∷ 52 ∷ 57 ∷ 54 ∷ 55 ∷ 50 ∷ 57 ∷ 54 ∷ 32 ∷ 49 ∷ []) ≡ faulty 3
unfolding pieces filled all_digits value_from number_fault first_fault field_values set_with sort record_of lettered letter_says event_says tick_says fields_say
large = refl

-- `F 1`: no value
few : says false (70 ∷ 32 ∷ 49 ∷ []) ≡ faulty 4
unfolding pieces filled all_digits value_from number_fault first_fault field_values set_with sort record_of lettered letter_says event_says tick_says fields_say
few = refl

-- `S 1 2`
many : says false (83 ∷ 32 ∷ 49 ∷ 32 ∷ 50 ∷ []) ≡ faulty 5
unfolding pieces filled all_digits value_from number_fault first_fault field_values set_with sort record_of lettered letter_says event_says tick_says fields_say
many = refl

-- in a dated text `7 A 0 1`: an event begins with its tick
dated_arrival : says true (55 ∷ 32 ∷ 65 ∷ 32 ∷ 48 ∷ 32 ∷ 49 ∷ []) ≡ saying 65 (1 ∷ 7 ∷ 3 ∷ [])
unfolding pieces filled all_digits value_from number_fault first_fault field_values set_with sort record_of lettered letter_says event_says tick_says fields_say
dated_arrival = refl

-- `7 A`: the empty set
dated_empty : says true (55 ∷ 32 ∷ 65 ∷ []) ≡ saying 65 (1 ∷ 7 ∷ 0 ∷ [])
unfolding pieces filled all_digits value_from number_fault first_fault field_values set_with sort record_of lettered letter_says event_says tick_says fields_say
dated_empty = refl

-- `12 F 1 101`: the most numbers that an event has
dated_finish : says true (49 ∷ 50 ∷ 32 ∷ 70 ∷ 32 ∷ 49 ∷ 32 ∷ 49 ∷ 48 ∷ 49 ∷ []) ≡ saying 70 (4 ∷ 12 ∷ 1 ∷ 101 ∷ [])
unfolding pieces filled all_digits value_from number_fault first_fault field_values set_with sort record_of lettered letter_says event_says tick_says fields_say
dated_finish = refl

-- `9 R 0`
dated_read : says true (57 ∷ 32 ∷ 82 ∷ 32 ∷ 48 ∷ []) ≡ saying 82 (3 ∷ 9 ∷ 0 ∷ [])
unfolding pieces filled all_digits value_from number_fault first_fault field_values set_with sort record_of lettered letter_says event_says tick_says fields_say
dated_read = refl

-- `T 100 50`: a default and a relative deadline
dated_task : says true (84 ∷ 32 ∷ 49 ∷ 48 ∷ 48 ∷ 32 ∷ 53 ∷ 48 ∷ []) ≡ saying 84 (100 ∷ 50 ∷ [])
unfolding pieces filled all_digits value_from number_fault first_fault field_values set_with sort record_of lettered letter_says event_says tick_says fields_say
dated_task = refl

-- `T 100`: no relative deadline
no_deadline : says true (84 ∷ 32 ∷ 49 ∷ 48 ∷ 48 ∷ []) ≡ faulty 4
unfolding pieces filled all_digits value_from number_fault first_fault field_values set_with sort record_of lettered letter_says event_says tick_says fields_say
no_deadline = refl

-- `A 0 1`: no tick
no_tick : says true (65 ∷ 32 ∷ 48 ∷ 32 ∷ 49 ∷ []) ≡ faulty 1
unfolding pieces filled all_digits value_from number_fault first_fault field_values set_with sort record_of lettered letter_says event_says tick_says fields_say
no_tick = refl

-- `S 7 0`: the tick behind the letter
tick_behind : says true (83 ∷ 32 ∷ 55 ∷ 32 ∷ 48 ∷ []) ≡ faulty 1
unfolding pieces filled all_digits value_from number_fault first_fault field_values set_with sort record_of lettered letter_says event_says tick_says fields_say
tick_behind = refl

-- `7`: no letter
tick_alone : says true (55 ∷ []) ≡ faulty 1
unfolding pieces filled all_digits value_from number_fault first_fault field_values set_with sort record_of lettered letter_says event_says tick_says fields_say
tick_alone = refl

-- `7 T 1 2`: a tick before a task
tick_of_task : says true (55 ∷ 32 ∷ 84 ∷ 32 ∷ 49 ∷ 32 ∷ 50 ∷ []) ≡ faulty 1
unfolding pieces filled all_digits value_from number_fault first_fault field_values set_with sort record_of lettered letter_says event_says tick_says fields_say
tick_of_task = refl

-- `7x SS`: the tick is judged before the letter
tick_first : says true (55 ∷ 120 ∷ 32 ∷ 83 ∷ 83 ∷ []) ≡ faulty 2
unfolding pieces filled all_digits value_from number_fault first_fault field_values set_with sort record_of lettered letter_says event_says tick_says fields_say
tick_first = refl

-- `4294967296 S 0`: a tick too large
tick_large : says true (52 ∷ 50 ∷ 57 ∷ 52 ∷ 57 ∷ 54 ∷ 55 ∷ 50 ∷ 57 ∷ 54 ∷ 32 ∷ 83 ∷ 32 ∷ 48 ∷ []) ≡ faulty 3
unfolding pieces filled all_digits value_from number_fault first_fault field_values set_with sort record_of lettered letter_says event_says tick_says fields_say
tick_large = refl

-- `7 F x`: a field that is no number before a number too few
dated_word : says true (55 ∷ 32 ∷ 70 ∷ 32 ∷ 120 ∷ []) ≡ faulty 2
unfolding pieces filled all_digits value_from number_fault first_fault field_values set_with sort record_of lettered letter_says event_says tick_says fields_say
dated_word = refl

-- in another text a tick is no letter, and a task has no relative deadline
plain_tick : says false (55 ∷ 32 ∷ 83 ∷ 32 ∷ 48 ∷ []) ≡ faulty 1
unfolding pieces filled all_digits value_from number_fault first_fault field_values set_with sort record_of lettered letter_says event_says tick_says fields_say
plain_tick = refl

plain_deadline : says false (84 ∷ 32 ∷ 49 ∷ 48 ∷ 48 ∷ 32 ∷ 53 ∷ 48 ∷ []) ≡ faulty 5
unfolding pieces filled all_digits value_from number_fault first_fault field_values set_with sort record_of lettered letter_says event_says tick_says fields_say
plain_deadline = refl

-- `K 255`, `5 S 0`: the lines behind the kind are those of a dated text
dated_text : text_says (75 ∷ 32 ∷ 50 ∷ 53 ∷ 53 ∷ 10 ∷ 53 ∷ 32 ∷ 83 ∷ 32 ∷ 48 ∷ []) ≡ saying 75 (255 ∷ []) ∷ saying 83 (2 ∷ 5 ∷ 0 ∷ []) ∷ []
unfolding pieces filled all_digits value_from number_fault first_fault field_values set_with sort record_of lettered letter_says event_says tick_says fields_say all_say
dated_text = refl

-- `5 S 0`, `K 255`: those before it are not
plain_before : text_says (53 ∷ 32 ∷ 83 ∷ 32 ∷ 48 ∷ 10 ∷ 75 ∷ 32 ∷ 50 ∷ 53 ∷ 53 ∷ []) ≡ faulty 1 ∷ saying 75 (255 ∷ []) ∷ []
unfolding pieces filled all_digits value_from number_fault first_fault field_values set_with sort record_of lettered letter_says event_says tick_says fields_say all_say
plain_before = refl
