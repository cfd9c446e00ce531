-- Request 2026-13 holds, sentence by sentence.
-- Assumes nothing.
use mathlib.Core.Path.{sym, ◌∙◌}
use Rattle.settings_demands.specs.Migrator.{Migrator}
use Rattle.settings_demands.proofs.Contract.{asks_nothing, tells}
use Rattle.settings_demands.proofs.Lists.{one_reading}
use Rattle.settings_demands.proofs.Explained.{exactly, every_answer, only, holds}
use Rattle.settings_demands.proofs.OwnEntry.{from_the_list, good, bits}
use Rattle.settings_demands.proofs.Promises.{past_the_number, refused_empty}
use Rattle.settings_demands.proofs.Writing.{writing, untouched, one_writing}
use Rattle.settings_demands.proofs.Written.{old_again}
use Rattle.settings_demands.proofs.RoundTrip.{old_list_again, same_settings_again}

pub migrator : Migrator
migrator = record {
  asks = asks_nothing;
  tells = tells;
  list = exactly;
  one_reading = one_reading;
  from_the_list = from_the_list;
  good = good;
  place = every_answer;
  only = only;
  holds = λ said o. holds said o;
  past_the_number = past_the_number;
  refused_empty = refused_empty;
  bits = bits;
  old_list_again = old_list_again;
  old_list = λ back z. (old_again back z).list;
  same_settings_again = same_settings_again;
  writing = writing;
  untouched = untouched;
  rest_untouched = λ back z. (old_again back z).rest;
  one_answer = λ a b. a.answer ∙ sym b.answer;
  one_writing = one_writing;
}
