-- The numbers read are those of the run where tasks take no time, whatever calls are made on the fresh state of a table.
-- Assumes nothing.
use mathlib.Core.Path.{◌≡◌, ap, subst, ◌∙◌}
use mathlib.Core.Bool.{Bool}
use mathlib.Core.List.{List}
use Prim.Native.Nat.{ℕ}
use lib.ListN.{length}
use Rattle.protocol.specs.Table.{Table, Lawful}
use Rattle.protocol.specs.History.{reads}
use Rattle.protocol.specs.Schedule.{Fair, AllPossible}
use Rattle.protocol.specs.ZeroTime.{ideals, Settled}
use Rattle.protocol.specs.Instant.{Order, zero_run, looked, theres}
use Rattle.protocol.proofs.Theorem.{lowest_only, numbers_ideal, settled, ideals_count}
use Rattle.protocol.proofs.ZeroRun.{ideals_read}
use Rattle.protocol_deadlines.specs.Deadline.{ByDeadline}
use Rattle.protocol_deadlines.specs.Timed.{untimed, earliest_at}
use Rattle.protocol_deadlines.proofs.Orders.{table_order}
use Rattle.protocol_deadlines.proofs.Timed.{timed_possible, possible_fair}
use Rattle.protocol_state.specs.Saved.{Size, Saved, link_in, table}
use Rattle.protocol_state.specs.Give.{Progress}
use Rattle.protocol_state.proofs.Rules.{lawful, keeps_judged}
use Rattle.protocol_state.specs.Reached.{Reached}

module _ {ahead : ℕ → ℕ → Bool} {size : Size} {q₀ : Saved} (order : ByDeadline (table ahead q₀)) {o : Progress} (r : Reached ahead size q₀ o) where
  abbrev T : Table ℕ
  T = table ahead q₀

  -- the table keeps the rules that demand 3 rests on
  pub table_lawful : Lawful (table ahead q₀)
  table_lawful = subst (λ (T : Table ℕ). Lawful T) r.same (lawful (table_order T order) size o.state
      (keeps_judged ahead o.state.tasks (link_in o.state) size o.state.links r.sound.rules))

  -- under its ticks the history could happen, and the policy is fair
  happened : AllPossible T (earliest_at T o.history) (untimed o.history)
  happened = timed_possible T o.history r.possible

  fair : Fair T (earliest_at T o.history)
  fair = possible_fair T order o.history r.possible

  -- the numbers read are the closed form's
  pub reached_ideals : o.numbers ≡ ideals (table ahead q₀) (untimed o.history)
  reached_ideals = r.read ∙ numbers_ideal T (earliest_at T o.history) table_lawful fair (lowest_only T) r.run happened

  -- one for each read
  pub reached_count : length o.numbers ≡ reads (untimed o.history)
  reached_count = ap length reached_ideals ∙ ideals_count T (earliest_at T o.history) table_lawful fair (untimed o.history) happened

  -- the output of an unfinished run is never read
  pub reached_settled : Settled (table ahead q₀) (untimed o.history)
  reached_settled = settled T (earliest_at T o.history) table_lawful fair (untimed o.history) happened

  -- and they are those of the run where tasks take no time, carried out
  pub reached_zero_run : (tasks : List ℕ) → Order (table ahead q₀) tasks
      → theres o.numbers ≡ looked (table ahead q₀) (zero_run (table ahead q₀) tasks (untimed o.history)) (untimed o.history)
  reached_zero_run tasks O = ap theres reached_ideals ∙ ideals_read T (earliest_at T o.history) table_lawful fair tasks O (untimed o.history) happened
