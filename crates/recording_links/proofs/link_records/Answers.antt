-- `recording_links::link_records` meets its contract: a record that is cut or at fault is refused at its place.
-- Assumes nothing.
use mathlib.Core.Path.{◌≡◌, sym, ◌∙◌}
use native.Mathlib.Nat.{add-zero}
use borrow.Author.Rules.{rules}
use Rattle.std.specs.Prelude.{Err}
use Rattle.recording_links.proofs.LinkLoop.{links_cut, links_refused}
use Rattle.recording_links.proofs.link_records.Goals as goal

pub returns-then-room-lt-LINK_SIZE : goal.returns-then-room-lt-LINK_SIZE
returns-then-room-lt-LINK_SIZE c ts none = links_cut (c.loop-l.invariant ts none) c.requires c.loop-l-test.true c.room.ensures c.if-room-lt-LINK_SIZE.true c.at.ensures

pub returns-in_err-placed_after : goal.returns-in_err-placed_after
returns-in_err-placed_after c ts none =
    let e : c.from_residual.result ≡ Err c.in_err-placed_after.field-0.0 = search rules in
    rw e
    (links_refused (c.loop-l.invariant ts none) c.requires c.loop-l-test.true c.room.ensures c.fault_after-fault.result c.if-room-lt-LINK_SIZE.false
    (rw add-zero at c.u8_at-writer.ensures) c.u8_at-reader.ensures c.u8_at.ensures c.u32_at.ensures c.fault_after-fault.ensures (sym c.placed_after.ensures ∙ c.in_err-placed_after.was))
