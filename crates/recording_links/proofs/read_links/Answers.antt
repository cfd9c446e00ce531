-- `recording_links::read_links` meets its contract: the records after their count.
-- Assumes nothing.
use mathlib.Core.Path.{sym, ◌∙◌}
use Rattle.mailbox_layout.specs.Layout.{ahead_among}
use Rattle.recording_head.proofs.Counting.{few_links, is_count}
use Rattle.recording_head.proofs.Stops.{placed_after_ok}
use Rattle.recording_links.proofs.LinkLoop.{links_counted}
use Rattle.recording_links.proofs.read_links.Goals as goal

pub link_records-requires : goal.link_records-requires
link_records-requires c = few_links c.args.which c.args.s.now c.args.at (is_count c.link_count.result c.link_count.ensures (placed_after_ok c.link_count.result c.args.at 0 (sym c.placed_after.ensures ∙ c.in_ok-links.was)))

pub returns : goal.returns
returns c ts none =
    let counted = is_count c.link_count.result c.link_count.ensures (placed_after_ok c.link_count.result c.args.at 0 (sym c.placed_after.ensures ∙ c.in_ok-links.was)) in
    links_counted c.args.which (ahead_among c.args.times.now) c.args.tasks c.args.s.now c.args.at counted (c.link_records.ensures ts none)
