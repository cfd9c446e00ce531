-- `mailbox::tables::put_links` meets its contract: after l turns the first l links are put.
-- Assumes nothing.
use Rattle.protocol.specs.Instant.{upward}
use Rattle.mailbox_layout.specs.Fresh.{fresh_control, fresh_values}
use Rattle.mailbox.proofs.Filling.{links_more, starts_more, links_end}
use Rattle.mailbox.proofs.tables.put_links.Goals as goal

pub loop-l-init : goal.loop-l-init
unfolding upward
loop-l-init c = (λ e. e, λ ts e. e)

pub loop-l-preserved : goal.loop-l-preserved
loop-l-preserved c = let turn = c in
    let a = turn.args in (
      λ e. links_more a.writer.now a.reader.now a.kind.now a.start_value.now _ (turn.loop-l.invariant.0 e) c.put_link.ensures.control,
      λ ts e. starts_more a.writer.now a.reader.now a.kind.now a.start_value.now ts _ (turn.loop-l.invariant.1 ts e) c.put_link.ensures.values,
    )

pub returns : goal.returns
returns c = let a = c.args in
    let i = c.loop-l.invariant in
    rw (← c.few-l-end.ensures) record {
      control = λ e. links_end a.writer.now a.reader.now a.kind.now a.start_value.now fresh_control _ _ (i.0 e) c.loop-l.auto.l-end c.loop-l-test.false;
      values = λ ts e. links_end a.writer.now a.reader.now a.kind.now a.start_value.now (fresh_values ts) _ _ (i.1 ts e) c.loop-l.auto.l-end c.loop-l-test.false;
    }
