-- `mailbox_layout::fresh::put_link` meets its contract: three bytes and a number are put.
-- Assumes nothing.
use mathlib.Core.Path.{ap, ◌∙◌}
use Rattle.mailbox_layout.specs.Layout.{reader_region, kind_region}
use Rattle.mailbox_layout.specs.Fresh.{with_number}
use Rattle.mailbox_layout.proofs.fresh.put_link.Goals as goal

pub returns : goal.returns
returns c = let p = c in
    let a = p.args in record {
      control = p.put_control-3.ensures
          ∙ ap (with_number kind_region a.l a.link.kind) (p.put_control-2.ensures ∙ ap (with_number reader_region a.l a.link.reader) p.put_control.ensures);
      values = c.put_entry.ensures;
    }
