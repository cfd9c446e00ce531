-- `recording_text::read_text` meets its contract: a line that cannot be read, or the end.
-- Assumes nothing.
use Rattle.std.proofs.Common.{◌≡◌, refl, sym, ap, ◌∙◌, true, false, length, arith}
use borrow.Author.Tests.{ne_eqb}
use Rattle.std.specs.Option.{is_some}
use Rattle.recording_text_fields.specs.Faults.{number}
use Rattle.recording_text_fields.proofs.Faults.{some_fault}
use Rattle.recording_text_line.proofs.Lines.{lines_few}
use Rattle.recording_text_line.specs.Told.{said_of}
use Rattle.recording_text.specs.Text.{fault_in, readable_of, fault_of}
use Rattle.recording_text.proofs.Texts.{reading_none, reading_few, reading_skip, reading_on, reading_stops, reading_ends, answered, tasks_held, links_held, events_held}
use Rattle.recording_text.proofs.read_text.Goals as goal

pub loop-said-init : goal.loop-said-init
loop-said-init c = rw c.into_iter-said-iterator.ensures.into_iter_gives (reading_none _ c.of-said-items.ensures _ _ _)

pub overflow_add-line : goal.overflow_add-line
overflow_add-line c = omega (arith, reading_few c.loop-said.invariant, lines_few c.of-said-items.result, ap length c.of-said-items.ensures, ap length c.in-Some.ensures.steps)

pub loop-said-preserved-in-Ok-None : goal.loop-said-preserved-in-Ok-None
loop-said-preserved-in-Ok-None c = let h = rw c.in-Ok-None.field-0-is at c.in-Ok-None.ensures in
    reading_skip c.loop-said.invariant c.in-Some.ensures.steps (rw c.is_some.ensures at h.1) (sym h.0)

pub returns-in-Err : goal.returns-in-Err
returns-in-Err c = let b = c.loop-said.invariant in
    let f : fault_in (is_some c.loop-said.kind) (said_of c.in-Some.said) ≡ number c.in-Err.fault = rw c.is_some.ensures at c.in-Err.ensures in
    let x = reading_stops b c.in-Some.ensures.steps f (some_fault c.in-Err.fault) in
    record {
      answer = rw c.so_far-read.ensures (answered b x (rw (ne_eqb (number c.in-Err.fault) 0 (some_fault c.in-Err.fault))));
      tasks = tasks_held b x;
      links = links_held b x;
      events = events_held b x;
    }

pub loop-said-preserved : goal.loop-said-preserved
loop-said-preserved c = let h = rw c.in-Ok-Some.field-0-is at c.in-Ok-Some.ensures in
    reading_on c.loop-said.invariant c.in-Some.ensures.steps (rw c.is_some.ensures at h.1) c.in-Ok-Some.record (sym h.0) c.keep-task.ensures.whole c.kind_after-kind.ensures
    c.keep-task.ensures.answer c.keep-task.ensures.list c.keep-link.ensures.answer c.keep-link.ensures.list c.keep-event.ensures.answer c.keep-event.ensures.list

pub returns-then-is_none : goal.returns-then-is_none
returns-then-is_none c = let b = c.loop-said.invariant in
    let k : is_some c.loop-said.kind ≡ false = rw c.if-is_none.true at c.is_none.ensures in
    let x : (readable_of c.args.text.now ≡ b.done) × (fault_of c.args.text.now ≡ 6) = let r = reading_ends b c.in-None.ensures.steps.0 in (r.0, r.1 ∙ rw k) in
    record {
      answer = rw c.so_far-read-2.ensures (answered b x refl);
      tasks = tasks_held b x;
      links = links_held b x;
      events = events_held b x;
    }

pub returns : goal.returns
returns c = let b = c.loop-said.invariant in
    let k : is_some c.loop-said.kind ≡ true = rw c.if-is_none.false at c.is_none.ensures in
    let x : (readable_of c.args.text.now ≡ b.done) × (fault_of c.args.text.now ≡ 0) = let r = reading_ends b c.in-None.ensures.steps.0 in (r.0, r.1 ∙ rw k) in
    record {
      answer = rw c.so_far-read-2.ensures (answered b x refl);
      tasks = tasks_held b x;
      links = links_held b x;
      events = events_held b x;
    }

pub overflow_add-result : goal.overflow_add-result
overflow_add-result c = omega (arith, reading_few c.loop-said.invariant, lines_few c.of-said-items.result, ap length c.of-said-items.ensures)
