-- `recording_make::make_recording` meets its contract: a fault of the text, or what the writer makes of its numbers.
-- Assumes nothing.
use mathlib.Core.Path.{sym}
use lib.Seq.{length-take-le}
use Rattle.std.proofs.lemmas.Result.{err_from_is_err_and}
use Rattle.recording_text.proofs.Texts.{tasks_within, links_within, events_within}
use Rattle.recording_make.proofs.Makes.{tasks_taken, links_taken, events_taken, made_unread, buffer_unread, made_written, buffer_written}
use Rattle.recording_make.proofs.make_recording.Goals as goal

pub returns-in_err-read-clause-answer : goal.returns-in_err-read-clause-answer
returns-in_err-read-clause-answer c = let p = err_from_is_err_and c.from_residual.result c.from_residual.ensures.1 in
    rw (p.1, p.2) (made_unread _ c.in_err-read.field-0.0 c.in_err-read.ensures.answer _)

pub returns-in_err-read-clause-buffer : goal.returns-in_err-read-clause-buffer
returns-in_err-read-clause-buffer c = buffer_unread _ c.in_err-read.field-0.0 c.in_err-read.ensures.answer _

pub slice_bounds-tasks-end : goal.slice_bounds-tasks-end
slice_bounds-tasks-end c = let r = c.in_ok-read in
    tasks_within _ r.read r.ensures.answer _ r.ensures.tasks

pub slice_bounds-make_written-end : goal.slice_bounds-make_written-end
slice_bounds-make_written-end c = let r = c.in_ok-read in
    sym (length-take-le _ _ (tasks_within _ r.read r.ensures.answer _ r.ensures.tasks))

pub slice_bounds-links-end : goal.slice_bounds-links-end
slice_bounds-links-end c = let r = c.in_ok-read in
    links_within _ r.read r.ensures.answer _ r.ensures.links

pub slice_bounds-make_written-end-2 : goal.slice_bounds-make_written-end-2
slice_bounds-make_written-end-2 c = let r = c.in_ok-read in
    sym (length-take-le _ _ (links_within _ r.read r.ensures.answer _ r.ensures.links))

pub slice_bounds-events-end : goal.slice_bounds-events-end
slice_bounds-events-end c = let r = c.in_ok-read in
    events_within _ r.read r.ensures.answer _ r.ensures.events

pub slice_bounds-make_written-end-3 : goal.slice_bounds-make_written-end-3
slice_bounds-make_written-end-3 c = let r = c.in_ok-read in
    sym (length-take-le _ _ (events_within _ r.read r.ensures.answer _ r.ensures.events))

pub returns-clause-answer : goal.returns-clause-answer
returns-clause-answer c = let r = c.in_ok-read in
    let a = r.ensures.answer in
    made_written _ r.read a (tasks_taken _ r.read a _ r.ensures.tasks) (links_taken _ r.read a _ r.ensures.links) (events_taken _ r.read a _ r.ensures.events) _ c.make_written.ensures.answer

pub returns-clause-buffer : goal.returns-clause-buffer
returns-clause-buffer c = let r = c.in_ok-read in
    let a = r.ensures.answer in
    buffer_written _ r.read a (tasks_taken _ r.read a _ r.ensures.tasks) (links_taken _ r.read a _ r.ensures.links) (events_taken _ r.read a _ r.ensures.events) _ c.make_written.ensures.buffer
