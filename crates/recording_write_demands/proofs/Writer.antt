-- The sentences of request 2026-01 hold, and of 2026-06 and 2026-07 those of the writer.
-- Assumes nothing.
use mathlib.Core.Path.{◌≡◌, sym, ap, subst, ◌∙◌}
use mathlib.Core.Logic.{◌≢◌, ◌↔◌, ◌⊎◌, inl, inr}
use mathlib.Core.List.{List, [], ◌++◌}
use Prim.Native.Nat.{ℕ, ◌≤◌, ◌<◌}
use native.Mathlib.Omega.{arith}
use lib.ListN.{length, take, drop, take-append-drop}
use Rattle.protocol.specs.Event.{arrival}
use Rattle.protocol.specs.History.{reads, past}
use Rattle.protocol_deadlines.specs.Timed.{Timed, untimed}
use Rattle.protocol_state.specs.Records.{Task}
use Rattle.byte_format.specs.Play.{Verdict}
use Rattle.recording_format.specs.RecordingKind.{any_kind}
use Rattle.recording_format.specs.Link.{Link}
use Rattle.recording_format.specs.declared.WhichKind.{WhichKind}
use Rattle.recording_format.specs.Words.{tasks_said, links_said, events_said, task_words, link_words, event_words}
use Rattle.recording_format.specs.Writing.{bytes_as_written, InBytes}
use Rattle.recording_core.specs.Playing.{Playing}
use Rattle.recording.specs.declared.Answer.{Answer}
use Rattle.recording_demands.specs.Ensured.{Replays}
use Rattle.recording_demands.proofs.Demands.{answer_by}
use Rattle.recording_write.specs.declared.Written.{Written}
use Rattle.demands.specs.Recordings.{Genuine}
use Rattle.demands.proofs.Genuine.{exactly, accepted_calls}
use Rattle.recording_write_demands.specs.Ensured.{Writes, RecordingOf}
use Rattle.recording_write_demands.specs.Writer.{Writer}
use Rattle.recording_write_demands.proofs.AsHanded.{handed_so, earned_judged, beyond_judged}
use Rattle.recording_write_demands.proofs.Contract.{learnt_ensured, ensured_learnt}
use Rattle.recording_write_demands.proofs.Demands.{WritesAs, writes_as, NoKind, told_kind, unknown_kind, unknown_untouched, written_kind, room_past, what_is_written_is_read, written_length, written_within, rest_untouched, refused_untouched, short_buffer_lem, shorter_refused, recording_written, same_fault, accepted_written_again}

module _ (which : WhichKind) {tw lw ew old new : List ℕ} {a : Written} (told : Writes (any_kind which).first tw lw ew old a new) where
  said : WritesAs which tw lw ew old a new
  said = writes_as which told

  written : (a.refusal ≡ 0) ↔ ((s : List ℕ) × (RecordingOf which tw lw ew s × (length s ≤ length old)))
  written = (
    λ z. (take a.place new, (what_is_written_is_read said z, omega (arith, written_length said z, written_within said z))),
    λ r. (recording_written said r.1.0 r.1.1).0,
  )

  bytes : {s : List ℕ} → RecordingOf which tw lw ew s → length s ≤ length old → (a.place ≡ length s) × (new ≡ s ++ drop (length s) old)
  bytes {s} r h =
      let w = recording_written said r h in
      let rest : drop (length s) new ≡ drop (length s) old = ap (λ (n : ℕ). drop n new) (sym w.1) ∙ rest_untouched said w.0 ∙ ap (λ (n : ℕ). drop n old) w.1 in
      (w.1, sym (take-append-drop (length s) new) ∙ ap (λ (x : List ℕ). x ++ drop (length s) new) w.2 ∙ ap (λ (x : List ℕ). s ++ x) rest)

  as_the_reader : {out list : List ℕ} {b : Answer} → InBytes (any_kind which) (tasks_said (any_kind which) tw) (links_said lw) (events_said (any_kind which) ew) → reads (untimed (events_said (any_kind which) ew).whole) ≤ length out
      → Replays (bytes_as_written (any_kind which) tw lw ew) out b list → b.refusal ≢ 0 → (a.refusal ≡ b.refusal) × (a.place ≡ b.place)
  as_the_reader {out} {list} {b} fit room read n =
      let by_kind = answer_by read which (written_kind which tw lw ew) in
      let r : b.refusal ≡ _ = ap (λ (x : Verdict Playing). x.refusal) by_kind in
      let p : b.place ≡ _ = ap (λ (x : Verdict Playing). x.place) by_kind in
      rw (r, p) (same_fault said out fit (room_past (events_said (any_kind which) ew).whole room) (rw r at n))

  short : (a.refusal ≡ 18) ↔ ((s : List ℕ) × (RecordingOf which tw lw ew s × ((length old < length s) × (a.place ≡ length s))))
  short = (
    λ z. let w = short_buffer_lem said z in (w.0, (w.1, (w.3, w.2))),
    λ r. (shorter_refused said r.1.0 r.1.1.0).0,
  )

  read_back : {out list : List ℕ} {b : Answer} → a.refusal ≡ 0 → reads (untimed (events_said (any_kind which) ew).whole) ≤ length out → Replays (take a.place new) out b list
      → (b.refusal ≡ 0) × (b.place ≡ a.place) × Genuine which (take a.place new) out (tasks_said (any_kind which) tw).whole (links_said lw).whole (events_said (any_kind which) ew).whole
  read_back {out} z room read =
      let g = (what_is_written_is_read said z).genuine out room in
      ((exactly read).1 (which, ((tasks_said (any_kind which) tw).whole, ((links_said lw).whole, ((events_said (any_kind which) ew).whole, g)))), (accepted_calls read g).3 ∙ written_length said z, g)

again : {s out list : List ℕ} {b : Answer} → Replays s out b list → b.refusal ≡ 0
    → (which : WhichKind) × (ds : List Task) × (ls : List Link) × (es : List (Timed ℕ)) × Genuine which s out ds ls es ×
    ((old new : List ℕ) (a : Written) → Writes (any_kind which).first (task_words (any_kind which) ds) (link_words ls) (event_words (any_kind which) es) old a new → length s ≤ length old →
    (a.refusal ≡ 0) × (a.place ≡ length s) × (take (length s) new ≡ s))
again read z =
    let g = (exactly read).0 z in
    (g.0, g.1.0, g.1.1.0, g.1.1.1.0, g.1.1.1.1, λ old new a said h. accepted_written_again g.1.1.1.1 (writes_as g.0 said) h)

-- whatever it is told
module _ {told : ℕ} {tw lw ew old new : List ℕ} {a : Written} (said : Writes told tw lw ew old a new) where
  untouched : a.refusal ≢ 0 → new ≡ old
  untouched n = go (told_kind told)
    where
      go : ((which : WhichKind) × (told ≡ (any_kind which).first)) ⊎ NoKind told → new ≡ old
      go (inl (which, e)) = refused_untouched (writes_as which (subst (λ (k : ℕ). Writes k tw lw ew old a new) e said)) n
      go (inr n) = unknown_untouched said n

  rest : a.refusal ≡ 0 → drop a.place new ≡ drop a.place old
  rest z = go (told_kind told)
    where
      go : ((which : WhichKind) × (told ≡ (any_kind which).first)) ⊎ NoKind told → drop a.place new ≡ drop a.place old
      go (inl (which, e)) = rest_untouched (writes_as which (subst (λ (k : ℕ). Writes k tw lw ew old a new) e said)) z
      go (inr n) = ap (drop a.place) (unknown_untouched said n)

pub writer : Writer
writer = record {
  asks = λ κs lent. tt;
  tells = λ κs lent a left. (learnt_ensured κs lent a left, ensured_learnt κs lent a left);
  unknown_kind = λ said b w d. unknown_kind said (record { base = b; wide = w; dated = d });
  written = written;
  bytes = λ which said r h. bytes which said r h;
  as_handed = λ which es x e rest said tasked linked begun few g room earned n.
      handed_so es x e rest (writes_as which said) tasked linked begun few g room (earned_judged _ _ x e earned) n;
  set_beyond = λ which es x m rest {ds = ds} {ls = ls} said tasked linked begun few g room reach.
      handed_so es x (arrival m) rest (writes_as which said) tasked linked begun few g room (beyond_judged which ds ls (past [] es) x g.few_tasks reach) (λ z. omega arith);
  as_the_reader = λ which said fit room read n. as_the_reader which said fit room read n;
  short = short;
  read_back = λ which said z room read. read_back which said z room read;
  again = again;
  untouched = untouched;
  rest = rest;
  one_answer = λ said said'. (said.answer ∙ sym said'.answer, said.buffer ∙ sym said'.buffer);
}
