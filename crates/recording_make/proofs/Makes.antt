-- What is made of the numbers that are stored of a text.
-- Assumes nothing.
use mathlib.Core.Path.{◌≡◌, sym, ap, ◌∙◌}
use native.Mathlib.Omega.{arith}
use Rattle.std.proofs.Common.{Result, Ok, Err}
use mathlib.Core.List.{List}
use Prim.Native.Nat.{ℕ}
use mathlib.Core.Bool.{false}
use borrow.Author.Tests.{ne_eqb}
use lib.Dec.{eqb}
use lib.ListN.{length, take, drop}
use lib.Seq.{take-append_seam}
use Rattle.protocol_state.specs.Saved.{Saved}
use Rattle.byte_format.specs.Play.{Verdict}
use Rattle.recording_format.specs.RecordingKind.{which_kind}
use Rattle.recording_write.specs.declared.Written.{Written}
use Rattle.recording_write.specs.Answers.{written_of, reply_to, buffer_to}
use Rattle.recording_text_place.specs.Place.{line_of}
use Rattle.recording_text_fields.specs.Faults.{number}
use Rattle.recording_text_fields.proofs.Faults.{some_fault, one_fault}
use Rattle.recording_make.specs.declared.Unmade.{Unmade}
use Rattle.recording_make.specs.declared.Unmade.TheVariants.{Unreadable, Refused}
use Rattle.recording_text.specs.declared.Read.{Read}
use Rattle.recording_text.specs.declared.Unread.{Unread}
use Rattle.recording_text.specs.Text.{Answer, answer_at, read_of, over, kind_said, tasks_of, links_of, events_of}
use Rattle.recording_make.specs.Made.{Made, told, Refuses, line_told, unread, make_reply, made_of, buffer_of}

-- numbers at the start of a list are cut off again
over_taken : (ns old : List ℕ) {n : ℕ} {out : List ℕ} → n ≡ length ns → out ≡ over ns old → take n out ≡ ns
unfolding over
over_taken ns old e f = rw (e, f) (take-append_seam ns (drop (length ns) old))

module _ (text : List ℕ) (r : Read) (e : answer_at 0 0 r ≡ read_of text) where
  -- so are those that are stored of a text, as the answer counts them
  module _ (old : List ℕ) {out : List ℕ} where
    pub tasks_taken : out ≡ over (tasks_of text) old → take r.tasks out ≡ tasks_of text
    unfolding read_of
    tasks_taken = over_taken (tasks_of text) old (ap (λ (x : Answer). x.tasks) e)

    pub links_taken : out ≡ over (links_of text) old → take r.links out ≡ links_of text
    unfolding read_of
    links_taken = over_taken (links_of text) old (ap (λ (x : Answer). x.links) e)

    pub events_taken : out ≡ over (events_of text) old → take r.events out ≡ events_of text
    unfolding read_of
    events_taken = over_taken (events_of text) old (ap (λ (x : Answer). x.events) e)

  -- the kind that the answer says is the text's
  kind_is : r.kind ≡ kind_said text
  unfolding read_of
  kind_is = ap (λ (x : Answer). x.kind) e

  -- a text that can be read, whose kind is told and whose numbers are lent to the writer
  module _ {ds ls es : List ℕ} (d : ds ≡ tasks_of text) (l : ls ≡ links_of text) (v : es ≡ events_of text) where
    pub made_written : (room : ℕ) {x : Made} → x ≡ make_reply r.kind text (reply_to r.kind ds ls es room) → x ≡ made_of text room
    unfolding made_of
    made_written room h = h ∙ rw (← e, kind_is, d, l, v)

    pub buffer_written : (old : List ℕ) {out : List ℕ} → out ≡ buffer_to r.kind ds ls es old → out ≡ buffer_of text old
    unfolding buffer_of
    buffer_written old h = h ∙ rw (← e, kind_is, d, l, v)

-- a text that cannot be read
module _ (text : List ℕ) (u : Unread) (e : answer_at (number u.fault) u.line u.read ≡ read_of text) where
  fault_is : eqb (number u.fault) 0 ≡ false
  fault_is = ne_eqb (number u.fault) 0 (some_fault u.fault)

  pub made_unread : (room : ℕ) → unread (number u.fault) u.line ≡ made_of text room
  unfolding made_of
  made_unread room = rw (← e, fault_is)

  pub buffer_unread : (old : List ℕ) → old ≡ buffer_of text old
  unfolding buffer_of
  buffer_unread old = rw (← e, fault_is)

-- the writer's answer, with no line where it accepts, or the line of its refusal
module _ (kind : ℕ) (text : List ℕ) (x : Verdict Saved) {w : Written} (e : w ≡ written_of x) where
  refusal_is : w.refusal ≡ x.refusal
  refusal_is = ap (λ (v : Written). v.refusal) e

  place_is : w.place ≡ x.place
  place_is = ap (λ (v : Written). v.place) e

  pub accepted_lem : w.refusal ≡ 0 → record { fault = 0; line = 0; refusal = 0; place = w.place } ≡ make_reply kind text x
  unfolding line_told
  accepted_lem z = rw (← refusal_is, ← place_is, z)

  pub refused_lem : (w.refusal ≡ 0 → ⊥) → {l : ℕ} → l ≡ line_of (which_kind kind) text w.refusal w.place → record { fault = 0; line = l; refusal = w.refusal; place = w.place } ≡ make_reply kind text x
  unfolding line_told
  refused_lem n h = rw (← refusal_is, ← place_is, ne_eqb w.refusal 0 n, h)

-- the code's answer is fixed by what it tells
pub one_recording : (a b : Result ℕ Unmade) → told a ≡ told b → Refuses a → Refuses b → a ≡ b
one_recording (Ok n) (Ok m) e h k = λ i. Ok ((e i).place)
one_recording (Ok n) (Err (Unreadable f l)) e h k = absurd (some_fault f (sym (ap (λ (x : Made). x.fault) e)))
one_recording (Ok n) (Err (Refused r p l)) e h k = absurd (omega (arith, ap (λ (x : Made). x.refusal) e))
one_recording (Err (Unreadable f l)) (Ok n) e h k = absurd (some_fault f (ap (λ (x : Made). x.fault) e))
one_recording (Err (Unreadable f l)) (Err (Unreadable g m)) e h k =
    let q = one_fault f g (ap (λ (x : Made). x.fault) e) in
    λ i. Err (Unreadable (q i) ((e i).line))
one_recording (Err (Unreadable f l)) (Err (Refused r p m)) e h k = absurd (some_fault f (ap (λ (x : Made). x.fault) e))
one_recording (Err (Refused r p l)) (Ok n) e h k = absurd (omega (arith, ap (λ (x : Made). x.refusal) e))
one_recording (Err (Refused r p l)) (Err (Unreadable g m)) e h k = absurd (some_fault g (sym (ap (λ (x : Made). x.fault) e)))
one_recording (Err (Refused r p l)) (Err (Refused s q m)) e h k = λ i. Err (Refused ((e i).refusal) ((e i).place) ((e i).line))
