-- What the demands take of a replay: for any bytes s, any lent list out, and any answer a and list that its contract allows.
-- Assumes nothing.
use mathlib.Core.Path.{◌≡◌, ap, sym, subst, ◌∙◌}
use mathlib.Core.List.{List, []}
use Prim.Native.Nat.{ℕ, ◌≤◌, ◌<◌}
use native.Mathlib.Omega.{arith}
use lib.ListN.{length, take, drop}
use lib.Seq.{drop-length}
use Rattle.protocol_deadlines.specs.Timed.{Timed}
use Rattle.protocol_state.specs.Records.{Task}
use Rattle.protocol_state.specs.Saved.{state_room}
use Rattle.byte_format.specs.Play.{Verdict, verdict, Cut}
use Rattle.recording_format.specs.Link.{Link}
use Rattle.recording_format.specs.Event.{events}
use Rattle.recording_format.specs.RecordingKind.{any_kind, kind_in, which_in}
use Rattle.recording_format.specs.declared.WhichKind.{WhichKind}
use Rattle.recording_format.specs.Recording.{encode_recording, through_e, recording}
use Rattle.recording_format.specs.Outcome.{RecordingOutcome}
use Rattle.recording_format.proofs.AllKinds.{kind_room, kind_counts, kind_dates, kind_said_lem, kind_said_cut}
use Rattle.recording_format.proofs.Outcomes.{recording_outcome}
use Rattle.recording_format.proofs.Decided.{outcome_is}
use Rattle.recording_core.specs.Playing.{Playing, core_of, stepped_in}
use Rattle.recording_core.specs.Promise.{CoreGenuine}
use Rattle.protocol.specs.History.{past}
use Rattle.protocol_state.specs.Fresh.{fresh_of}
use Rattle.recording_core.specs.Right.{Right}
use Rattle.recording_core.proofs.Promises.{accepted_genuine, genuine_accepted, power_cut, cut_whole}
use Rattle.recording.specs.Answers.{replied}
use Rattle.recording.specs.declared.Answer.{Answer}
use Rattle.recording_demands.specs.Ensured.{Replays}

module _ {s out list : List ℕ} {a : Answer} (said : Replays s out a list) where
  -- where the first fault lies, or that there is none
  pub answered : RecordingOutcome (kind_in s) (core_of state_room (kind_in s).policy out) s (replied a list)
  answered =
      subst (λ (x : Verdict Playing). RecordingOutcome (kind_in s) (core_of state_room (kind_in s).policy out) s x) (sym said.answer) (recording_outcome (kind_in s) (core_of state_room (kind_in s).policy out) s said.bytes)

  -- and no other answer has the first fault of these bytes
  pub only_answer : {x : Verdict Playing} → RecordingOutcome (kind_in s) (core_of state_room (kind_in s).policy out) s x → x ≡ replied a list
  only_answer o = outcome_is (kind_in s) (core_of state_room (kind_in s).policy out) s o ∙ sym said.answer

  -- accepted only if there are a table, links and events whose encoding the bytes are, and so on
  pub accepted_only : a.refusal ≡ 0 → (ds : List Task) × ((ls : List Link) × ((es : List (Timed ℕ)) × CoreGenuine (kind_in s) state_room s out ds ls es))
  accepted_only z = accepted_genuine (kind_in s) (kind_dates (which_in s)) state_room (kind_room (which_in s)) out s said.bytes (sym (ap (λ (x : Verdict Playing). x.refusal) said.answer) ∙ z)

  module _ (which : WhichKind) where
    -- the answer by a kind whose first byte the bytes have
    pub answer_by : which_in s ≡ which → replied a list ≡ recording (any_kind which) (core_of state_room (any_kind which).policy out) s
    answer_by e = said.answer ∙ ap (λ (w : WhichKind). recording (any_kind w) (core_of state_room (any_kind w).policy out) s) e

    module _ {ds : List Task} {ls : List Link} {es : List (Timed ℕ)} (g : CoreGenuine (any_kind which) state_room s out ds ls es) where
      genuine : (q : Playing) × (recording (any_kind which) (core_of state_room (any_kind which).policy out) s ≡ verdict 0 (length s) q) × Right state_room (fresh_of state_room (any_kind which).policy ds ls) out (past [] es) q
      genuine = genuine_accepted (any_kind which) (kind_dates which) state_room (kind_room which) out (kind_counts which) g

      answer_is : replied a list ≡ verdict 0 (length s) genuine.0
      answer_is = answer_by (ap which_in g.bytes ∙ kind_said_lem which) ∙ genuine.1

      -- and always then; the place is the length
      pub accepted_all : (a.refusal ≡ 0) × (a.place ≡ length s)
      accepted_all = (ap (λ (x : Verdict Playing). x.refusal) answer_is, ap (λ (x : Verdict Playing). x.place) answer_is)

      -- the rest is empty after acceptance
      pub accepted_rest : drop a.place s ≡ []
      accepted_rest = ap (λ (n : ℕ). drop n s) accepted_all.1 ∙ drop-length s

-- the power cut: of a recording that is accepted only the first m bytes are kept, at least through E
module _ (which : WhichKind) {s out list : List ℕ} {ds : List Task} {ls : List Link} {es : List (Timed ℕ)} {a : Answer} (g : CoreGenuine (any_kind which) state_room s out ds ls es) (m : ℕ)
    (said : Replays (take m s) out a list) where
  module _ (through : through_e (any_kind which) ds ls ≤ m) (lost : m < length s) where
    -- the first byte is among them
    still_said : which_in (take m s) ≡ which
    still_said = ap (λ (b : List ℕ). which_in (take m b)) g.bytes ∙ kind_said_cut which _ m (omega (arith, through))

    -- 1 at the first record that isn't whole, and the state, the counts and the list after the whole records
    pub after_cut : Cut (events (any_kind which)) stepped_in ((core_of state_room (any_kind which).policy out).start ds ls) es (through_e (any_kind which) ds ls) m (replied a list)
    after_cut =
        subst (λ (x : Verdict Playing). Cut (events (any_kind which)) stepped_in ((core_of state_room (any_kind which).policy out).start ds ls) es (through_e (any_kind which) ds ls) m x) (sym (answer_by said which still_said))
        (power_cut (any_kind which) (kind_dates which) state_room (kind_room which) out (kind_counts which) g m through lost)

    -- "The answer is that of its whole records (state, counts, list)": of a replay of those records alone, with 1 in place of 0
    pub as_whole :
        {b : Answer} {after : List ℕ} → Replays (encode_recording (any_kind which) ds ls after_cut.whole) out b after →
        replied b after ≡ verdict 0 a.place (replied a list).state
    as_whole whole = answer_by whole which (kind_said_lem which) ∙ cut_whole (any_kind which) (kind_dates which) state_room (kind_room which) out (kind_counts which) g m after_cut
