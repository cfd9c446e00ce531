-- The unread rest of a recording: what `recording::rest` hands back for the place of an answer that the contract of the replay allows.
-- Assumes nothing.
use mathlib.Core.Path.{◌≡◌, sym, ap, ◌∙◌}
use mathlib.Core.List.{List}
use Prim.Native.Nat.{ℕ}
use lib.ListN.{drop, take-append-drop}
use contract.Lifetimes.{Lfts}
use denote.Triple.Clauses.{AtExit}
use borrow.Fn.Kinds.{Dens, res_t, ended_of}
use Rattle.protocol_state.specs.Saved.{state_room}
use Rattle.recording_format.specs.RecordingKind.{kind_in, which_in}
use Rattle.recording_format.proofs.Outcomes.{place_within}
use Rattle.recording_core.specs.Playing.{core_of}
use Rattle.recording.proofs.rest.Kinds.{ps, r}
use Rattle.recording.proofs.rest.Reads.{Learnt}
use Rattle.recording.specs.declared.Answer.{Answer}
use Rattle.recording_demands.specs.Ensured.{Replays}
use Rattle.recording_demands.specs.Rest.{Unread}
use Rattle.recording_demands.proofs.Demands.{answered, accepted_only, accepted_rest}

-- the part of the recording from the place of its answer on is the unread rest
pub unread : {s out list rest : List ℕ} {a : Answer} → Replays s out a list → rest ≡ drop a.place s → Unread s a.refusal a.place rest
unread {s} {out} {list} {rest} {a} said e = record {
  part = e;
  within = place_within (kind_in s) (core_of state_room (kind_in s).policy out) s (answered said);
  whole = rw e (sym (take-append-drop a.place s));
  none = λ z. let g = accepted_only said z in e ∙ accepted_rest said (which_in s) g.1.1.1;
}

-- so is what a caller of `recording::rest` gets: `given` are the bytes that are lent and the place, `part` is what comes back
module _ (κs : Lfts 1) (given : Dens κs ps) (part : (res_t r κs).Denot) (left : AtExit (ended_of 1 ps r) κs) where
  pub rest_unread :
      {out list : List ℕ} {a : Answer} → Replays given.0.now out a list → given.1.0 ≡ a.place → Learnt κs given part left →
      Unread given.0.now a.refusal a.place part.now
  rest_unread said p learnt = unread said (learnt ∙ ap (λ (n : ℕ). drop n given.0.now) p)
