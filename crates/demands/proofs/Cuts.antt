-- The power cut, and that the replay's contract allows one answer.
-- Assumes nothing.
use mathlib.Core.Path.{◌≡◌, sym, ap, ◌∙◌}
use mathlib.Core.List.{List, [], ◌∷◌, append-nil}
use Prim.Native.Nat.{ℕ, ◌+◌, ◌≤◌, ◌<◌}
use native.Mathlib.Omega.{arith}
use lib.ListN.{length, take}
use lib.Seq.{take_all}
use Rattle.protocol_deadlines.specs.Timed.{Timed}
use Rattle.protocol_state.specs.Saved.{state_room}
use Rattle.protocol_state.specs.Records.{Task}
use Rattle.byte_format.specs.Format.{encodes}
use Rattle.byte_format.specs.Play.{Verdict, Cut}
use Rattle.recording_format.specs.RecordingKind.{any_kind}
use Rattle.recording_format.specs.declared.WhichKind.{WhichKind}
use Rattle.recording_format.specs.Link.{Link}
use Rattle.recording_format.specs.Event.{events}
use Rattle.recording_format.specs.Recording.{through_e}
use Rattle.recording_core.specs.Playing.{Playing, core_of, stepped_in}
use Rattle.mailbox.proofs.Packed.{saved_same}
use Rattle.recording.specs.Answers.{replied}
use Rattle.recording.specs.declared.Answer.{Answer}
use Rattle.recording_demands.specs.Ensured.{Replays}
use Rattle.recording_demands.proofs.Demands.{after_cut, as_whole}
use Rattle.demands.specs.Recordings.{event_bytes, Genuine}
use Rattle.demands.specs.Demands.{CutShort}
use Rattle.demands.proofs.Genuine.{genuine_core, exactly}
use Rattle.demands.proofs.Only.{reply_parts}

pub one_answer : {s out list list' : List ℕ} {a a' : Answer} → Replays s out a list → Replays s out a' list' → (a ≡ a') × (list ≡ list')
one_answer said said' = reply_parts said.whole said'.whole (said.answer ∙ sym said'.answer)

-- the bytes of one event
one_event : (which : WhichKind) (e : Timed ℕ) → length (event_bytes which (e ∷ [])) ≡ length ((events (any_kind which)).encode e)
unfolding encodes
one_event which e = ap length (append-nil ((events (any_kind which)).encode e))

module _ {which : WhichKind} {s out after : List ℕ} {ds : List Task} {ls : List Link} {es : List (Timed ℕ)} {b : Answer} {m : ℕ} (g : Genuine which s out ds ls es) (said : Replays (take m s) out b after) where
  pub power_cut : through_e (any_kind which) ds ls ≤ m → m < length s → CutShort which out ds ls es m b after
  power_cut through lost =
      let c : Cut (events (any_kind which)) stepped_in ((core_of state_room (any_kind which).policy out).start ds ls) es (through_e (any_kind which) ds ls) m (replied b after) = after_cut which (genuine_core g) m said through lost in
      let p : b.place ≡ through_e (any_kind which) ds ls + length (encodes (events (any_kind which)) c.whole) = ap (λ (x : Verdict Playing). x.place) c.says in
      record {
        whole = c.whole;
        partly = c.partly;
        gone = c.gone;
        all = c.all;
        from = p;
        inside = (omega (arith, c.from), omega (arith, c.inside, one_event which c.partly));
        refusal = ap (λ (x : Verdict Playing). x.refusal) c.says;
        as_whole = λ {c = d} {list} whole.
            let e = as_whole which (genuine_core g) m said through lost whole in (
              ap (λ (x : Verdict Playing). x.refusal) e,
              saved_same b.state d.state said.whole whole.whole (sym (ap (λ (x : Verdict Playing). x.state.state) e)),
              sym (ap (λ (x : Verdict Playing). x.state.counts) e),
              sym (ap (λ (x : Verdict Playing). x.state.list) e),
            );
      }

  pub nothing_lost : {list : List ℕ} {a : Answer} → Replays s out a list → length s ≤ m → (b.refusal ≡ 0) × (b ≡ a) × (after ≡ list)
  nothing_lost whole all =
      let all_there : Replays s out b after = rw (take_all m s all) at said in
      let e = one_answer all_there whole in
      ((exactly all_there).1 (which, (ds, (ls, (es, g)))), e.0, e.1)
