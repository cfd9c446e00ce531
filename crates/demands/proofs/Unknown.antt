-- Demand 1: a first byte of no kind of recording, a byte that is no kind of event, and a link of an unknown kind, are refused at their place.
-- Assumes nothing.
use mathlib.Core.Path.{◌≡◌, refl, sym, ap, subst}
use mathlib.Core.Logic.{◌≢◌, ◌⊎◌, inl, inr}
use mathlib.Core.List.{List}
use Prim.Native.Nat.{ℕ, ◌+◌, ◌≤◌, ◌<◌}
use native.Mathlib.Omega.{arith}
use lib.ListN.{length, get_or}
use Rattle.protocol_deadlines.specs.Timed.{Timed}
use Rattle.protocol_state.specs.Records.{Task, ahead_of}
use Rattle.byte_format.specs.Play.{Verdict}
use Rattle.recording_format.specs.RecordingKind.{base_recording, wide_recording, dated_recording, any_kind}
use Rattle.recording_format.specs.declared.WhichKind.{WhichKind}
use Rattle.recording_format.specs.Link.{Link, link_size, link_at, link_fault}
use Rattle.recording_format.specs.Recording.{encode_recording}
use Rattle.recording_core.specs.Playing.{Playing}
use Rattle.recording.specs.declared.Answer.{Answer}
use Rattle.recording_demands.specs.Ensured.{Replays}
use Rattle.recording_demands.proofs.Demands.{only_answer}
use Rattle.demands.specs.Refusals.{turn, Earns, none, first, LinkBreaks, no_task, direct_to_itself, unknown_kind, direct_ahead, twice, ninth, starts_direct}
use Rattle.demands.specs.Recordings.{Genuine, LinksBegun, EventsBegun, KindOf, other_first, bad_link}
use Rattle.demands.specs.Recordings as recordings
use Rattle.demands.proofs.Links.{link_earned}
use Rattle.demands.proofs.TableFaults.{fault_found}
use Rattle.demands.proofs.Found.{found}

pub unknown_first : {s out list : List ℕ} {a : Answer} → Replays s out a list → 1 ≤ length s → get_or s 0 0 ≢ base_recording.first → get_or s 0 0 ≢ wide_recording.first →
    get_or s 0 0 ≢ dated_recording.first → (a.refusal ≡ 2) × (a.place ≡ 0)
unknown_first {s} {out} said h o w d =
    let e = sym (only_answer said (fault_found s out (other_first h o w d))) in
    (ap (λ (x : Verdict Playing). x.refusal) e, ap (λ (x : Verdict Playing). x.place) e)

pub unknown_event : {which : WhichKind} {s out list : List ℕ} {ds : List Task} {a : Answer} {ls : List Link} {es : List (Timed ℕ)} {E p : ℕ} → Replays s out a list →
    Genuine which (encode_recording (any_kind which) ds ls es) out ds ls es → EventsBegun which s ds ls E es p → length es < E → p < length s → ((n : ℕ) → KindOf which (get_or s p 0) n → ⊥) →
    (a.refusal ≡ 11) × (a.place ≡ p)
unknown_event said g b more h u =
    let e = sym (only_answer said (found b g (recordings.unknown_kind more h u))) in
    (ap (λ (x : Verdict Playing). x.refusal) e, ap (λ (x : Verdict Playing). x.place) e)

-- of the rules that are tried before rule 6 only 4 is no rule of direct links
before_six : {ds : List Task} {ls : List Link} {l : Link} {n : ℕ} → 1 < l.kind → LinkBreaks ds ls l n → ((m : ℕ) → turn m < turn n → LinkBreaks ds ls l m → ⊥) → (n ≡ 4) ⊎ (n ≡ 6)
unfolding turn
before_six k (no_task h) f = inl refl
before_six k (direct_to_itself z e) f = absurd (omega arith)
before_six k (unknown_kind a b) f = inr refl
before_six k (direct_ahead z h) f = absurd (omega arith)
before_six k (twice j h a b) f = absurd (f 6 (omega arith) (unknown_kind (λ z. omega arith) (λ z. omega arith)))
before_six k (ninth h b) f = absurd (f 6 (omega arith) (unknown_kind (λ z. omega arith) (λ z. omega arith)))
before_six k (starts_direct z n) f = absurd (omega arith)

-- what a link of an unknown kind earns: rule 6 fits
unknown_earns : {ds : List Task} {ls : List Link} {l : Link} {r : ℕ} → 1 < l.kind → Earns (LinkBreaks ds ls l) r → (r ≡ 4) ⊎ (r ≡ 6)
unknown_earns k (none f) = absurd (f 6 (unknown_kind (λ z. omega arith) (λ z. omega arith)))
unknown_earns k (first b f) = before_six k b f

-- so it is refused
four_or_six : {r : ℕ} → (r ≡ 4) ⊎ (r ≡ 6) → r ≢ 0
four_or_six (inl e) z = omega arith
four_or_six (inr e) z = omega arith

pub unknown_link : {which : WhichKind} {s out list : List ℕ} {ds : List Task} {a : Answer} {ls : List Link} {L p : ℕ} → Replays s out a list →
    LinksBegun which s ds L ls p → length ls < L → p + link_size (any_kind which) ≤ length s → 1 < (link_at s p).kind →
    Earns (LinkBreaks ds ls (link_at s p)) a.refusal × ((a.refusal ≡ 4) ⊎ (a.refusal ≡ 6)) × (a.place ≡ p)
unknown_link {which} {s} {out} {list} {ds} {a} {ls} {L} {p} said b more h k =
    let g = link_earned ds ls (link_at s p) in
    let n : link_fault (ahead_of ds) (length ds) ls (link_at s p) ≢ 0 = four_or_six (unknown_earns k g) in
    let e = sym (only_answer said (fault_found s out (bad_link which b more h g n))) in
    let r = ap (λ (x : Verdict Playing). x.refusal) e in
    let same = subst (λ (x : ℕ). Earns (LinkBreaks ds ls (link_at s p)) x) (sym r) g in
    (same, unknown_earns k same, ap (λ (x : Verdict Playing). x.place) e)
