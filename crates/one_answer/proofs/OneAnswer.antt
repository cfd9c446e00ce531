-- Two answers that a contract allows for one input are equal: each contract fixes all that its caller sees, by equations.
-- Assumes nothing.
use mathlib.Core.Path.{◌≡◌, refl, sym, ap, ◌∙◌}
use mathlib.Core.List.{List}
use Prim.Native.Nat.{ℕ}
use Rattle.protocol.specs.Event as protocol
use Rattle.protocol.specs.Event.{arrival, start, read, finish}
use Rattle.mailbox_event.specs.declared.Event.{Event}
use Rattle.mailbox_event.specs.declared.Event.TheVariants.{Arrival, Start, Read, Finish}
use Rattle.mailbox_event.specs.Plain.{plain}
use Rattle.std.specs.Prelude.{Result, Ok, Err}
use Rattle.refusals.specs.Numbers.{number}
use Rattle.refusals.specs.declared.Refusal.{Refusal}
use Rattle.refusals.specs.declared.Refused.{Refused}
use Rattle.refusals.proofs.Numbers.{number_not_0, number_once}
use Rattle.recording_format.specs.Event as format
use Rattle.mailbox_event.specs.declared.Kind.{Kind}
use Rattle.mailbox_event.specs.declared.Kind.TheVariants as kind
use Rattle.recording_event.specs.Next.{plain_kind, found_of, got_of}
use Rattle.recording_event.specs.declared.Record.{Record}
use Rattle.protocol_state.specs.Saved.{Saved}
use Rattle.protocol_deadlines.specs.Timed.{timed}
use Rattle.protocol_state.specs.Give.{Reply, Call}
use Rattle.protocol_state.specs.Fresh as fresh
use Rattle.byte_format.specs.Play.{Verdict}
use Rattle.mailbox.specs.States.{Gives, Makes}
use Rattle.mailbox_layout.specs.Layout.{control_of, values_of, times_of, fields_of}
use Rattle.mailbox.specs.declared.State.{State}
use Rattle.mailbox.specs.declared.Step.{Step}
use Rattle.mailbox.specs.declared.Made.{Made}
use Rattle.mailbox.proofs.Packed.{saved_same}
use Rattle.recording_table.specs.Heads.{Heads}
use Rattle.recording_table.specs.Sections.{HoldsTable, ReadsTable}
use Rattle.recording_table.specs.declared.Table.{Table}
use Rattle.recording_text.proofs.Texts.{one_read}
use Rattle.recording_make.proofs.Makes.{one_recording}
use Rattle.demands.proofs.Only.{reply_parts}
use Rattle.one_answer.specs.OneAnswer.{OneAnswer}

-- what is equal to one thing is equal
same : {A : Type 0} {x y z : A} → x ≡ z → y ≡ z → x ≡ y
same p q = p ∙ sym q

-- ---- what reading a record says fixes the code's answer: it can be had back

abbrev event_from : protocol.Event ℕ → Event
event_from (arrival s) = Arrival s
event_from (start t) = Start t
event_from (read l) = Read l
event_from (finish t v) = Finish t v

event_back : (e : Event) → event_from (plain e) ≡ e
event_back (Arrival s) = refl
event_back (Start t) = refl
event_back (Read l) = refl
event_back (Finish t v) = refl

one_next : (n m : Result Record Refusal) → got_of n ≡ got_of m → n ≡ m
one_next (Ok x) (Ok y) e =
    let u : timed x.tick (plain x.event) ≡ timed y.tick (plain y.event) = cc in
    let q : x.after ≡ y.after = cc in
    let t : x.tick ≡ y.tick = cc in
    let p : plain x.event ≡ plain y.event = cc in
    ap Ok (λ i. record { tick = t i; event = (sym (event_back x.event) ∙ ap event_from p ∙ event_back y.event) i; after = q i })
one_next (Ok x) (Err why) e = absurd cc
one_next (Err why) (Ok y) e = absurd cc
one_next (Err v) (Err w) e =
    let n : number v ≡ number w = cc in
    ap Err (number_once v w n)

abbrev kind_from : format.Kind → Kind
kind_from format.an_arrival = kind.Arrival
kind_from format.a_start = kind.Start
kind_from format.a_read = kind.Read
kind_from format.a_finish = kind.Finish

kind_back : (k : Kind) → kind_from (plain_kind k) ≡ k
kind_back kind.Arrival = refl
kind_back kind.Start = refl
kind_back kind.Read = refl
kind_back kind.Finish = refl

one_kind : (a b : Result Kind Refusal) → found_of a 0 ≡ found_of b 0 → a ≡ b
one_kind (Ok k) (Ok l) e =
    let p : plain_kind k ≡ plain_kind l = cc in
    ap Ok (sym (kind_back k) ∙ ap kind_from p ∙ kind_back l)
one_kind (Ok k) (Err why) e = absurd cc
one_kind (Err why) (Ok l) e = absurd cc
one_kind (Err v) (Err w) e =
    let n : number v ≡ number w = cc in
    ap Err (number_once v w n)

-- ---- what a state holds fixes it, where its arrays have their lengths

one_step : {q : State} {c : Call} {a b : Step} → Gives q c a → Gives q c b → a ≡ b
one_step {q} {c} {a} {b} x y =
    let r = same x.answer y.answer in
    λ i. record {
      state = saved_same a.state b.state x.whole y.whole (ap (λ (s : Reply). s.state) r) i;
      answer = record { refusal = (r i).refusal; value = (r i).value };
    }

one_made : {p T L : ℕ} {D X W R K B : List ℕ} (a b : Made) → Makes p T L D X W R K B a → Makes p T L D X W R K B b → a ≡ b
one_made a b x y =
    let m = same x.answer y.answer in
    λ i. record { refusal = (m i).refusal; state = saved_same a.state b.state x.whole y.whole (ap (λ (s : fresh.Made). s.state) m) i }

one_table : {p : ℕ} {x : Verdict Heads} (a b : Table) → HoldsTable p x a → HoldsTable p x b → a ≡ b
one_table a b x y = λ i. record {
  place = same x.place y.place i;
  events = same x.events y.events i;
  state = saved_same a.state b.state x.whole y.whole (same x.state y.state) i;
}

one_reading : {p : ℕ} {x : Verdict Heads} (a b : Result Table Refused) → ReadsTable p x a → ReadsTable p x b → a ≡ b
one_reading (Ok s) (Ok t) x y = ap Ok (one_table s t (x.table s refl) (y.table t refl))
one_reading (Ok s) (Err r) x y = absurd (number_not_0 r.refusal ((y.refused r refl).refusal ∙ (x.table s refl).none))
one_reading (Err r) (Ok t) x y = absurd (number_not_0 r.refusal ((x.refused r refl).refusal ∙ (y.table t refl).none))
one_reading (Err r) (Err q) x y =
    let u = x.refused r refl in
    let v = y.refused q refl in
    let refusal = number_once r.refusal q.refusal (same u.refusal v.refusal) in
    let place = same u.place v.place in
    ap Err (λ i. record { refusal = refusal i; place = place i })

-- what the arrays hold, without the counts
abbrev uncounted : Saved → Saved
uncounted q = fields_of 0 0 (control_of q) (values_of q) (times_of q)

-- ---- the theorem
pub one_answer : OneAnswer
one_answer = record {
  fresh = λ κs lent a b left left' x y. one_made a b x.0 y.0;
  fresh_dated = λ κs lent a b left left' x y. one_made a b x.0 y.0;
  arrival = λ κs lent a b left left' x y. one_step x.0 y.0;
  arrival_at_tick = λ κs lent a b left left' x y. one_step x.0 y.0;
  start = λ κs lent a b left left' x y. one_step x.0 y.0;
  start_at_tick = λ κs lent a b left left' x y. one_step x.0 y.0;
  read = λ κs lent a b left left' x y. one_step x.0 y.0;
  read_at_tick = λ κs lent a b left left' x y. one_step x.0 y.0;
  finish = λ κs lent a b left left' x y. one_step x.0 y.0;
  finish_at_tick = λ κs lent a b left left' x y. one_step x.0 y.0;
  event = λ κs lent a b left left' x y. one_step x.0 y.0;
  event_at_tick = λ κs lent a b left left' x y. one_step x.0 y.0;
  sound = λ κs lent a b left left' x y. same x y;
  single = λ κs lent a b left left' x y. saved_same a b x.1 y.1 (same x.0 y.0);
  itself = λ κs lent a b left left' x y. same x.0 y.0;
  state_defaults = λ κs lent a b left left' x y. same x y;
  state_phase = λ κs lent a b left left' x y. same x y;
  state_newest = λ κs lent a b left left' x y. same x y;
  state_previous = λ κs lent a b left left' x y. same x y;
  state_seen = λ κs lent a b left left' x y. same x y;
  state_cells = λ κs lent a b left left' x y. same x y;
  state_writer = λ κs lent a b left left' x y. same x y;
  state_reader = λ κs lent a b left left' x y. same x y;
  state_kind = λ κs lent a b left left' x y. same x y;
  state_start_value = λ κs lent a b left left' x y. same x y;
  state_pointer = λ κs lent a b left left' x y. same x y;
  state_mark = λ κs lent a b left left' x y. same x y;
  state_deadline = λ κs lent a b left left' x y. same x y;
  state_since = λ κs lent a b left left' x y. same x y;
  state_last = λ κs lent a b left left' x y. same x y;
  state_policy = λ κs lent a b left left' x y. same x y;
  replay = λ κs lent a b left left' x y. let e = reply_parts x.1.0 y.1.0 (same x.0 y.0) in λ i. (e.0 i, e.1 i);
  rest = λ κs lent a b left left' x y. same x y;
  read_event = λ κs lent a b left left' x y. one_next a b (same x y);
  read_tickless = λ κs lent a b left left' x y. one_next a b (same x y);
  event_in = λ κs lent a b left left' x y. one_next a b (same x y);
  head_size = λ κs lent a b left left' x y. same x y;
  kind_of = λ κs lent a b left left' x y. one_kind a b (same (x 0) (y 0));
  kind_from_byte = λ κs lent a b left left' x y. same x y;
  refused = λ why a b x y. one_next a b (same x y);
  number_of = λ κs lent a b left left' x y. same x y;
  read_table = λ κs lent a b left left' x y. one_reading a b x y;
  new = λ bytes at w w' x y. λ i. record { bytes = same x.0 y.0 i; at = same x.1 y.1 i };
  next = λ w n n' x y. one_next n n' (same x y);
  walk_rest = λ w part part' x y. same x y;
  event_at = λ κs lent a b left left' x y. one_next a b (same x y);
  write = λ κs lent a b left left' x y. λ i. (same x.0 y.0 i, same x.1.0 y.1.0 i);
  written_from = λ κs lent a b left left' x y. same x y;
  migrate = λ κs lent a b left left' x y. same x.0 y.0;
  write_back = λ κs lent a b left left' x y. λ i. (same x.0 y.0 i, same x.1.0 y.1.0 i);
  read_text = λ κs lent a b left left' x y. λ i. (one_read a b (same x.0 y.0) i, (same x.1.0 y.1.0 i, (same x.1.1.0 y.1.1.0 i, same x.1.1.1 y.1.1.1 i)));
  line_of = λ κs lent a b left left' x y. same x y;
  make_recording = λ κs lent a b left left' x y. λ i. (one_recording a b (same x.0 y.0) x.1.0 y.1.0 i, same x.1.1 y.1.1 i);
  unmade_from = λ κs lent a b left left' x y. same x y;
  host_fresh = λ κs lent a b left left' x y. let e = same x y in λ i. ((e i).refusal, (e i).state);
  host_fresh_dated = λ κs lent a b left left' x y. let e = same x y in λ i. ((e i).refusal, (e i).state);
  host_event = λ κs lent a b left left' x y. let e = same x.0 y.0 in
      λ i. ((e i).refusal, ((e i).value, uncounted (e i).state));
  host_event_at = λ κs lent a b left left' x y. let e = same x.0 y.0 in
      λ i. ((e i).refusal, ((e i).value, uncounted (e i).state));
  host_replay = λ κs lent a b left left' x y. let p = x.0 in let q = y.0 in
      λ i. (same p.refusal q.refusal i, (same p.place q.place i, (same p.counts q.counts i, (same p.state q.state i, same p.list q.list i))));
  host_write = λ κs lent a b left left' x y. let p = x.0 in let q = y.0 in
      λ i. (same p.refusal q.refusal i, (same p.place q.place i, same p.bytes q.bytes i));
  host_rest = λ κs lent a b left left' x y. same x y;
  host_sizes = λ κs lent a b left left' x y. same x y;
}
