-- Request 2026-04, "a task that reads its own last output": a field for each sentence, over links, tables, sound states and calls as the demands have them.
-- proofs/SelfLinks.antt has `self_links`. Soundness and demands 2 and 3 speak of all links, so of these too; here is what they come to.
-- Assumes nothing.
use Rattle.std.specs.Prelude.{◌≡◌, ◌≢◌, ◌↔◌, true, false, List, [], ◌∷◌, ◌++◌, ℕ, suc, ◌+◌, ◌≤◌, ◌<◌, length}
use Rattle.protocol.specs.Event.{arrival, has}
use Rattle.protocol.specs.Table.{Table, N}
use Rattle.protocol.specs.History.{arrivals, finishes}
use Rattle.protocol.specs.Published.{Boxes, Free}
use Rattle.protocol_deadlines.specs.Timed.{Timed, untimed}
use Rattle.protocol_state.specs.Records.{Task, link_of}
use Rattle.recording_format.specs.Link.{Link}
use Rattle.mailbox.specs.declared.State.{State}
use Rattle.mailbox.specs.declared.Step.{Step}
use Rattle.demands.specs.Station.{station}
use Rattle.demands.specs.Refusals.{Earns, LinkBreaks}
use Rattle.demands.specs.States.{IsSound, IsWhole, table_in, boxes_in, OtherPointer, standing_in}
use Rattle.demands.specs.Order.{EachRead}
use Rattle.demands.specs.Calls.{Call, call_event, Gives, Calls}
use Rattle.demands.specs.Outputs.{Gave}

-- the link x leads from a task of the table to itself
pub record ToItself (ds : List Task) (x : Link) : Type 0 where
  pub task : x.writer < length ds
  pub same : x.writer ≡ x.reader

-- so does link l of the table T
pub record SelfLink (T : Table ℕ) (l : ℕ) : Type 0 where
  pub link : l < T.links
  pub same : T.writer l ≡ T.reader l

-- the links ls have one from the writer of x to its reader
abbrev pub HasPair : List Link → Link → Type 0
HasPair ls x = (j : ℕ) × (j < length ls) × ((link_of ls j).writer ≡ x.writer) × ((link_of ls j).reader ≡ x.reader)

-- link l, from a task to itself, in the state q: it is delayed, its pointer is one of its task's N + 2 positions or absent (0), and there while the task is
-- active; its mark stands only with the pointer, and with it while the task has had fewer than two arrivals
pub record SoundlySet (q : State) (l : ℕ) : Type 0 where
  pub delayed : (table_in q).delayed l ≡ true
  pub pointer : (boxes_in q).pointer l ≤ N (table_in q) ((table_in q).reader l) + 2
  pub present : (standing_in q).active ((table_in q).reader l) ≡ true → 1 ≤ (boxes_in q).pointer l
  pub held : (boxes_in q).mark l ≡ true → 1 ≤ (boxes_in q).pointer l
  pub early : 1 ≤ (boxes_in q).pointer l → (boxes_in q).seen ((table_in q).reader l) < 2 → (boxes_in q).mark l ≡ true

pub record SelfLinks : Type 0 where
  -- "A delayed link from a task to itself is allowed;": one for each task, a second is 8
  pub allowed : (ds : List Task) (ls : List Link) (x : Link) → ToItself ds x → x.kind ≡ 1 → (HasPair ls x → ⊥) → Earns (LinkBreaks ds ls x) 0
  pub second : (ds : List Task) (ls : List Link) (x : Link) → ToItself ds x → x.kind ≡ 1 → HasPair ls x → Earns (LinkBreaks ds ls x) 8
  -- "a direct one stays refusal 5."; one that is neither is 6
  pub direct_refused : (ds : List Task) (ls : List Link) (x : Link) → ToItself ds x → x.kind ≡ 0 → Earns (LinkBreaks ds ls x) 5
  pub unknown_refused : (ds : List Task) (ls : List Link) (x : Link) → ToItself ds x → 1 < x.kind → Earns (LinkBreaks ds ls x) 6
  -- "isn't counted in N": wherever it stands among the links, no task has one more
  pub uncounted : (ds : List Task) (before : List Link) (x : Link) (after : List Link) → ToItself ds x → (t : ℕ) →
      N (station ds (before ++ (x ∷ after))) t ≡ N (station ds (before ++ after)) t
  -- nor is its pointer protected in the search: a position that is free is so wherever that points, in any table in which nobody is ahead of himself
  pub unprotected : (T : Table ℕ) → ((t : ℕ) → T.ahead t t ≡ false) → (l : ℕ) → SelfLink T l → (s s' : Boxes ℕ) (t p : ℕ) → s.newest t ≡ s'.newest t →
      ((k : ℕ) → k ≢ l → s.pointer k ≡ s'.pointer k) → Free T s t p → Free T s' t p
  -- "Its pointer is set at arrival like that of a reader ahead": to `previous`; and it is marked while the task has had fewer than two arrivals, this one
  -- included
  pub at_arrival : (q : State) (c : Call) (m : ℕ) (r : Step) → call_event c ≡ arrival m → Gives q c r → IsWhole q → IsSound q → r.answer.refusal ≡ 0 →
      (l : ℕ) → SelfLink (table_in q) l → has m ((table_in q).reader l) ≡ true →
      ((boxes_in r.state).pointer l ≡ (boxes_in r.state).previous ((table_in q).reader l))
      × (((boxes_in r.state).mark l ≡ true) ↔ ((boxes_in r.state).seen ((table_in q).reader l) < 2))
  -- "and stays at finish": at whatever event but an arrival of the task, and its mark with it
  pub stays : (q : State) (c : Call) (r : Step) → Gives q c r → IsWhole q → IsSound q → r.answer.refusal ≡ 0 →
      (l : ℕ) → SelfLink (table_in q) l → ((m : ℕ) → call_event c ≡ arrival m → has m ((table_in q).reader l) ≡ false) →
      ((boxes_in r.state).pointer l ≡ (boxes_in q).pointer l) × ((boxes_in r.state).mark l ≡ (boxes_in q).mark l)
  -- "soundness .. include[s] these links": a sound state has each of them so
  pub sound : (q : State) → IsSound q → (l : ℕ) → SelfLink (table_in q) l → SoundlySet q l
  -- and asks no more: with any other pointer p, 0 for none, and any other mark m that are so, it is sound
  pub no_more : (q q' : State) (l p m : ℕ) → IsWhole q → IsSound q → SelfLink (table_in q) l → OtherPointer q l p m q' →
      p ≤ N (table_in q) ((table_in q).reader l) + 2 → ((standing_in q).active ((table_in q).reader l) ≡ true → 1 ≤ p) →
      m ≤ 1 → (m ≡ 1 → 1 ≤ p) → (1 ≤ p → (boxes_in q).seen ((table_in q).reader l) < 2 → m ≡ 1) → IsSound q'
  -- "demands 2 and 3 include these links": the number read is the task's own last output, with which it last finished; in its first run, the start value
  pub last_output : {T : Table ℕ} {es : List (Timed ℕ)} {ns : List ℕ} {q : State} → Calls T es ns q →
      EachRead (λ h l n. T.writer l ≡ T.reader l → 1 ≤ finishes h (T.reader l) → Gave (T.reader l) h (finishes h (T.reader l)) n) [] (untimed es) ns
  pub first_run : {T : Table ℕ} {es : List (Timed ℕ)} {ns : List ℕ} {q : State} → Calls T es ns q →
      EachRead (λ h l n. T.writer l ≡ T.reader l → finishes h (T.reader l) ≡ 0 → n ≡ T.start_value l) [] (untimed es) ns
  -- and that is the run before this one: the run that reads is the next after those that have finished
  pub run_before : {T : Table ℕ} {es : List (Timed ℕ)} {ns : List ℕ} {q : State} → Calls T es ns q →
      EachRead (λ h l n. arrivals h (T.reader l) ≡ suc (finishes h (T.reader l))) [] (untimed es) ns
