-- What the functions over a walker tell: each clause is said here again, and that it is the one in the source is shown (`WalkerTells`).
-- Assumes nothing.
use Rattle.std.specs.Prelude.{◌≡◌, List, ℕ, Result, drop}
use seplogic.Ra.Ura.{Ura}
use base.Logic.{SProp}
use prog.Memory.{Memory}
use prog.Routine.{Routine}
use types.Logic.{Logic}
use contract.Lifetimes.{Lfts}
use contract.Monad.{Fun, fact}
use Rattle.std.specs.Borrow.{Bor}
use denote.Triple.Entry.{Args, Res}
use denote.Triple.Clauses.{AtExit}
use Rattle.recording_format.specs.RecordingKind.{kind_in}
use Rattle.recording_format.specs.Event.{event_at}
use Rattle.recording_event.specs.Next.{got_of}
use Rattle.refusals.specs.declared.Refusal.{Refusal}
use Rattle.recording_event.specs.declared.Record.{Record}
use Rattle.recording_walk.specs.declared.Walker.{Walker}
use Rattle.recording_walk.specs.contracts.new as of_new
use Rattle.recording_walk.specs.contracts.moved as of_moved
use Rattle.recording_walk.specs.contracts.next as of_next
use Rattle.recording_walk.specs.contracts.rest as of_rest

-- `new` and `moved`: a walker with these bytes, at this place
abbrev pub WalksFrom : Bor (List ℕ) → ℕ → Walker → Type 0
WalksFrom bytes at w = (w.bytes ≡ bytes) × (w.at ≡ at)

-- `next`: the event record at the walker's place
abbrev pub WalksTo : Walker → Result Record Refusal → Type 0
WalksTo w n = got_of n ≡ event_at (kind_in w.bytes.now) w.bytes.now w.at

-- `rest`: the part from the walker's place on
abbrev pub WalksLeft : Walker → Bor (List ℕ) → Type 0
WalksLeft w part = part.now ≡ drop w.at w.bytes.now

module _ {M : Type 1} {𝓤 : Ura M} (𝓛 : Logic 𝓤) (mem : Memory → SProp 𝓤) (run : Routine → Fun 𝓤) where
  -- the clauses in the source: `lent` are the arguments of a call, `left` is what they hold after it
  pub record WalkerTells : Type 2 where
    pub new : (κs : Lfts 1) (lent : Args of_new.signature κs) (w : Res of_new.signature κs) (left : AtExit of_new.ended κs) →
        (of_new.clauses 𝓛 mem run κs lent).ensures tt w left ≡ fact 𝓤 (WalksFrom lent.0 lent.1.0 w)
    pub moved : (κs : Lfts 1) (lent : Args of_moved.signature κs) (w : Res of_moved.signature κs) (left : AtExit of_moved.ended κs) →
        (of_moved.clauses 𝓛 mem run κs lent).ensures tt w left ≡ fact 𝓤 (WalksFrom lent.0.bytes lent.1.0 w)
    pub next : (κs : Lfts 1) (lent : Args of_next.signature κs) (n : Res of_next.signature κs) (left : AtExit of_next.ended κs) →
        (of_next.clauses 𝓛 mem run κs lent).ensures tt n left ≡ fact 𝓤 (WalksTo lent.0 n)
    pub rest : (κs : Lfts 1) (lent : Args of_rest.signature κs) (part : Res of_rest.signature κs) (left : AtExit of_rest.ended κs) →
        (of_rest.clauses 𝓛 mem run κs lent).ensures tt part left ≡ fact 𝓤 (WalksLeft lent.0 part)
