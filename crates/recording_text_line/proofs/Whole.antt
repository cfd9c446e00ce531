-- The numbers of a line are those of one whole record, as the writer takes them in a recording of the text's kind.
-- Assumes nothing.
use mathlib.Core.Path.{◌≡◌, refl, sym, ap, ◌∙◌}
use mathlib.Core.Bool.{Bool, true, false, cond, true≢false}
use mathlib.Core.List.{List, [], ◌∷◌, ◌++◌}
use Prim.Native.Nat.{ℕ, ◌+◌}
use native.Mathlib.Omega.{arith}
use borrow.Author.Tests.{eqb-true, ltb-false}
use lib.Dec.{eqb, ltb}
use lib.ListN.{length, get_or, length-append}
use Rattle.lists.proofs.Bools.{cond_of}
use Rattle.byte_format.specs.Stands.{Stands}
use Rattle.byte_format.specs.Format.{Got, got}
use Rattle.byte_format.proofs.Standing.{stands_first, byte_stands}
use Rattle.byte_format.proofs.Kinded.{record_whole}
use Rattle.recording_format.specs.RecordingKind.{RecordingKind, any_kind, which_kind}
use Rattle.recording_format.specs.Event.{Kind, an_arrival, a_start, a_read, a_finish}
use Rattle.recording_format.specs.Words.{deadline_numbers, tick_numbers, task_said_at, task_said, link_said_at, link_said, head_numbers, words_of, said_at, said_kinds, event_said}
use Rattle.recording_format.proofs.TableRecords.{stands_sized}
use Rattle.recording_format.proofs.EventKinds.{byte_of}
use Rattle.recording_format.proofs.Words.{words_told}
use Rattle.recording_text_fields.specs.Numeral.{is_digit, value, number_fault, first_fault, field_values, set_of, handed_set}
use Rattle.recording_text_fields.specs.Pieces.{fields}
use Rattle.recording_text_line.specs.Line.{Says, faulty, saying, sort, fields_wanted, front, counted_out, record_of, lettered, letter_of, begins, letter_says, event_says, tick_says, fields_say, says, is_dated}

-- numbers that the writer takes as one record, wherever they stand
abbrev pub Taken : {A : Type 0} → (List ℕ → ℕ → Got A) → List ℕ → Type 0
Taken {A} read ns = (ws : List ℕ) (p q : ℕ) → Stands ws p ns q → (a : A) × (read ws p ≡ got a q)

link_taken : (ns : List ℕ) → length ns ≡ 4 → Taken link_said ns
link_taken ns e ws p q x = (link_said_at ws p, stands_sized 4 (link_said_at ws p) e x)

module _ (kind : RecordingKind) where
  task_taken : (ns : List ℕ) → length ns ≡ 1 + deadline_numbers kind → Taken (task_said kind) ns
  task_taken ns e ws p q x = (task_said_at kind ws p, stands_sized (1 + deadline_numbers kind) (task_said_at kind ws p) e x)

  event_taken : (k : Kind) (ns : List ℕ) → length ns + 1 ≡ words_of kind k → Taken (event_said kind) (byte_of k ∷ ns)
  event_taken k ns e ws p q x =
      let n : p + words_of kind k ≡ q = omega (arith, x.next) in
      (said_at kind k ws p, record_whole (said_kinds kind) byte_of (words_told kind) ws p k (byte_stands (stands_first (byte_of k ∷ []) ns x)) (omega (arith, x.within)) ∙ ap (got (said_at kind k ws p)) n)

-- what a line says is a whole record of its sort, or none
pub record Whole (kind : RecordingKind) (s : Says) : Type 0 where
  pub task : sort s.letter ≡ 1 → Taken (task_said kind) s.numbers
  pub link : sort s.letter ≡ 2 → Taken link_said s.numbers
  pub event : sort s.letter ≡ 3 → Taken (event_said kind) s.numbers

-- none
pub other_whole : (kind : RecordingKind) (s : Says) → (sort s.letter ≡ 1 → ⊥) → (sort s.letter ≡ 2 → ⊥) → (sort s.letter ≡ 3 → ⊥) → Whole kind s
other_whole kind s a b c = record { task = λ h. absurd (a h); link = λ h. absurd (b h); event = λ h. absurd (c h) }

faulty_whole : (kind : RecordingKind) (f : ℕ) → Whole kind (faulty f)
unfolding sort
faulty_whole kind f = other_whole kind (faulty f) (λ h. omega arith) (λ h. omega arith) (λ h. omega arith)

-- a recording of the kind has ticks and relative deadlines exactly where the text is dated
pub record Fit (kind : RecordingKind) (dated : Bool) : Type 0 where
  pub deadline : cond dated 1 0 ≡ deadline_numbers kind
  pub tick : cond dated 1 0 ≡ tick_numbers kind

module _ (kind : RecordingKind) (dated : Bool) (fit : Fit kind dated) (tick : List ℕ) where
  module _ (ns : List ℕ) where
    counted_whole : (b : ℕ) → (length ns ≡ fields_wanted dated b → Whole kind (saying b (front tick b ++ ns))) → Whole kind (counted_out dated tick b ns)
    counted_whole b w = go (ltb (length ns) (fields_wanted dated b)) refl (ltb (fields_wanted dated b) (length ns)) refl
      where
        go : (x : Bool) → ltb (length ns) (fields_wanted dated b) ≡ x → (y : Bool) → ltb (fields_wanted dated b) (length ns) ≡ y → Whole kind (counted_out dated tick b ns)
        go true e y f = rw e (faulty_whole kind 4)
        go false e true f = rw (e, f) (faulty_whole kind 5)
        go false e false f = rw (e, f) (w (omega (arith, ltb-false (length ns) (fields_wanted dated b) e, ltb-false (fields_wanted dated b) (length ns) f)))

    -- the letters of events, where the tick stands as often as in a recording of the kind
    module _ (t : length tick ≡ tick_numbers kind) where
      event_whole : (b : ℕ) (k : Kind) (fs : List ℕ) → sort b ≡ 3 → head_numbers kind + length fs ≡ words_of kind k → Whole kind (saying b (byte_of k ∷ tick ++ fs))
      event_whole b k fs s e =
          record {
            task = λ h. absurd (omega (arith, s, h));
            link = λ h. absurd (omega (arith, s, h));
            event = λ h. event_taken kind k (tick ++ fs) (omega (arith, length-append tick fs));
          }

      arrival : Whole kind (record_of dated tick 65 ns)
      unfolding record_of sort
      arrival = event_whole 65 an_arrival (handed_set (set_of ns) ∷ []) refl refl

      start : Whole kind (record_of dated tick 83 ns)
      unfolding record_of sort
      start = counted_whole 83 (λ e. event_whole 83 a_start ns refl (omega arith))

      reading : Whole kind (record_of dated tick 82 ns)
      unfolding record_of sort
      reading = counted_whole 82 (λ e. event_whole 82 a_read ns refl (omega arith))

      finish : Whole kind (record_of dated tick 70 ns)
      unfolding record_of sort
      finish = counted_whole 70 (λ e. event_whole 70 a_finish ns refl (omega arith))

    link : Whole kind (record_of dated tick 76 ns)
    unfolding record_of sort
    link = counted_whole 76 (λ e. record { task = λ h. absurd (omega arith); link = λ h. link_taken ns e; event = λ h. absurd (omega arith) })

    task : Whole kind (record_of dated tick 84 ns)
    unfolding record_of sort
    task = counted_whole 84 (λ e. record { task = λ h. task_taken kind ns (e ∙ wanted dated fit.deadline); link = λ h. absurd (omega arith); event = λ h. absurd (omega arith) })
      where
        wanted : (d : Bool) → cond d 1 0 ≡ deadline_numbers kind → fields_wanted d 84 ≡ 1 + deadline_numbers kind
        wanted true q = omega arith
        wanted false q = omega arith

    record_of_whole : (b : ℕ) → (sort b ≡ 3 → length tick ≡ tick_numbers kind) → Whole kind (record_of dated tick b ns)
    unfolding record_of sort
    record_of_whole b t = go (eqb b 65) (eqb b 83) (eqb b 82) (eqb b 70) (eqb b 76) (eqb b 84) refl refl refl refl refl refl
      where
        go :
            (a s r f l k : Bool) → eqb b 65 ≡ a → eqb b 83 ≡ s → eqb b 82 ≡ r → eqb b 70 ≡ f → eqb b 76 ≡ l → eqb b 84 ≡ k → Whole kind (record_of dated tick b ns)
        go true s r f l k ea es er ef el ek = let q = eqb-true b 65 ea in rw q (arrival (t (rw q refl)))
        go false true r f l k ea es er ef el ek = let q = eqb-true b 83 es in rw q (start (t (rw q refl)))
        go false false true f l k ea es er ef el ek = let q = eqb-true b 82 er in rw q (reading (t (rw q refl)))
        go false false false true l k ea es er ef el ek = let q = eqb-true b 70 ef in rw q (finish (t (rw q refl)))
        go false false false false true k ea es er ef el ek = rw (eqb-true b 76 el) link
        go false false false false false true ea es er ef el ek = rw (eqb-true b 84 ek) task
        go false false false false false false ea es er ef el ek = rw ea (counted_whole b (λ e. kind_line (eqb b 75) (rw (ek, el, ea, es, er, ef))))
          where
            kind_line : (x : Bool) → sort b ≡ cond x 4 0 → Whole kind (saying b (front tick b ++ ns))
            kind_line true q = other_whole kind _ (λ h. omega arith) (λ h. omega arith) (λ h. omega arith)
            kind_line false q = other_whole kind _ (λ h. omega arith) (λ h. omega arith) (λ h. omega arith)

  lettered_whole : (b : ℕ) (fs : List (List ℕ)) → (sort b ≡ 3 → length tick ≡ tick_numbers kind) → Whole kind (lettered dated tick b fs)
  unfolding lettered
  lettered_whole b fs t = cond_of (Whole kind) (eqb (first_fault fs) 0) (record_of_whole (field_values fs) b t) (faulty_whole kind (first_fault fs))

-- in a dated text no line begins with the letter of an event
no_tick : (dated : Bool) → begins dated 3 ≡ true → dated ≡ false
no_tick true e = absurd (true≢false (sym e))
no_tick false e = refl

module _ (kind : RecordingKind) where
  letter_whole : (dated : Bool) → Fit kind dated → (f : List ℕ) (fs : List (List ℕ)) → Whole kind (letter_says dated f fs)
  unfolding letter_says
  letter_whole dated fit f fs = go (begins dated (sort (letter_of f))) refl
    where
      go : (x : Bool) → begins dated (sort (letter_of f)) ≡ x → Whole kind (cond x (lettered dated [] (letter_of f) fs) (faulty 1))
      go true e = lettered_whole kind dated fit [] (letter_of f) fs (λ h. ap (λ (d : Bool). cond {A = ℕ} d 1 0) (sym (no_tick dated (rw h at e))) ∙ fit.tick)
      go false e = faulty_whole kind 1

  event_line : Fit kind true → (x : ℕ) (fs : List (List ℕ)) → Whole kind (event_says x fs)
  unfolding event_says
  event_line fit x [] = faulty_whole kind 1
  event_line fit x (f ∷ fs) = cond_of (Whole kind) (eqb (sort (letter_of f)) 3) (lettered_whole kind true fit (x ∷ []) (letter_of f) fs (λ h. fit.tick)) (faulty_whole kind 1)

  tick_line : Fit kind true → (f : List ℕ) (fs : List (List ℕ)) → Whole kind (tick_says f fs)
  unfolding tick_says
  tick_line fit f fs = cond_of (Whole kind) (eqb (number_fault f) 0) (event_line fit (value f) fs) (faulty_whole kind (number_fault f))

  fields_whole : (dated : Bool) → Fit kind dated → (fs : List (List ℕ)) → Whole kind (fields_say dated fs)
  unfolding fields_say
  fields_whole dated fit [] = faulty_whole kind 0
  fields_whole true fit (f ∷ fs) =
      cond_of (Whole kind) (eqb (get_or f 0 0) 35) (faulty_whole kind 0) (cond_of (Whole kind) (is_digit (get_or f 0 0)) (tick_line fit f fs) (letter_whole true fit f fs))
  fields_whole false fit (f ∷ fs) = cond_of (Whole kind) (eqb (get_or f 0 0) 35) (faulty_whole kind 0) (letter_whole false fit f fs)

-- each line of a text that is dated, or not, as the kind is
pub line_whole : (kind : RecordingKind) (dated : Bool) → Fit kind dated → (l : List ℕ) → Whole kind (says dated l)
line_whole kind dated fit l = fields_whole kind dated fit (fields l)

-- the kind of a number is dated exactly where the number is that of the dated kind
pub kind_fit : (n : ℕ) → Fit (any_kind (which_kind n)) (is_dated n)
kind_fit n = go (eqb n 254) refl (eqb n 255) refl
  where
    go : (x : Bool) → eqb n 254 ≡ x → (y : Bool) → eqb n 255 ≡ y → Fit (any_kind (which_kind n)) (is_dated n)
    go true e y f = rw (eqb-true n 254 e) (record { deadline = refl; tick = refl })
    go false e true f = rw (eqb-true n 255 f) (record { deadline = refl; tick = refl })
    go false e false f = rw (e, f) (record { deadline = refl; tick = refl })
