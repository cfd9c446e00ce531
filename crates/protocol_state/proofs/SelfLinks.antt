-- A link from a task to itself in a sound state: it is delayed, and any of its task's positions may be its pointer, or none while the task is idle.
-- Assumes nothing.
use mathlib.Core.Path.{◌≡◌, sym, ◌∙◌}
use mathlib.Core.Logic.{◌≢◌}
use mathlib.Core.Bool.{Bool, true, true≢false}
use Prim.Native.Nat.{ℕ, ◌+◌, ◌≤◌, ◌<◌}
use native.Mathlib.Omega.{arith}
use native.Mathlib.Decide.{ℕ_discrete}
use borrow.Author.Tests.{eq-eqb}
use lib.ListN.{set}
use lib.Seq.{get_or-set_same, get_or-set_other}
use Rattle.protocol.specs.Table.{N}
use Rattle.protocol_state.specs.Saved.{Size, Saved, Shape, at, delayed_kind, table}
use Rattle.protocol_deadlines.specs.Deadline.{Ranks}
use Rattle.protocol_state.specs.Sound.{Sound}
use Rattle.protocol_state.specs.Next.{with_pointer, with_mark}

module _ {ahead : ℕ → ℕ → Bool} {size : Size} (q : Saved) (G : Sound ahead size q) (l : ℕ) (h : l < q.links) (self : at q.writer l ≡ at q.reader l) where
  -- rule 5
  pub self_sound_delayed : delayed_kind (at q.kind l) ≡ true
  self_sound_delayed =
      let k : at q.kind l ≢ 0 = λ z. (G.rules.each l h).apart z self in
      eq-eqb (at q.kind l) 1 (omega (arith, k, (G.rules.each l h).kind))

  -- with another pointer p, or none, 0, and a mark m that may stand there
  module _ (ranks : Ranks ahead) (S : Shape size q) (p m : ℕ) where
    abbrev other : Saved
    other = with_mark (set q.mark l m) (with_pointer (set q.pointer l p) q)

    here_pointer : at (set q.pointer l p) l ≡ p
    here_pointer = get_or-set_same q.pointer l p 0 (omega (arith, S.pointer, G.rules.links))

    here_mark : at (set q.mark l m) l ≡ m
    here_mark = get_or-set_same q.mark l m 0 (omega (arith, S.mark, G.rules.links))

    pub self_other_sound : p ≤ N (table ahead q) (at q.writer l) + 2 → ((at q.phase (at q.reader l) ≡ 0 → ⊥) → 1 ≤ p) → m ≤ 1 → (m ≡ 1 → 1 ≤ p) → (1 ≤ p → at q.seen (at q.writer l) < 2 → m ≡ 1) → Sound ahead size other
    self_other_sound high there bit held early = record {
      rules = G.rules;
      phase = G.phase;
      newest = G.newest;
      previous = G.previous;
      pointer = λ k i. pointer k i (ℕ_discrete k l);
      present = λ k i n. present k i (ℕ_discrete k l) n;
      absent = λ k i a z. absent k i (ℕ_discrete k l) a z;
      seen = G.seen;
      unseen = G.unseen;
      mark = λ k i. mark k i (ℕ_discrete k l);
      held = λ k i e. holds k i (ℕ_discrete k l) e;
      early = λ k i d e a. earlier k i (ℕ_discrete k l) d e a;
      times = G.times;
    }
      where
        pointer : (k : ℕ) → k < q.links → Dec (k ≡ l) → at (set q.pointer l p) k ≤ N (table ahead q) (at q.writer k) + 2
        pointer k i (yes e) = rw (e, here_pointer) high
        pointer k i (no n) = rw (get_or-set_other q.pointer l k p 0 n) (G.pointer k i)

        present : (k : ℕ) → k < q.links → Dec (k ≡ l) → (at q.phase (at q.reader k) ≡ 0 → ⊥) → 1 ≤ at (set q.pointer l p) k
        present k i (yes e) active = rw (e, here_pointer) (there (rw e at active))
        present k i (no n) active = rw (get_or-set_other q.pointer l k p 0 n) (G.present k i active)

        absent : (k : ℕ) → k < q.links → Dec (k ≡ l) → ahead (at q.writer k) (at q.reader k) ≡ true → at q.phase (at q.reader k) ≡ 0 → at (set q.pointer l p) k ≡ 0
        absent k i (yes e) a z = absurd (true≢false (sym a ∙ rw (e, self) (ranks.itself (at q.reader l))))
        absent k i (no n) a z = get_or-set_other q.pointer l k p 0 n ∙ G.absent k i a z

        mark : (k : ℕ) → k < q.links → Dec (k ≡ l) → at (set q.mark l m) k ≤ 1
        mark k i (yes e) = rw (e, here_mark) bit
        mark k i (no n) = rw (get_or-set_other q.mark l k m 0 n) (G.mark k i)

        holds : (k : ℕ) → k < q.links → Dec (k ≡ l) → at (set q.mark l m) k ≡ 1 → (delayed_kind (at q.kind k) ≡ true) × (1 ≤ at (set q.pointer l p) k)
        holds k i (yes e) one = rw (e, here_pointer) (self_sound_delayed, held (sym here_mark ∙ rw e at one))
        holds k i (no n) one = rw (get_or-set_other q.pointer l k p 0 n) (G.held k i (sym (get_or-set_other q.mark l k m 0 n) ∙ one))

        earlier : (k : ℕ) → k < q.links → Dec (k ≡ l) → delayed_kind (at q.kind k) ≡ true → 1 ≤ at (set q.pointer l p) k → at q.seen (at q.writer k) < 2 → at (set q.mark l m) k ≡ 1
        earlier k i (yes e) d some few = rw (e, here_mark) (early (rw (e, here_pointer) at some) (rw e at few))
        earlier k i (no n) d some few = get_or-set_other q.mark l k m 0 n ∙ G.early k i d (rw (get_or-set_other q.pointer l k p 0 n) at some) few
