-- `recording_text_line::record::Record::event` meets its contract: its numbers stand at its front, with a tick or without.
-- Assumes nothing.
use borrow.Author.Rules.{rules}
use borrow.Rule.Slice.PartMut.{put_mid}
use Rattle.std.proofs.Common.{◌≡◌, refl, List, [], ◌∷◌, ℕ, ◌+◌, ◌-◌, ◌≤◌, length, take, drop, replicate, arith}
use Rattle.recording_text_line.specs.Line.{sort, widest}
use Rattle.recording_text_line.proofs.record.Record.event.Goals as goal
use Rattle.recording_text_line.proofs.record.Record.event.Goals.{in-Some, in-None}

abbrev with_tick : ℕ → ℕ → List ℕ → List ℕ
with_tick kind tick own = put_mid 2 (2 + length own - 2) (kind ∷ tick ∷ 0 ∷ 0 ∷ []) own

abbrev without : ℕ → List ℕ → List ℕ
without kind own = put_mid 1 (1 + length own - 1) (kind ∷ 0 ∷ 0 ∷ 0 ∷ []) own

ticked : (kind tick : ℕ) (own : List ℕ) → length own ≤ 2 → (take (2 + length own) (with_tick kind tick own) ≡ kind ∷ tick ∷ own) × (drop (2 + length own) (with_tick kind tick own) ≡ replicate (4 - (2 + length own)) 0) × (length (with_tick kind tick own) ≡ 4)
ticked kind tick [] h = (refl, refl, refl)
ticked kind tick (a ∷ []) h = (refl, refl, refl)
ticked kind tick (a ∷ b ∷ []) h = (refl, refl, refl)
ticked kind tick (a ∷ b ∷ c ∷ l) h = absurd (omega arith)

tickless : (kind : ℕ) (own : List ℕ) → length own ≤ 2 → (take (1 + length own) (without kind own) ≡ kind ∷ own) × (drop (1 + length own) (without kind own) ≡ replicate (4 - (1 + length own)) 0) × (length (without kind own) ≡ 4)
tickless kind [] h = (refl, refl, refl)
tickless kind (a ∷ []) h = (refl, refl, refl)
tickless kind (a ∷ b ∷ []) h = (refl, refl, refl)
tickless kind (a ∷ b ∷ c ∷ l) h = absurd (omega arith)

fits : (b n k : ℕ) → sort b ≡ 3 → n ≤ 2 → k ≤ 2 → k + n ≤ widest (sort b)
fits b n k e h m = rw e (omega arith)

pub invariant_of-result : goal.invariant_of-result
invariant_of-result g c = let l : g.row.N ≡ length c.args.own = search rules in
    let h : length c.args.own ≤ 2 = omega (arith, l, c.requires.few) in
    elim c.match-tick.branch [
      | in-Some w ↦
          record {
            known = rw c.requires.sort (omega arith);
            padded = record {
              few = rw w.at-is (fits c.args.letter g.row.N 2 c.requires.sort c.requires.few (omega arith));
              rest = rw (w.at-is, w.numbers-is, c.copy_from_slice.ensures.after, l) (ticked c.args.kind w.in-Some.tick c.args.own h).1;
            };
            four = rw (w.at-is, w.numbers-is, c.copy_from_slice.ensures.after, l) (ticked c.args.kind w.in-Some.tick c.args.own h).2;
          }
      | in-None w ↦
          record {
            known = rw c.requires.sort (omega arith);
            padded = record {
              few = rw w.at-is (fits c.args.letter g.row.N 1 c.requires.sort c.requires.few (omega arith));
              rest = rw (w.at-is, w.numbers-is, c.copy_from_slice.ensures.after, l) (tickless c.args.kind c.args.own h).1;
            };
            four = rw (w.at-is, w.numbers-is, c.copy_from_slice.ensures.after, l) (tickless c.args.kind c.args.own h).2;
          }
    ]

pub returns-clause-numbers : goal.returns-clause-numbers
returns-clause-numbers g c = let l : g.row.N ≡ length c.args.own = search rules in
    let h : length c.args.own ≤ 2 = omega (arith, l, c.requires.few) in
    elim c.match-tick.branch [
      | in-Some w ↦ rw (w.at-is, w.numbers-is, c.copy_from_slice.ensures.after, l, w.in-Some.is) (ticked c.args.kind w.in-Some.tick c.args.own h).0
      | in-None w ↦ rw (w.at-is, w.numbers-is, c.copy_from_slice.ensures.after, l, w.in-None.is) (tickless c.args.kind c.args.own h).0
    ]
