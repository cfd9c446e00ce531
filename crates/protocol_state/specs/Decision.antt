-- The decision table: what each kind of event (0 arrival, 1 start, 2 read, 3 finish) does in each phase (0 idle, 1 waiting, 2 running).
-- Assumes nothing.
use Rattle.std.specs.Prelude.{cond, List, [], ◌∷◌, ℕ, zero, suc, ◌+◌, ◌*◌, ◌%◌, min, eqb, get_or}

-- the next phase, or the refusal
abbrev pub decisions : List ℕ
decisions = 1 ∷ 13 ∷ 13 ∷ 14 ∷ 2 ∷ 14 ∷ 15 ∷ 15 ∷ 2 ∷ 15 ∷ 15 ∷ 0 ∷ []

-- the entry for an event of kind k in phase p; the remainder and the bound only keep the index inside the table
unfoldable pub decided : ℕ → ℕ → ℕ
decided k p = get_or decisions (k % 4 * 3 + min p 2) 0

-- its rule: arrival needs idle, start waiting, read and finish running
abbrev pub rule : ℕ → ℕ → ℕ
rule zero p = cond (eqb p 0) 1 13
rule (suc zero) p = cond (eqb p 1) 2 14
rule (suc (suc zero)) p = cond (eqb p 2) 2 15
rule (suc (suc (suc k))) p = cond (eqb p 2) 0 15
