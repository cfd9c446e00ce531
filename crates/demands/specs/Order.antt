-- Events and numbers in the order in which they happen. The protocol's histories have the last event first: `past [] es` is the history after the events es.
-- Assumes nothing.
use Rattle.std.specs.Prelude.{◌≡◌, List, [], ◌∷◌, ◌++◌, ℕ}
use Rattle.protocol.specs.Event.{Event, arrival, start, read, finish}
use Rattle.protocol.specs.Table.{Table}
use Rattle.protocol_deadlines.specs.Timed.{Timed, timed, PossibleAt}

-- "could happen": each of the events es could happen in its turn, at its tick, after the history H
unfoldable pub Happen : Table ℕ → List (Timed ℕ) → List (Timed ℕ) → Type 0
Happen T H [] = Unit {0}
Happen T H (timed x e ∷ es) = PossibleAt T H x e × Happen T (timed x e ∷ H) es

-- ns are the numbers of the reads among es, one for each and in their order, and Q holds of each: of the history before the read, its link and its number
unfoldable pub EachRead : (List (Event ℕ) → ℕ → ℕ → Type 0) → List (Event ℕ) → List (Event ℕ) → List ℕ → Type 0
EachRead Q h [] ns = ns ≡ []
EachRead Q h (arrival m ∷ es) ns = EachRead Q (arrival m ∷ h) es ns
EachRead Q h (start t ∷ es) ns = EachRead Q (start t ∷ h) es ns
EachRead Q h (read l ∷ es) [] = ⊥
EachRead Q h (read l ∷ es) (n ∷ ns) = Q h l n × EachRead Q (read l ∷ h) es ns
EachRead Q h (finish t v ∷ es) ns = EachRead Q (finish t v ∷ h) es ns

-- a list the other way round
unfoldable pub turned : List ℕ → List ℕ
turned [] = []
turned (v ∷ vs) = turned vs ++ (v ∷ [])
