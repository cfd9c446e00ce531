-- The refusal of a link, in words and as the code computes it.
-- Assumes nothing.
use mathlib.Core.Path.{◌≡◌, refl, sym, ap, ◌∙◌}
use mathlib.Core.Logic.{◌≢◌, ◌⊎◌, inl, inr}
use mathlib.Core.Bool.{Bool, true, false, not, ◌&&◌, ◌||◌}
use mathlib.Core.List.{List, [], ◌∷◌}
use Prim.Native.Nat.{ℕ, zero, suc, ◌≤◌, ◌<◌}
use native.Mathlib.Omega.{arith}
use borrow.Author.Tests.{eqb-true, eqb-false, eq-eqb, ne_eqb, ltb-true, lt-ltb, leb-true, le-leb, not-true}
use lib.Dec.{eqb, ltb, leb, lit<}
use lib.ListN.{length}
use Rattle.lists.specs.Lists.{some}
use Rattle.lists.proofs.Bools.{and_left, and_right, and_both}
use Rattle.protocol_state.specs.Records.{Task, link_of, ahead_of}
use Rattle.protocol_state.specs.Rules.{same_pair, links_behind}
use Rattle.recording_format.specs.Link.{Link, link_fault}
use Rattle.demands.specs.Refusals.{turn, Earns, LinkBreaks, no_task, direct_to_itself, unknown_kind, direct_ahead, twice, ninth, starts_direct}
use Rattle.demands.proofs.Earned.{earns_alike, Test, test, Fires, here, later, chain_earns}

-- one of two tests holds
pub either : (a b : Bool) → (a || b) ≡ true → (a ≡ true) ⊎ (b ≡ true)
either true b e = inl refl
either false b e = inr e

pub or_first : {a : Bool} (b : Bool) → a ≡ true → (a || b) ≡ true
or_first b e = rw e

pub or_second : (a : Bool) {b : Bool} → b ≡ true → (a || b) ≡ true
or_second true e = refl
or_second false e = e

-- of which number a test holds
pub found : (f : ℕ → Bool) (n : ℕ) → some f n ≡ true → (k : ℕ) × (k < n) × (f k ≡ true)
unfolding some
found f zero e = let z : ◌≡◌ {A = ℕ} 0 1 = cc in absurd (omega arith)
found f (suc n) e = go (either (f n) (some f n) e) (found f n)
  where
    go : (f n ≡ true) ⊎ (some f n ≡ true) → (some f n ≡ true → (k : ℕ) × (k < n) × (f k ≡ true)) → (k : ℕ) × (k < suc n) × (f k ≡ true)
    go (inl i) g = (n, omega arith, i)
    go (inr i) g = let w = g i in (w.0, omega (arith, w.1), w.2)

-- and back
pub some_at : (f : ℕ → Bool) (n k : ℕ) → k < n → f k ≡ true → some f n ≡ true
unfolding some
some_at f zero k h e = absurd (omega arith)
some_at f (suc n) k h e = go (f n) refl (λ l. some_at f n k l e)
  where
    go : (b : Bool) → f n ≡ b → (k < n → some f n ≡ true) → (b || some f n) ≡ true
    go true i g = refl
    go false i g = g (let ne : k ≢ n = λ z. (let y : true ≡ false = sym e ∙ ap f z ∙ i in let o : ◌≡◌ {A = ℕ} 0 1 = cc in omega arith) in omega (arith, ne))

module _ (ds : List Task) (ls : List Link) (l : Link) where
  -- the seven tests
  abbrev tests : List Test
  tests =
      test 4 (leb (length ds) l.writer || leb (length ds) l.reader)
      ∷ test 5 (eqb l.kind 0 && eqb l.writer l.reader)
      ∷ test 6 (ltb 1 l.kind)
      ∷ test 7 (eqb l.kind 0 && ahead_of ds l.reader l.writer)
      ∷ test 8 (some (λ j. same_pair l (link_of ls j)) (length ls))
      ∷ test 9 (ahead_of ds l.writer l.reader && leb 8 (links_behind (ahead_of ds) (link_of ls) l.writer (length ls)))
      ∷ test 20 (eqb l.kind 0 && not (eqb l.start_value 0))
      ∷ []

  broken_fires : {n : ℕ} → LinkBreaks ds ls l n → Fires tests n
  broken_fires (no_task (inl h)) = here (or_first _ (le-leb _ _ h))
  broken_fires (no_task (inr h)) = here (or_second (leb (length ds) l.writer) (le-leb _ _ h))
  broken_fires (direct_to_itself k e) = later (here (and_both (eq-eqb _ _ k) (eq-eqb _ _ e)))
  broken_fires (unknown_kind a b) = later (later (here (lt-ltb 1 l.kind (omega arith))))
  broken_fires (direct_ahead e h) = later (later (later (here (and_both (eq-eqb _ _ e) h))))
  broken_fires (twice j h a b) = later (later (later (later (here (some_at _ (length ls) j h (and_both (eq-eqb _ _ a) (eq-eqb _ _ b)))))))
  broken_fires (ninth h b) = later (later (later (later (later (here (and_both h (le-leb _ _ b)))))))
  broken_fires (starts_direct e n) = later (later (later (later (later (later (here (and_both (eq-eqb _ _ e) (ap not (ne_eqb l.start_value 0 n)))))))))

  fires_broken : {n : ℕ} → Fires tests n → LinkBreaks ds ls l n
  fires_broken (here e) = no_task (go (either (leb (length ds) l.writer) _ e))
    where
      go : (leb (length ds) l.writer ≡ true) ⊎ (leb (length ds) l.reader ≡ true) → (length ds ≤ l.writer) ⊎ (length ds ≤ l.reader)
      go (inl i) = inl (leb-true _ _ i)
      go (inr i) = inr (leb-true _ _ i)
  fires_broken (later (here e)) = direct_to_itself (eqb-true _ _ (and_left (eqb l.kind 0) _ e)) (eqb-true _ _ (and_right (eqb l.kind 0) _ e))
  fires_broken (later (later (here e))) = let h = ltb-true 1 l.kind e in unknown_kind (λ z. omega arith) (λ z. omega arith)
  fires_broken (later (later (later (here e)))) = direct_ahead (eqb-true _ _ (and_left (eqb l.kind 0) _ e)) (and_right (eqb l.kind 0) _ e)
  fires_broken (later (later (later (later (here e))))) =
      let w = found (λ j. same_pair l (link_of ls j)) (length ls) e in
      twice w.0 w.1 (eqb-true _ _ (and_left (eqb (link_of ls w.0).writer l.writer) _ w.2)) (eqb-true _ _ (and_right (eqb (link_of ls w.0).writer l.writer) _ w.2))
  fires_broken (later (later (later (later (later (here e)))))) =
      ninth (and_left (ahead_of ds l.writer l.reader) _ e) (leb-true 8 _ (and_right (ahead_of ds l.writer l.reader) _ e))
  fires_broken (later (later (later (later (later (later (here e))))))) =
      starts_direct (eqb-true _ _ (and_left (eqb l.kind 0) _ e)) (eqb-false l.start_value 0 (not-true _ (and_right (eqb l.kind 0) _ e)))
  fires_broken {n = n} (later (later (later (later (later (later (later past))))))) = elim past [ ]

  -- what the reader of a recording computes after the links ls is what the link earns
  pub link_earned : Earns (LinkBreaks ds ls l) (link_fault (ahead_of ds) (length ds) ls l)
  unfolding link_fault turn
  link_earned =
      earns_alike (λ n f. fires_broken f) (λ n b. broken_fires b)
      (chain_earns 0 tests (lit< tt, (lit< tt, (lit< tt, (lit< tt, (lit< tt, (lit< tt, (lit< tt, tt))))))))
