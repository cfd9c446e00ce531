-- Refused events left aside: for every list of calls, refused ones in between, all that stands afterwards is that of the accepted ones alone.
-- Assumes nothing.
use mathlib.Core.Path.{◌≡◌, refl}
use mathlib.Core.Bool.{Bool, true, false, cond}
use mathlib.Core.List.{List, [], ◌∷◌}
use Prim.Native.Nat.{ℕ}
use borrow.Author.Tests.{eqb-true}
use lib.Dec.{eqb}
use Rattle.protocol_state.specs.Saved.{Size}
use Rattle.protocol_state.specs.Give.{Call, Progress, called, after_call, replay, accepted, AllAccepted}

module _ (ahead : ℕ → ℕ → Bool) (size : Size) where
  -- the state, the history and the numbers are those of the accepted ones
  pub aside : (cs : List Call) (o : Progress) → replay ahead size o cs ≡ replay ahead size o (accepted ahead size o cs)
  unfolding replay accepted after_call
  aside [] o = refl
  aside (c ∷ cs) o = go (eqb (called ahead size o.state c).refusal 0) refl (aside cs)
    where
      go : (b : Bool) → eqb (called ahead size o.state c).refusal 0 ≡ b → ((o : Progress) → replay ahead size o cs ≡ replay ahead size o (accepted ahead size o cs))
          → replay ahead size (after_call ahead size o c) cs ≡ replay ahead size o (cond b (c ∷ accepted ahead size (after_call ahead size o c) cs) (accepted ahead size o cs))
      go true i f = f (after_call ahead size o c)
      go false i f = rw (i, after_call) (f o)

  -- and each of those is accepted, none of them having been refused before
  pub all_accepted : (cs : List Call) (o : Progress) → AllAccepted ahead size o (accepted ahead size o cs)
  unfolding accepted AllAccepted
  all_accepted [] o = tt
  all_accepted (c ∷ cs) o = go (eqb (called ahead size o.state c).refusal 0) refl (all_accepted cs)
    where
      go : (b : Bool) → eqb (called ahead size o.state c).refusal 0 ≡ b → ((o : Progress) → AllAccepted ahead size o (accepted ahead size o cs))
          → AllAccepted ahead size o (cond b (c ∷ accepted ahead size (after_call ahead size o c) cs) (accepted ahead size o cs))
      go true i f = (eqb-true _ 0 i, f (after_call ahead size o c))
      go false i f = f o
