-- The number of a refusal is not 0, which is that of none, and no two have the same.
-- Assumes nothing.
use mathlib.Core.Path.{◌≡◌, refl, sym, ap, ◌∙◌}
use mathlib.Core.Logic.{◌≢◌}
use Prim.Native.Nat.{ℕ}
use native.Mathlib.Omega.{arith}
use lib.Dec.{eqb}
use mathlib.Core.Bool.{cond}
use Rattle.refusals.specs.Numbers.{number}
use Rattle.refusals.specs.declared.Refusal.{Refusal}
use Rattle.refusals.specs.declared.Refusal.TheVariants as why

-- the reason with a number
abbrev reason : ℕ → Refusal
reason n =
    cond (eqb n 1) why.Ends (
    cond (eqb n 2) why.WrongCount (
    cond (eqb n 3) why.TooManyLinks (
    cond (eqb n 4) why.LinkOutside (
    cond (eqb n 5) why.DirectToItself (
    cond (eqb n 6) why.UnknownLinkKind (
    cond (eqb n 7) why.DirectToMoreUrgent (
    cond (eqb n 8) why.SecondLink (
    cond (eqb n 9) why.TooManyReaders (
    cond (eqb n 10) why.TooManyEvents (
    cond (eqb n 11) why.UnknownKind (
    cond (eqb n 12) why.Outside (
    cond (eqb n 13) why.StillActive (
    cond (eqb n 14) why.NotWaiting (
    cond (eqb n 15) why.NotRunning (
    cond (eqb n 16) why.MoreUrgent (
    cond (eqb n 17) why.BytesLeft (
    cond (eqb n 18) why.NoRoom (
    cond (eqb n 19) why.NotSound (
    cond (eqb n 20) why.DirectWithStart (
    cond (eqb n 21) why.TickFalls (
    cond (eqb n 22) why.TickTooLarge (
    cond (eqb n 23) why.Late (
    cond (eqb n 24) why.NoDeadline (
    cond (eqb n 25) why.Unfinished (
    why.BadFloat)))))))))))))))))))))))))

reason_back : (r : Refusal) → reason (number r) ≡ r
reason_back why.Ends = refl
reason_back why.WrongCount = refl
reason_back why.TooManyLinks = refl
reason_back why.LinkOutside = refl
reason_back why.DirectToItself = refl
reason_back why.UnknownLinkKind = refl
reason_back why.DirectToMoreUrgent = refl
reason_back why.SecondLink = refl
reason_back why.TooManyReaders = refl
reason_back why.TooManyEvents = refl
reason_back why.UnknownKind = refl
reason_back why.Outside = refl
reason_back why.StillActive = refl
reason_back why.NotWaiting = refl
reason_back why.NotRunning = refl
reason_back why.MoreUrgent = refl
reason_back why.BytesLeft = refl
reason_back why.NoRoom = refl
reason_back why.NotSound = refl
reason_back why.DirectWithStart = refl
reason_back why.TickFalls = refl
reason_back why.TickTooLarge = refl
reason_back why.Late = refl
reason_back why.NoDeadline = refl
reason_back why.Unfinished = refl
reason_back why.BadFloat = refl

pub number_not_0 : (r : Refusal) → number r ≢ 0
number_not_0 r z =
    let e : why.BadFloat ≡ r = ap reason (sym z) ∙ reason_back r in
    let h : 26 ≡ number r = ap number e in
    omega (arith, h, z)

pub number_once : (r s : Refusal) → number r ≡ number s → r ≡ s
number_once r s e = sym (reason_back r) ∙ ap reason e ∙ reason_back s
