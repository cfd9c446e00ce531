-- The number under which the document tells of a refusal.
-- Assumes nothing.
use Rattle.std.specs.Prelude.{Result, Ok, Err, ℕ}
use Rattle.refusals.specs.declared.Refusal.{Refusal}
use Rattle.refusals.specs.declared.Refusal.TheVariants as why
use Rattle.refusals.specs.declared.Refused.{Refused}

-- the numbers of documents 01 and 02; 25 is that of request 2026-09, 26 that of request 2026-13
abbrev pub number : Refusal → ℕ
number why.Ends = 1
number why.WrongCount = 2
number why.TooManyLinks = 3
number why.LinkOutside = 4
number why.DirectToItself = 5
number why.UnknownLinkKind = 6
number why.DirectToMoreUrgent = 7
number why.SecondLink = 8
number why.TooManyReaders = 9
number why.TooManyEvents = 10
number why.UnknownKind = 11
number why.Outside = 12
number why.StillActive = 13
number why.NotWaiting = 14
number why.NotRunning = 15
number why.MoreUrgent = 16
number why.BytesLeft = 17
number why.NoRoom = 18
number why.NotSound = 19
number why.DirectWithStart = 20
number why.TickFalls = 21
number why.TickTooLarge = 22
number why.Late = 23
number why.NoDeadline = 24
number why.Unfinished = 25
number why.BadFloat = 26

-- that of what was judged: 0 where it is not refused
abbrev pub told : {A : Type 0} → Result A Refusal → ℕ
told (Ok x) = 0
told (Err r) = number r

-- what was judged at a place: a refusal with it
abbrev pub placed : {A : Type 0} → Result A Refusal → ℕ → Result A Refused
placed (Ok x) p = Ok x
placed (Err r) p = Err (record { refusal = r; place = p })
