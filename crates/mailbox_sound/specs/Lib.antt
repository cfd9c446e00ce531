-- What the tests of soundness look at.
pub mod AtHand
