-- Laws that several proofs cite.
pub mod Writing
pub mod WriteAnswers
