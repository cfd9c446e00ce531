-- Laws that several proofs cite.
pub mod Turns
pub mod Counting
pub mod Answers
pub mod Placed
