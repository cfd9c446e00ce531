-- Laws that the proofs cite, and the definitions held to IEEE 754.
pub mod Divisions
pub mod Value
pub mod Answers
