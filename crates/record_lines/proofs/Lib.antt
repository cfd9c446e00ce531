-- Laws that the proofs cite, and worked examples.
pub mod Lengths
pub mod Examples
