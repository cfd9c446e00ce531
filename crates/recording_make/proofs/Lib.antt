-- Laws that the proofs cite, and worked examples.
pub mod Makes
pub mod Examples
