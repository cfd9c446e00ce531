-- Laws that the proofs cite, and worked examples.
pub mod Places
pub mod Examples
