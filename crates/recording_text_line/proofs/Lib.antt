-- Laws that several proofs cite, and worked examples.
pub mod Letters
pub mod Lines
pub mod Whole
pub mod Examples
