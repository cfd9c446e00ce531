-- Laws that the proofs cite, and worked examples.
pub mod Stores
pub mod Known
pub mod Texts
pub mod WholeText
pub mod Examples
