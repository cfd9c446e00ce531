-- Laws that several proofs cite.
pub mod Makes
pub mod Filling
pub mod Packed
