-- Laws that several proofs cite.
pub mod Splits
pub mod Sets
pub mod Numerals
pub mod Faults
