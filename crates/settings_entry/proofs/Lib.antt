-- Laws that several proofs cite.
pub mod Faults
pub mod Records
pub mod Entries
