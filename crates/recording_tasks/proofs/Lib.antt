-- Laws that several proofs cite.
pub mod Dates
pub mod TaskLoop
