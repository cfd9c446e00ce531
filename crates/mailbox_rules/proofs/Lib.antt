-- Laws that the proofs cite.
pub mod Flags
pub mod Front
pub mod Judged
