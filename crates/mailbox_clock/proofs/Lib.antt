-- Laws that the proofs cite.
pub mod Ticks
pub mod Judged
