-- Laws that the proofs above cite.
pub mod Handed
