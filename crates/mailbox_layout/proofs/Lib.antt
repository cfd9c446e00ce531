-- Laws that the proofs cite.
pub mod Places
pub mod Fields
pub mod Room
pub mod Whole
pub mod Filling
pub mod Tables
