-- Laws that several proofs cite.
pub mod Named
pub mod NamedTasks
pub mod NamedLinks
pub mod Judging
pub mod Tables
pub mod Cuts
pub mod Alls
pub mod Writes
