-- Laws that the proofs cite, and what an entry says.
pub mod Entries
pub mod TakenBits
pub mod Rule
