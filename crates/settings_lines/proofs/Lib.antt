-- Laws that the proofs cite, and lines computed from the definitions.
pub mod Hexadecimal
pub mod Whole
pub mod Lengths
pub mod Examples
