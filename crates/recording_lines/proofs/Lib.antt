-- Laws that the proofs cite, and lines computed from the definitions.
pub mod Cells
pub mod Lengths
pub mod Examples
