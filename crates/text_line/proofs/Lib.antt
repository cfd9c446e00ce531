-- Laws that the proofs cite, and those that whoever makes a line cites.
pub mod Numerals
pub mod Pieces
pub mod Lengths
pub mod Copies
