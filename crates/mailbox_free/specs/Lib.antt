-- Patterns of taken positions, and their bits in a word.
pub mod Bits
pub mod Pattern
