-- The laws of bytes that are records, from numbers to whole sections.
pub mod Numbers
pub mod Standing
pub mod Sized
pub mod Kinded
pub mod Counts
pub mod Plays
pub mod Sections
pub mod Ended
pub mod Unique
pub mod Lengths
pub mod Bytes
pub mod Handed
pub mod HandedBytes
pub mod Said
pub mod Weighing
