-- Bytes that are records after their count, judged from the left, for records of any kind and any judge of them.
pub mod Number
pub mod Stands
pub mod Format
pub mod Kinded
pub mod Play
pub mod Section
pub mod End
pub mod Handed
