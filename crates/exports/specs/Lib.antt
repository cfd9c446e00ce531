-- What the calls of a host answer.
pub mod Made
pub mod Replayed
pub mod Wrote
