-- The promises of a whole recording.
pub mod Counting
pub mod Right
pub mod Ends
pub mod Promises
pub mod Answers
pub mod Writings
pub mod Rooms
pub mod Vectors
