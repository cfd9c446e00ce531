-- What a host asks for in three numbers, and the answer to it.
pub mod Calls
pub mod Replies
