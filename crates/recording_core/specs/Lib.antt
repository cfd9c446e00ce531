-- What a recording is judged by, with the mailbox core.
pub mod Playing
pub mod Promise
pub mod Right
