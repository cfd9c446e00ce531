-- What the demands take of a replay: its contract, and the unread rest.
pub mod Ensured
pub mod Rest
