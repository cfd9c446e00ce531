-- Laws that other crates cite.
pub mod Numbers
pub mod Places
