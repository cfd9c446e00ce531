-- What the code's events are in the protocol.
pub mod Plain
