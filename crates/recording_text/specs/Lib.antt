-- What a text says.
pub mod Text
