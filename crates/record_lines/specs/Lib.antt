-- What the contracts cite.
pub mod Words
pub mod Lines
