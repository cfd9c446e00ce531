-- What the contracts cite.
pub mod AboveZero
