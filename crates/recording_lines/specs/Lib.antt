-- The printouts: what the contracts cite.
pub mod Words
pub mod Lines
