-- The lines of migrated settings: what the contracts cite.
pub mod Hex
pub mod Words
pub mod Lines
