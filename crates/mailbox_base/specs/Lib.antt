-- What the contracts cite.
pub mod Decides
