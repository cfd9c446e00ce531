-- What the contracts cite.
pub mod States
