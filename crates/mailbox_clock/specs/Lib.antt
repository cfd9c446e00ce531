-- What the contracts cite.
pub mod Clock
