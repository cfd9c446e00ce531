-- What the contracts cite.
pub mod Numeral
pub mod Shown
