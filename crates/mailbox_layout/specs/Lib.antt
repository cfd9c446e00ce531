-- The layout of a lent state, and the saved state that it is.
pub mod Layout
pub mod FieldNumbers
pub mod Fresh
