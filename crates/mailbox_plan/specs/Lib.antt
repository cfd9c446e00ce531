-- What a plan says.
pub mod Plan
