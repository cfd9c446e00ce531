-- What a start and a finish make of a state.
pub mod Frees
