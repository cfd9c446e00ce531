-- The protocol on a saved state, with the lowest free position: what the code is held to.
pub mod Records
pub mod Saved
pub mod Rules
pub mod Decision
pub mod Judge
pub mod Next
pub mod Sound
pub mod Fresh
pub mod Give
pub mod Reached
pub mod Alike
