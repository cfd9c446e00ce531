-- What the section of the tasks holds.
pub mod Tasks
