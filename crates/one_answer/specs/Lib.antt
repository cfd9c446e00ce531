-- Two answers that a contract allows for one input are equal.
pub mod Walker
pub mod OneAnswer
