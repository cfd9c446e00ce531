pub mod Walker
pub mod OneAnswer
