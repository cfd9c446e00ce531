-- What is counted while links are judged.
pub mod CountsBehind
