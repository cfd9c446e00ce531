-- Laws that the proof cites.
pub mod Ways
