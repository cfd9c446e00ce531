-- What the contracts of the printout cite.
pub mod Lines
