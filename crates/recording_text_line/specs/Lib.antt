-- What a line says.
pub mod Line
pub mod Sorts
pub mod Told
pub mod Left
