-- What the section of the links holds.
pub mod Links
