-- What stands between separators, which fields are numbers, and the numbers of the reasons why a line cannot be read.
pub mod Faults
pub mod Pieces
pub mod Left
pub mod Numeral
