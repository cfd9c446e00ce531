-- The line of a record that the writer refuses.
pub mod Place
