-- An entry of the old station's list, from the words of request 2026-13, and what the contracts cite.
pub mod Setting
pub mod Entry
pub mod Found
