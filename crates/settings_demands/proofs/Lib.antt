-- Request 2026-13 holds: `migrator`, and what it is proved by.
-- the contracts in the source
pub mod Contract
-- the list, its first fault, what an answer holds
pub mod Values
pub mod Settings
pub mod Outcomes
pub mod Lists
pub mod Faults
pub mod Explained
pub mod Slots
pub mod OwnEntry
pub mod Promises
-- writing back
pub mod FirstBad
pub mod Writing
pub mod Written
pub mod RoundTrip
-- the theorem
pub mod Migrator
-- for programs: the first bytes decide
pub mod Prefix
