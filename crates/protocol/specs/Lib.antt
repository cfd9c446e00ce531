-- The mathematics of the mailboxes: what a reader must believe.
pub mod Given
pub mod Table
pub mod Event
pub mod History
pub mod Schedule
pub mod ZeroTime
pub mod Published
pub mod Ranges
pub mod Free
pub mod Lowest
pub mod Instant
