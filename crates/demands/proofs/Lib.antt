-- The demands hold. A reader who has read specs/Demands finds `demand_1`, `demand_2`, `demand_3` in Demands.
-- the table of numbers is the one that a fresh state holds; the order of events and numbers
pub mod Tables
pub mod Orders
-- what calls come to
pub mod Calls
pub mod Readers
pub mod Outputs
pub mod Runs
pub mod Course
pub mod Answerers
pub mod AnyState
-- the refusals in words and as the code computes them
pub mod Earned
pub mod Links
pub mod Bits
pub mod Events
pub mod TableEarned
-- whole recordings
pub mod Replays
pub mod Genuine
pub mod TableFaults
pub mod Explained
pub mod Found
pub mod Only
pub mod Unknown
pub mod Cuts
-- the theorems, over the contracts in the source
pub mod Contract
pub mod Demands
pub mod SelfLinks
pub mod TwoKinds
pub mod Deadlines
pub mod Example
