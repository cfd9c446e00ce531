-- The three demands. A reader begins at Demands; what stands above it here is what its sentences are made of.
-- a table
pub mod Station
-- the table of refusals
pub mod Refusals
-- the code's state, events in order, and the calls
pub mod States
pub mod Order
pub mod Calls
-- whole recordings
pub mod Recordings
-- the published protocol, and the run where tasks take no time
pub mod Mailboxes
pub mod Outputs
-- the contracts in the source
pub mod Border
-- the demands
pub mod Demands
-- request 2026-04
pub mod SelfLinks
-- request 2026-06
pub mod TwoKinds
-- request 2026-07
pub mod Deadlines
