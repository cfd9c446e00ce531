-- The theorems about the definitions.
-- the order of tasks and the order of jobs
pub mod Orders
pub mod InOrder
-- the policy, over plain histories
pub mod Turn
pub mod One
-- histories with ticks
pub mod Timed
pub mod Fixed
pub mod Example
pub mod Figures
-- the demands over any answer function, and what they exclude
pub mod Answering
pub mod Lowest
pub mod Unique
pub mod Bites
