-- The theorems about a saved state.
-- the decision table, places of lists, the table rules, soundness
pub mod Decision
pub mod Places
pub mod Records
pub mod Rules
pub mod Sound
-- a task that reads its own last output
pub mod SelfLinks
-- what each accepted event does: sound stays sound, and it is a step of the published protocol
pub mod Free
pub mod Arrivals
pub mod Keeps
pub mod Give
pub mod Steps
pub mod Phases
-- whatever events are given to a fresh state
pub mod Freshes
pub mod History
pub mod Numbers
pub mod Demanded
pub mod Aside
pub mod Totals
pub mod Example
