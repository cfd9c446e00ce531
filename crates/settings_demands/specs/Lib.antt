-- Request 2026-13, the settings migrator. A reader begins at Migrator; what stands above it here is what its sentences are made of.
-- what the two calls ensure, and the contracts in the source
pub mod Ensured
pub mod Border
-- settings, the list of an old station, where its first fault lies, where a setting comes from
pub mod Values
pub mod OldList
pub mod FromList
-- writing back
pub mod WriteFault
pub mod Again
-- the sentences
pub mod Migrator
