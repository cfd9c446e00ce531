-- Both policies, earliest deadline first and fixed priorities as its case of zeros, over the protocol's plain histories: what a reader must believe.
pub mod Deadline
pub mod Timed
pub mod Answering
pub mod Lowest
