-- The calls of C and Rust hosts.
pub mod Hosts
