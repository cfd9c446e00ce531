-- Settings written back, from the words of request 2026-13.
pub mod Writing
