-- The old station's list of settings, from the words of request 2026-13, and what the contracts cite.
pub mod Counted
pub mod Migration
