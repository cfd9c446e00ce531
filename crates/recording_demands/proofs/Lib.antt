pub mod Demands
pub mod Contract
pub mod Rest
