-- The writer's sentences hold: `writer` in Writer; what it rests on is in Demands.
pub mod Demands
pub mod AsHanded
pub mod Contract
pub mod Writer
