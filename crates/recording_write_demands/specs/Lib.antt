-- The writer's sentences, a field for each, are in Writer: where a reader begins. Ensured has its contract, and the recording that numbers say.
pub mod Ensured
pub mod Writer
