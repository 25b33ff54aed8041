pub mod RunState
pub mod Failures
