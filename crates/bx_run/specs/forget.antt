-- A history that is dropped.
pub mod Forgetting
