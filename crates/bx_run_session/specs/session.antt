-- A task on the files of an image.
pub mod Changes
pub mod Contents
pub mod Guarded
pub mod Lengths
pub mod Moves
pub mod Named
pub mod Ran
pub mod Task
