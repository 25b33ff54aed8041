-- A dump of a named file, and of an input.
pub mod Dumps
pub mod Texts
