-- How a text is read in windows.
pub mod Damage
pub mod Entries
pub mod Judging
pub mod Recovery
pub mod Windows
