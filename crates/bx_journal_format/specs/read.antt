-- A text that is read.
pub mod Event
pub mod Faded
pub mod Followed
pub mod Journal
pub mod Left
pub mod Lines
pub mod Plain
pub mod Stops
pub mod TakeLine
