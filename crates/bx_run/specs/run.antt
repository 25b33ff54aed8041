-- The one call.
pub mod Outcome
pub mod Answer
pub mod Changing
pub mod Edits
pub mod Commands
