-- What looks write.
pub mod Differences
pub mod Showing
pub mod ShownSteps
pub mod Stopping
