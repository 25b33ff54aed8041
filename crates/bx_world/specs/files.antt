-- The files of an image.
pub mod Fit
pub mod Reasons
pub mod Files
pub mod Numbers
pub mod Reading
