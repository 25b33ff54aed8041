-- Reports of the changes of an image.
pub mod Looks
pub mod Devices
pub mod Stepped
pub mod Unfinished
pub mod Reports
pub mod Noted
