-- What the functions of this crate need among themselves.
pub mod Diff
pub mod Other
pub mod Read
pub mod Row
pub mod Turn
pub mod preview
