-- What the functions of this crate need among themselves.
pub mod Digits
pub mod Full
pub mod Lanes
pub mod Next
pub mod NextLine
pub mod PlainWindow
pub mod Rows
pub mod Unfinished
pub mod Window
