-- What the functions of this crate need among themselves.
pub mod Change
pub mod Fuse
pub mod Pages
pub mod Spans
