-- What the functions of this crate need among themselves.
pub mod Recovering
pub mod RedoFound
pub mod Rows
