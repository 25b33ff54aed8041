-- What the functions of this crate need among themselves.
pub mod Beside
