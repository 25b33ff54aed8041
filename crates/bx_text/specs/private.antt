-- What the functions of this crate need among themselves.
pub mod Capped
pub mod Dump
pub mod Fold
pub mod Number
pub mod Radix
pub mod Stream
