-- What the functions of this crate need among themselves.
pub mod Blocks
pub mod Laying
pub mod Dump
