-- What the functions of this crate need among themselves.
pub mod Counting
pub mod Operands
pub mod Output
pub mod Paged
pub mod Standing
pub mod Streaming
pub mod Transfer
