pub mod Laid
pub mod Plain
pub mod Writing
pub mod private
