pub mod Cached
pub mod Files
