pub mod MemoryFiles
pub mod Memory
pub mod Loss
