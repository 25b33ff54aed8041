pub mod Counting
pub mod InFile
pub mod Memory
pub mod Store
