pub mod Beside
pub mod Entries
pub mod Made
pub mod Survivors
