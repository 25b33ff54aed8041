pub mod before
pub mod protocol
pub mod write
