pub mod session
pub mod Input
pub mod Edit
pub mod preview
