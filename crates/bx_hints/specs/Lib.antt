pub mod Hint
pub mod private
