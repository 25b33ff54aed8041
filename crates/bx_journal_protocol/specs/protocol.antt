-- The steps that write.
pub mod Entries
pub mod Fading
pub mod Opening
pub mod Placed
pub mod Takens
pub mod Turns
pub mod Undone
pub mod Written
