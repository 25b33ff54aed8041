-- An image behind changes that aren't made.
pub mod Changed
pub mod Index
