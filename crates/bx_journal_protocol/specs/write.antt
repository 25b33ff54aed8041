-- The text of an entry, put to a store.
pub mod Begun
pub mod First
pub mod Page
pub mod Ranges
pub mod Touched
