pub mod Note
pub mod Persons
pub mod Rule
pub mod World
pub mod files
