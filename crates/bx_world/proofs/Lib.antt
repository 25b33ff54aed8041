pub mod FileReasons
pub mod Making
pub mod Persons
pub mod Readable
pub mod Taken
pub mod Three
