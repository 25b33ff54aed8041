-- A text that is counted.
pub mod Front
pub mod Mark
pub mod Marks
pub mod Parts
pub mod Rows
pub mod Tally
